use Rattle.std.proofs.Common.{sym, ◌∙◌}
use Rattle.hall_core.proofs.Settled.{keeps_own}
use Rattle.hall_core.proofs.slots.Slots.reply_own.Goals as goal

-- src/settling.rt:22:5
pub returns-in-Some : goal.returns-in-Some
returns-in-Some c = λ s events keep told is.
    keeps_own s c.reply.new.self events c.args.slot c.args.ticket c.in-Some.reply told (sym c.in-Some.is ∙ is) (c.reply.ensures s events keep)
