-- A slot that waits has the reply then, one that was forgotten is closed, and any other stays.
use Rattle.std.proofs.Common.{◌≡◌, ◌∙◌, sym, Some, None, rules}
use Rattle.hall_core.specs.declared.open_slot.SlotStanding.TheVariants.{Waiting, Forgotten, Replied}
use Rattle.hall_core.proofs.Kept.{waiting_is_replied, forgotten_is_replied, replied_stays, closed_is_replied}
use Rattle.hall_core.proofs.slots.Slots.reply.Goals as goal

pub returns-in-Some-Waiting : goal.returns-in-Some-Waiting
returns-in-Some-Waiting c =
    let stands : c.standing.result ≡ Some Waiting = search rules in
    λ s events keeps answer told. waiting_is_replied s c.args.self.now events c.args.slot c.set_reply.new.self c.args.reply c.args.ticket answer keeps
    (sym c.standing.ensures ∙ stands) c.set_reply.ensures told

pub returns-in-Some-Forgotten : goal.returns-in-Some-Forgotten
returns-in-Some-Forgotten c =
    let stands : c.standing.result ≡ Some Forgotten = search rules in
    λ s events keeps answer told. forgotten_is_replied s c.args.self.now events c.args.slot c.close.new.self c.args.ticket answer keeps
    (sym c.standing.ensures ∙ stands) c.close.ensures.closed

pub returns-in-Some-Replied : goal.returns-in-Some-Replied
returns-in-Some-Replied c =
    let stands : c.standing.result ≡ Some Replied = search rules in
    λ s events keeps answer told. replied_stays s c.args.self.now events c.args.slot c.args.ticket answer keeps (sym c.standing.ensures ∙ stands)

pub returns-in-None : goal.returns-in-None
returns-in-None c =
    let stands : c.standing.result ≡ None = search rules in
    λ s events keeps answer told. closed_is_replied s c.args.self.now events c.args.slot c.args.ticket answer keeps (sym c.standing.ensures ∙ stands)
