use Rattle.std.proofs.Common.{sym, ◌∙◌}
use Rattle.admin_port.proofs.Tried.{no_other}
use Rattle.admin_port.proofs.asked.Answered.accepted_id.Goals as goal

pub returns-else-eq : goal.returns-else-eq
returns-else-eq g c =
    no_other c.args.self.now.told.answer c.in_ok-name.name.now c.in_ok-name.value.now (sym c.in_ok-name.ensures) (sym c.eq.ensures ∙ c.if-eq.false)
