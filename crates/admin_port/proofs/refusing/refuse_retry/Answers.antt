use Rattle.std.proofs.Common.{ℕ, subst}
use Rattle.admin_port.specs.Acting.{TellsOf}
use Rattle.admin_port.proofs.refusing.refuse_retry.Goals as goal

pub returns-in-Ok : goal.returns-in-Ok
returns-in-Ok c = subst (λ (s : ℕ). TellsOf s c.refuse_act.result) c.status.ensures c.refuse_act.ensures
