use Rattle.std.proofs.Common.{ℕ, inl, inr, subst}
use Rattle.admin_port.specs.Replying.{TellsLine}
use Rattle.admin_port.proofs.refusing.refuse_as.Goals as goal

pub returns : goal.returns
returns c =
    elim c.refuse.ensures [
      | inl alone ↦ inl alone
      | inr line ↦ inr (c.args.words.now, subst (λ (s : ℕ). TellsLine s c.args.words.now c.refuse.result) c.status.ensures line)
    ]
