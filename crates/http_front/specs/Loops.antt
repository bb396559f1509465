-- That the loops of a front ran.
use Rattle.std.specs.Prelude.{◌≡◌, Result, IfOk}
use Rattle.commit_loop.specs.declared.gate.Turn.{Turn}
use Rattle.commit_loop.specs.declared.gate.Turn.TheVariants.{End}
use Rattle.commit_loop.specs.declared.committer.CommitterRan.{CommitterRan}

-- a committer's loop ran from this broker to that one, as this view of what was shown has them; if its own gate ended it, by what
-- leads to that
pub record HasRun {S B E F : Type 0} (view : S → B) (leads_to : E → Turn → Type 0) (before after : B) (ran : CommitterRan S (Result E F)) : Type 0 where
  pub from : view ran.before.value ≡ before
  pub to : view ran.after.value ≡ after
  pub ended : IfOk ran.seen (λ seen. leads_to seen End)
