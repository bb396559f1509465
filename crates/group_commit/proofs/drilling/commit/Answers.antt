use Rattle.std.proofs.Common.{⊎_elim, inl, inr, Err, ap}
use Rattle.group_commit.specs.declared.script.Step.TheVariants as step
use Rattle.group_commit.proofs.Drilled.{unbroken, pending_unless, committed, not_committed}
use Rattle.group_commit.proofs.drilling.commit.Goals as goal

pub returns-in-Ok : goal.returns-in-Ok
returns-in-Ok c = record {
  step = λ history stands.
      let old = c.args.broker.now in
      committed old c.commit.new.self history (c.in-Ok.ensures.stands history stands) c.number.result c.in-Ok.durable c.number.ensures
      (unbroken _ (λ broken. let wrong = c.in-Ok.ensures.broken.1 broken in cc)) stands c.in-Ok.ensures.ok (c.in-Ok.ensures.acknowledged history stands) c.in-Ok.ensures.stays c.in-Ok.ensures.switches;
}

pub returns-in-Err : goal.returns-in-Err
returns-in-Err c = record {
  step = λ history stands.
      let old = c.args.broker.now in
      let new = c.commit.new.self in
      not_committed old new history (c.in-Err.ensures.stands history stands) step.Commit _ (pending_unless old new history stands c.in-Err.why c.in-Err.ensures.nothing) (λ why next is says. (is, says))
      c.in-Err.why (λ is. c.in-Err.ensures.broken.0 (ap Err is)) (λ broken. let told = c.in-Err.ensures.broken.1 broken in cc) (λ is. c.in-Err.ensures.sound history stands (ap Err is))
      (λ is. (c.in-Err.ensures.worn_out (ap Err is)).0) (λ is. c.in-Err.ensures.breaks (ap Err is)) (⊎_elim (λ fault. inl (cc)) (λ same. inr same) c.in-Err.ensures.kept);
}
