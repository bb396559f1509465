use Rattle.std.proofs.Common.{ℕ, subst, ◌∙◌}
use Rattle.long_poll.specs.Waiting.{IsTaken}
use Rattle.long_poll.proofs.waiting.WaitingFuture.poll.Goals as goal

pub returns-in_default-clause-same : goal.returns-in_default-clause-same
returns-in_default-clause-same g c x taken = subst (λ (n : ℕ). IsTaken n x) c.cause.ensures.same.0 taken

pub returns-in_default-clause-registered : goal.returns-in_default-clause-registered
returns-in_default-clause-registered g c = rw c.cause.ensures.same.1 c.in_default.ensures.covers

pub returns-in_default-clause-kept : goal.returns-in_default-clause-kept
returns-in_default-clause-kept g c = c.cause.ensures.kept

pub returns-in-Some-ask-clause-value : goal.returns-in-Some-ask-clause-value
returns-in-Some-ask-clause-value g c = subst (λ (n : ℕ). IsTaken n c.in-Some-ask.told) c.cause.ensures.same.0 c.in-Some-ask.ensures.takes

pub returns-in-Some-ask-clause-kept : goal.returns-in-Some-ask-clause-kept
returns-in-Some-ask-clause-kept g c = c.cause.ensures.kept

pub returns-in-Some-wait-clause-value : goal.returns-in-Some-wait-clause-value
returns-in-Some-wait-clause-value g c =
    subst (λ (n : ℕ). IsTaken n c.in-Some-wait.told) (c.ask.ensures.same.0 ∙ c.cause.ensures.same.0) c.in-Some-wait.ensures.takes

pub returns-in-Some-wait-clause-kept : goal.returns-in-Some-wait-clause-kept
returns-in-Some-wait-clause-kept g c fact holds = c.wait.ensures.kept fact (c.cause.ensures.kept fact holds)

pub returns-in-None-clause-same : goal.returns-in-None-clause-same
returns-in-None-clause-same g c x taken =
    subst (λ (n : ℕ). IsTaken n x) (c.wait.ensures.same.0 ∙ c.ask.ensures.same.0 ∙ c.cause.ensures.same.0) taken

pub returns-in-None-clause-registered : goal.returns-in-None-clause-registered
returns-in-None-clause-registered g c = rw (c.wait.ensures.same.1) c.in-None.ensures.covers

pub returns-in-None-clause-kept : goal.returns-in-None-clause-kept
returns-in-None-clause-kept g c fact holds = c.wait.ensures.kept fact (c.cause.ensures.kept fact holds)
