use Rattle.std.proofs.Common.{[], ◌∷◌}
use Rattle.broker_trial.specs.Trial.{trial_acceptance}
use Rattle.broker_trial.proofs.Trials.{closed_holds}
use Rattle.broker_trial.proofs.trial.accept.Goals as goal

pub returns : goal.returns
returns c opened =
    let facts = c.in_ok-number.ensures opened in
    record { first = facts.0; durable = facts.1; holds = closed_holds c.issue.new.broker c.close.result (trial_acceptance ∷ []) facts.2 c.close.ensures.disk }
