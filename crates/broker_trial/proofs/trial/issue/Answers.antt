use Rattle.std.proofs.Common.{◌≡◌, ◌∷◌, [], ◌∙◌, subst}
use Rattle.sector_disk.specs.Memory.{memory_view}
use Rattle.invoke_records.specs.declared.command.Command.{Command}
use Rattle.broker_core.specs.Broker.{settings_of, Stands}
use Rattle.broker_trial.specs.Trial.{trial_settings, trial_acceptance}
use Rattle.broker_trial.proofs.trial.issue.Goals as goal

pub returns : goal.returns
returns c first =
    let issued = c.in_ok-issue.ensures.stands [] first.2 in
    let stands : Stands memory_view c.issue.new.self (trial_acceptance ∷ []) = subst (λ (x : Command). Stands memory_view c.issue.new.self (x ∷ [])) c.in_ok-acceptance.ensures issued.2 in
    let committed = c.in_ok-commit.ensures.acknowledged (trial_acceptance ∷ []) stands in
    let kept : settings_of c.commit.new.self ≡ trial_settings = c.in_ok-commit.ensures.ok.settings ∙ c.in_ok-issue.ensures.ok.settings ∙ first.0 in
    (c.number-number.ensures ∙ issued.1, c.number-durable.ensures ∙ committed.0, (kept, committed.1, c.in_ok-commit.ensures.stands (trial_acceptance ∷ []) stands))
