use Rattle.std.proofs.Common.{◌≡◌, ◌∷◌, [], sym, ap, ◌∙◌, subst}
use Rattle.retry_rules.specs.declared.settings.Settings.{Settings}
use Rattle.async_core.specs.State.{State}
use Rattle.async_core.specs.History.{IsLegal, standing_in, table_of}
use Rattle.broker_trial.specs.Trial.{trial_acceptance}
use Rattle.broker_trial.proofs.Trials.{accepted_standing}
use Rattle.broker_trial.proofs.trial.recovered.Goals as goal

pub returns : goal.returns
returns c holds =
    let history = trial_acceptance ∷ [] in
    let opened = c.in_ok-open.ensures history holds in
    let state = c.table.ensures in
    let legal : IsLegal c.table.result.now.settings history = subst (λ (x : State). IsLegal x.settings history) (sym state) opened.2.legal in
    let table : c.table.result.now.table ≡ table_of c.table.result.now.settings history =
    subst (λ (x : State). x.table ≡ table_of x.settings history) (sym state) opened.2.table_is in
    c.standing.ensures.by_history history legal table
    ∙ ap (λ (x : State). standing_in x.settings history trial_acceptance.id) state
    ∙ ap (λ (s : Settings). standing_in s history trial_acceptance.id) opened.0
    ∙ accepted_standing
