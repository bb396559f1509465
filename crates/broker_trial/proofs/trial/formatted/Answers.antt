use Rattle.std.proofs.Common.{subst}
use Rattle.sector_disk.specs.Memory.{memory_view}
use Rattle.retry_rules.specs.declared.settings.Settings.{Settings}
use Rattle.async_core.specs.Rules.{empty_table}
use Rattle.async_core.specs.laws.Tables.{IsLegal-nil}
use Rattle.checkpoint.specs.Live.{RecoversTo}
use Rattle.broker_trial.specs.Trial.{trial_settings}
use Rattle.broker_trial.proofs.Trials.{formatted_stops}
use Rattle.broker_trial.proofs.trial.formatted.Goals as goal

pub returns : goal.returns
returns c =
    let formatted = c.in_ok-format.ensures.formatted tt in
    let recovers = subst (λ (s : Settings). RecoversTo s (empty_table s) (memory_view c.format.new.disk).content) c.in_ok-settings.ensures formatted.1 in
    record { legal = IsLegal-nil trial_settings; stops = formatted_stops (memory_view c.format.new.disk) formatted.0 recovers }
