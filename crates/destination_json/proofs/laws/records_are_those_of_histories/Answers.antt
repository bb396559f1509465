use Rattle.std.proofs.Common.{◌≡◌, ◌≤◌, ℕ, List, Option, None, Some, refl, sym, ap, subst, ◌∙◌}
use Rattle.std.specs.Prelude.{option_map, IfSome}
use Rattle.retry_rules.specs.declared.settings.Settings.{Settings}
use Rattle.invoke_records.specs.Spelling.{greatest_moment}
use Rattle.invoke_records.specs.declared.command.Command.{Command}
use Rattle.invoke_records.specs.declared.row.Standing.{Standing}
use Rattle.invoke_records.specs.declared.row.Standing.TheVariants as standing
use Rattle.async_core.specs.Lives.{life}
use Rattle.async_core.specs.History.{standing_in}
use Rattle.async_core.specs.Readers.{Ending, ending_in, told}
use Rattle.async_core.specs.declared.readers.Ended.{Ended}
use Rattle.async_core.specs.laws.Tables.{ending-by_history}
use Rattle.destination_json.specs.Record.{record_text}
use Rattle.destination_json.specs.Laws.{record_of}
use Rattle.destination_json.proofs.Moments.{IsInTime, in_time}
use Rattle.destination_json.proofs.laws.records_are_those_of_histories.Goals as goal

-- the record of what is told
record_of-told : (s : Settings) (ended : Option Ended) → record_of s ended ≡ option_map (record_text s) (option_map told ended)
record_of-told s None = refl
record_of-told s (Some e) = refl

-- what ended in time is told so
told_in_time : (id : List ℕ) (l : List Command) (stands : Standing) → IsInTime stands → IfSome (ending_in id l stands) (λ e. e.at ≤ greatest_moment)
told_in_time id l standing.Unknown within = tt
told_in_time id l (standing.Waiting due) within = tt
told_in_time id l (standing.DueAgain due) within = tt
told_in_time id l (standing.Running environment deadline) within = tt
told_in_time id l (standing.Ended outcome at) within = within

from_told : (ended : Option Ended) → IfSome (option_map told ended) (λ (e : Ending). e.at ≤ greatest_moment) → IfSome ended (λ e. e.at ≤ greatest_moment)
from_told None within = tt
from_told (Some e) within = within

pub returns-clause-same : goal.returns-clause-same
returns-clause-same c t id ended is history legal stands =
    record_of-told t.settings ended ∙ ap (option_map (record_text t.settings)) (is ∙ ending-by_history t.settings t.table history id legal stands)

pub returns-clause-moment : goal.returns-clause-moment
returns-clause-moment c t id ended is history good legal stands =
    from_told ended (subst (λ (o : Option Ending). IfSome o (λ e. e.at ≤ greatest_moment)) (sym (is ∙ ending-by_history t.settings t.table history id legal stands))
    (told_in_time id (life id history) (standing_in t.settings history id) (in_time t.settings history good legal id)))
