-- Lemmas: the full table that is told of has as many records as the history says.
use Rattle.std.proofs.Common.{◌≡◌, ℕ, List, ap, ◌∙◌}
use Rattle.invoke_records.specs.declared.row.EventRow.{EventRow}
use Rattle.invoke_records.specs.declared.snapshot.Snapshot.{Snapshot}
use Rattle.async_core.specs.State.{State}
use Rattle.async_core.specs.declared.choice.Side.{Side}
use Rattle.async_core.specs.declared.choice.Side.TheVariants as side
use Rattle.async_core.specs.History.{held, row_of, table_of}
use Rattle.async_core.specs.Choice.{ended_on}
use Rattle.async_core.specs.laws.Tables.{count_by-map}
use Rattle.env_phase.specs.State.{EnvState}
use Rattle.async_core.specs.Tallies.{ended_at}
use Rattle.api_core.specs.Replies.{table_full, full_of}
use Rattle.hall_plans.specs.Past.{Past}
use Rattle.hall_plans.specs.Effects.{Scene, record_count, record_counts}
use Rattle.hall_plans.specs.Plans.{Meets, scene_at}

counted : (x : Scene) (s : Side) → ended_at s (table_of x.settings x.past.history).rows ≡ record_count x s
unfolding table_of
counted x s = count_by-map (λ (r : EventRow). ended_on s r.standing) (row_of x.settings x.past.history) (held x.past.history)

pub full_is : (table : State) (environments : List EnvState) (past : Past) (now : ℕ) → Meets table environments past
    → full_of table.table.rows ≡ table_full (record_counts (scene_at table past now)).0 (record_counts (scene_at table past now)).1
full_is table environments past now meets =
    let x = scene_at table past now in
    ap (λ (t : Snapshot). full_of t.rows) meets.table_is
    ∙ ap (λ n. table_full n (ended_at side.Failure (table_of x.settings x.past.history).rows)) (counted x side.Success)
    ∙ ap (λ n. table_full (record_count x side.Success) n) (counted x side.Failure)
