-- Lemmas: the moment of a planner is that of the call.
use Rattle.std.proofs.Common.{◌≡◌, ℕ, ◌≤◌, refl, arith}
use Rattle.std.specs.Prelude.{max, min}
use Rattle.invoke_records.specs.Spelling.{greatest_moment}
use Rattle.async_core.specs.State.{State}
use Rattle.async_core.specs.History.{table_of, last_moment}
use Rattle.env_phase.specs.State.{EnvState}
use Rattle.std.proofs.Common.{List}
use Rattle.hall_plans.specs.Past.{Past, moment}
use Rattle.hall_plans.specs.Plans.{Meets}
use Rattle.hall_plans.specs.laws.Legal.{last_moment_fits}

last_is : (table : State) (environments : List EnvState) (past : Past) → Meets table environments past → table.table.last_moment ≡ last_moment past.history
unfolding table_of
last_is table environments past meets = rw meets.table_is refl

pub moment_is : (table : State) (environments : List EnvState) (past : Past) (now : ℕ) → Meets table environments past → now ≤ greatest_moment
    → min (max now table.table.last_moment) greatest_moment ≡ moment past now
moment_is table environments past now meets le =
    let last : last_moment past.history ≤ greatest_moment = last_moment_fits table.settings past.history meets.kept.all.legal in
    let is : table.table.last_moment ≡ last_moment past.history = last_is table environments past meets in
    rw is (omega arith)
