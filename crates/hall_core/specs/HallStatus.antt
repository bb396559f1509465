-- What an operator is shown of a hall.
use Rattle.std.specs.Prelude.{◌≡◌, ℕ}
use Rattle.operator_view.specs.Tally.{IsTally}
use Rattle.hall_core.specs.declared.looking.HallStatus.{HallStatus}
use Rattle.hall_core.specs.declared.seeking.Sought.{Sought}
use Rattle.hall_core.specs.Seeking.{AreRowsFor, counted_for}
use Rattle.hall_plans.specs.Past.{calls_of}
use Rattle.hall_plans.specs.Environments.{numbers}
use Rattle.hall_plans.specs.Showing.{AreShownAfter, numbers_shown}
use Rattle.hall_core.specs.Hall.{HallView, ForEachPast, open_slot_count}

-- what is shown at a moment to one who seeks this is the hall's: its parts, one environment for each number in order, and each as
-- its past left it
pub record Shows (hall : HallView) (wanted : Sought) (at : ℕ) (status : HallStatus) : Type 0 where
  pub issued : status.issued ≡ hall.issuer.table.number
  pub durable : status.durable ≡ hall.issuer.durable
  pub policy : status.policy ≡ hall.issuer.table.policy
  pub tally : IsTally (counted_for wanted hall.issuer.table.rows) at status.tally
  pub last_moment : status.tally.last_moment ≡ hall.issuer.table.last_moment
  pub sought : status.sought ≡ wanted
  pub rows : AreRowsFor wanted hall.issuer.table.rows status.rows
  pub open_slots : status.open_slots ≡ open_slot_count hall
  pub stopping : status.is_stopping ≡ hall.stops
  pub numbers : numbers_shown status.environments.items ≡ numbers hall.environments
  pub environments : ForEachPast hall (λ past. AreShownAfter past.wanted (calls_of past) status.environments.items)
