-- What an operator is shown of an office, once all of it is durable.
use Rattle.std.specs.Prelude.{◌≡◌, ℕ, List}
use Rattle.broker_core.specs.Issuer.{issued_in}
use Rattle.hall_core.specs.declared.seeking.Sought.{Sought}
use Rattle.hall_core.specs.Hall.{HallView}
use Rattle.hall_core.specs.HallStatus.{Shows}
use Rattle.receipts.specs.declared.mark.Mark.{Mark}
use Rattle.receipts.specs.declared.view.Unreleased.{Unreleased}
use Rattle.receipts.specs.Counters.{counters_of}

-- at a moment it shows this hall to one who seeks this, with the counters of its marks, and is unreleased until all that the hall
-- issued is durable
pub record IsViewOf (hall : HallView) (marks : List Mark) (sought : Sought) (at : ℕ) (shown : Unreleased) : Type 0 where
  pub shows : Shows hall sought at shown.view.hall
  pub counters : shown.view.counters ≡ counters_of marks
  pub number : shown.number ≡ issued_in hall.issuer
