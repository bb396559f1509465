-- A hall to which nothing has come yet.
use Rattle.std.specs.Prelude.{◌≡◌, false, [], length}
use Rattle.retry_rules.specs.declared.settings.Settings.{Settings}
use Rattle.api_core.specs.Replies.{Words}
use Rattle.broker_core.specs.declared.issuer.Issuer.{Ghosts}
use Rattle.hall_core.specs.declared.hall.Hall.{Hall}
use Rattle.hall_plans.specs.Environments.{HoldFor}
use Rattle.hall_core.specs.OpenSlots.{KeepFor}

-- nothing has come to a hall with these settings: by its parts, whatever history its table is of
pub record IsFresh {I : Type 0} {g : Ghosts I} (s : Settings) (hall : Hall I g) : Type 0 where
  pub count : length hall.environments ≡ s.environments
  pub hold : HoldFor hall.wanted hall.environments []
  pub slots : (w : Words) → KeepFor w hall.slots []
  pub stops : hall.stops ≡ false
