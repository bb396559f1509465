-- Why a hall refuses a call.
use Rattle.std.specs.Prelude.{ℕ, ◌-◌, ◌^◌, Bool, ◌&&◌, List, [], ◌∷◌, length, Option, Some, None, is_some, if◌then◌else◌, nat_le}
use Rattle.retry_rules.specs.declared.settings.Settings.{Settings}
use Rattle.hall_plans.specs.declared.error.HallError.{HallError}
use Rattle.hall_plans.specs.declared.error.HallError.TheVariants.{Broken, Stopping, WornOut, Backlog}
use Rattle.hall_plans.specs.Past.{HallCall, arrive, tick, Past, is_stopping}
use Rattle.hall_plans.specs.Effects.{command_of}
use Rattle.hall_plans.specs.Slots.{open_slots}

-- the first check that fails
abbrev pub first_failed : List (Bool × HallError) → Option HallError
first_failed [] = None
first_failed (check ∷ checks) = if check.0 then Some check.1 else first_failed checks

-- a call that has a command needs a number for it, and room among the pending commands
abbrev pub checks : Bool → ℕ → Settings → Past → HallCall → List (Bool × HallError)
checks broken durable s past (arrive slot call now words) =
    (broken, Broken)
    ∷ (is_stopping past, Stopping)
    ∷ (is_some (command_of s past (arrive slot call now words)) && nat_le (2 ^ 62) (length past.history), WornOut)
    ∷ (nat_le 1024 (length (open_slots broken past)), Backlog)
    ∷ (is_some (command_of s past (arrive slot call now words)) && nat_le 256 (length past.history - durable), Backlog)
    ∷ []
checks broken durable s past (tick now) =
    (broken, Broken)
    ∷ (is_some (command_of s past (tick now)) && nat_le (2 ^ 62) (length past.history), WornOut)
    ∷ (is_some (command_of s past (tick now)) && nat_le 256 (length past.history - durable), Backlog)
    ∷ []
checks broken durable s past call = []

-- why a call is refused, if it is, want of memory aside
unfoldable pub why_refused : Bool → ℕ → Settings → Past → HallCall → Option HallError
why_refused broken durable s past call = first_failed (checks broken durable s past call)
