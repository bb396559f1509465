-- When a clock that is set ahead is held back.
use Rattle.std.specs.Prelude.{ℕ, ◌+◌, ◌-◌, ◌/◌, ◌<◌}
use Rattle.std.specs.declared.time.Instant.{Instant}
use Rattle.std.specs.Time.{instant_nanos}
use Rattle.port_meters.specs.declared.held_clock.Told.{Told}

-- what is to be told now, where the clock was not set since this was told
abbrev pub expected : Told → Instant → ℕ
expected told now = told.at + (instant_nanos now - instant_nanos told.steady) / 1_000_000

-- the clock shows more than an hour more than that, and than all that was told before
abbrev pub IsJump : Told → (shown : ℕ) → Instant → Type 0
IsJump told shown now = (expected told now + 3600000 < shown) × (told.greatest + 3600000 < shown)
