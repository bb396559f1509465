-- The order of some times.
use Rattle.std.specs.Prelude.{ℕ, ◌+◌, ◌<◌, ◌≤◌, List, length, slice_index}

-- none is greater than the one behind it
abbrev pub IsRising : List ℕ → Type 0
IsRising times = (k : ℕ) → k + 1 < length times → slice_index times k ≤ slice_index times (k + 1)
