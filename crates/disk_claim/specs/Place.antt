-- Where the claim of a disk stands.
use Rattle.std.specs.Prelude.{ℕ, ◌-◌, ◌%◌, ◌==◌, Option, Some, None, if◌then◌else◌}

-- the sector behind two segments, each of half the sectors of a disk, rounded down, if it begins a page of 8 sectors
abbrev pub claim_sector : ℕ → Option ℕ
claim_sector sectors = if sectors % 8 == 1 then Some (sectors - 1) else None
