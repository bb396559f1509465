-- The claim of a volume that others may write, too.
use Rattle.std.specs.Prelude.{◌↔◌, ℕ, List, [], Option, Some, None}

-- the claim at a moment
pub record VolumeView : Type 1 where
  -- the bytes that this machine keeps of it, if it does
  pub kept : Option (List ℕ)
  -- the bytes that stand on the device at this moment, whoever wrote them
  pub device : List ℕ
  -- the volume does what the contracts say of bytes; each of those has it as a premise
  pub honest : Type 0

-- whether it is honest stays
abbrev pub IsSameVolume : VolumeView → VolumeView → Type 0
IsSameVolume old new = new.honest ↔ old.honest

-- what a read gives: what was kept, else what stands on the device
abbrev pub read_of : Option (List ℕ) → List ℕ → List ℕ
read_of (Some kept) device = kept
read_of None device = device

-- a volume of which nothing is claimed
abbrev pub unclaimed : VolumeView
unclaimed = record { kept = None; device = []; honest = ⊥ }
