-- A claim in memory as contracts see it.
use Rattle.disk_claim.specs.Volume.{VolumeView}
use Rattle.disk_claim.specs.declared.memory_volume.MemVolume.{MemVolume}

-- the claim at a moment
abbrev pub memory_view : MemVolume → VolumeView
memory_view volume = record { kept = volume.kept; device = volume.device; honest = Unit {0} }
