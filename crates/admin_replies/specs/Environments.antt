-- Environments by their phase.
use Rattle.std.specs.Prelude.{Bool, true, false}
use Rattle.env_phase.specs.declared.phase.Phase.{Phase}
use Rattle.env_phase.specs.declared.phase.Phase.TheVariants.{Init, Ready, Busy, Closing}

abbrev pub is_phase : Phase → Phase → Bool
is_phase Init Init = true
is_phase Ready Ready = true
is_phase Busy Busy = true
is_phase Closing Closing = true
is_phase phase other = false
