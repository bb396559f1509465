-- The phase that is told of an environment.
use Rattle.env_phase.specs.declared.phase.Phase.{Phase as Told}
use Rattle.env_phase.specs.declared.phase.Phase.TheVariants as told
use Rattle.env_phase.specs.Environment.{Phase, init, ready, busy, closing}

-- each is told by its own name
abbrev pub phase_told : Told → Phase
phase_told told.Init = init
phase_told told.Ready = ready
phase_told told.Busy = busy
phase_told told.Closing = closing
