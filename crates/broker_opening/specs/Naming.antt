-- That a disk is another function's.
use Rattle.broker_opening.specs.declared.error.OpeningError.{OpeningError}
use Rattle.broker_opening.specs.declared.error.OpeningError.TheVariants.{OutOfMemory, OtherFunction}

-- it is refused as that, or since memory for its name is wanting
abbrev pub IsOtherFunction : OpeningError → Type 0
IsOtherFunction (OtherFunction name) = Unit {0}
IsOtherFunction (OutOfMemory why) = Unit {0}
IsOtherFunction other = ⊥
