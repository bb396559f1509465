-- Why the office and the front refuse.
use Rattle.http_front.specs.declared.error.ArrivalError.{ArrivalError}
use Rattle.http_front.specs.declared.error.ArrivalError.TheVariants as arrival
use Rattle.long_poll.specs.Port.{IsRequestRefusal}

-- the hall refused it as it refuses a request, or the system failed
abbrev pub IsArrivalError : ArrivalError → Type 0
IsArrivalError (arrival.Hall why) = IsRequestRefusal why
IsArrivalError (arrival.System why) = Unit {0}
