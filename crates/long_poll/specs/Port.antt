-- What a port answers, whose desk is behind its lock.
use Rattle.std.specs.Prelude.{ℕ, ◌<◌, List}
use Rattle.api_core.specs.declared.call.Call.{Call}
use Rattle.hall_plans.specs.declared.error.HallError.{HallError}
use Rattle.hall_core.specs.Hall.{HallView, IsDone, request}
use Rattle.receipts.specs.Answers.{IsSlotOf, IsArrivalRefusal, IsTickRefusal}
use Rattle.receipts.specs.UnderLock.{IsNotMade, IsNotMoved}

-- the slot is one of some desk
abbrev pub IsSlot : ℕ → Type 0
IsSlot slot = (desk : ℕ) × (desk < 32) × IsSlotOf desk slot

-- a request is refused so, of a desk that was told some number
abbrev pub IsRequestRefusal : HallError → Type 0
IsRequestRefusal why = (told : ℕ) × IsArrivalRefusal told why

-- the same of a tick
abbrev pub IsMoveRefusal : HallError → Type 0
IsMoveRefusal why = (told : ℕ) × IsTickRefusal told why

-- why this hall, where so many slots were counted, is not asked the request by some desk that was told some number
abbrev pub IsRequestReason : HallView → ℕ → Call → ℕ → List ℕ → HallError → Type 0
IsRequestReason hall slots call now words why =
    (told : ℕ) × (desk : ℕ)
    × IsNotMade hall slots (record { told = told; desk = desk; call = call; now = now; words = words }) why

-- the same of a tick
abbrev pub IsMoveReason : HallView → ℕ → HallError → Type 0
IsMoveReason hall now why = (told : ℕ) × IsNotMoved hall told now why

-- just this call was done with this slot, at some moment and with some random words
abbrev pub IsDoneFor : Call → HallView → HallView → ℕ → Type 0
IsDoneFor call before after slot = (now : ℕ) × (words : List ℕ) × IsDone before after (request slot call now words)
