use Rattle.std.proofs.Common.{◌≡◌, ◌++◌, drop}
use Rattle.hall_plans.specs.Run.{slots_of}
use Rattle.hall_plans.proofs.answering.slots_of_polls.Given as goal

-- the slots so far, and those of the rest
abbrev pub invariant-loop-slot : goal.invariant-loop-slot
invariant-loop-slot l = slots_of l.answered ≡ l.slots.items ++ slots_of (drop l.slot-index l.answered)
