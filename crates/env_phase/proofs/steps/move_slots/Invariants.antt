use Rattle.std.proofs.Common.{◌≡◌, map, ◌++◌, take, drop}
use Rattle.env_phase.specs.Steps as step
use Rattle.env_phase.proofs.steps.move_slots.Given as goal

-- those before the place have moved
abbrev pub invariant-loop-waiter : goal.invariant-loop-waiter
invariant-loop-waiter l =
    map (step.waiter_after l.call) l.fn.waiters
    ≡ take l.waiter-index l.waiters ++ map (step.waiter_after l.call) (drop l.waiter-index l.waiters)
