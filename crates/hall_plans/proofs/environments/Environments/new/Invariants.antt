use Rattle.std.proofs.Common.{◌≡◌, length, []}
use Rattle.hall_plans.specs.Environments.{HoldFor}
use Rattle.hall_plans.proofs.environments.Environments.new.Given as goal

-- as many as were counted so far
abbrev pub invariant-loop-place : goal.invariant-loop-place
invariant-loop-place l = record { long : length l.list.items ≡ l.place; hold : HoldFor l.extensions l.list.items [] }
