use Rattle.std.proofs.Common.{◌≡◌, ◌++◌, length}
use Rattle.signed_requests.specs.Canonical.{single_spaced}
use Rattle.signed_requests.proofs.headers.push_single_spaced.Given as goal

abbrev pub invariant-loop-rest : goal.invariant-loop-rest
invariant-loop-rest l = l.out.items ++ single_spaced l.rest ≡ l.initial.out.items ++ single_spaced l.text

abbrev pub decreases-loop-rest : goal.decreases-loop-rest
decreases-loop-rest l = length l.rest
