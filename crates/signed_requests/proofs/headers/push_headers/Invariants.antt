use Rattle.std.proofs.Common.{◌≡◌, ◌++◌, take}
use Rattle.std.specs.List.{flat_map}
use Rattle.signed_requests.specs.Canonical.{canonical_header}
use Rattle.signed_requests.specs.Steps.{slices}
use Rattle.signed_requests.proofs.headers.push_headers.Given as goal

abbrev pub invariant-loop-name : goal.invariant-loop-name
invariant-loop-name l = l.out.items ≡ l.initial.out.items ++ flat_map (canonical_header l.headers) (slices (take l.name-index l.names))
