use Rattle.std.proofs.Common.{◌≡◌, map, take}
use Rattle.signed_requests.specs.Canonical.{encoded_pair}
use Rattle.signed_requests.specs.Steps.{slices}
use Rattle.signed_requests.specs.Pairs.{pairs_of}
use Rattle.signed_requests.proofs.query.read_pairs.Given as goal

abbrev pub invariant-loop-part : goal.invariant-loop-part
invariant-loop-part l = pairs_of l.pairs.items ≡ map encoded_pair (slices (take l.part-index l.part-items))
