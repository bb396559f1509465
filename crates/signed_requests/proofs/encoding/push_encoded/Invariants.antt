use Rattle.std.proofs.Common.{◌≡◌, ◌++◌, take}
use Rattle.std.specs.List.{flat_map}
use Rattle.signed_requests.specs.Encoding.{encoded_byte}
use Rattle.signed_requests.proofs.encoding.push_encoded.Given as goal

abbrev pub invariant-loop-b : goal.invariant-loop-b
invariant-loop-b l = l.out.items ≡ l.initial.out.items ++ flat_map encoded_byte (take l.b-index l.bytes)
