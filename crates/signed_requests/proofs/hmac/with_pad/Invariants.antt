use Rattle.std.proofs.Common.{◌≡◌, ◌++◌, take, drop, map, bit_xor}
use Rattle.signed_requests.proofs.hmac.with_pad.Given as goal

abbrev pub invariant-loop-i : goal.invariant-loop-i
invariant-loop-i l = l.out ≡ map (λ b. bit_xor b l.pad) (take l.i l.block) ++ drop l.i l.block
