use Rattle.std.proofs.Common.{◌≡◌, ℕ, zero, suc, List, [], ◌∷◌, get_or, refl, bit_xor, arith}
use Rattle.std.proofs.lemmas.List.Edits.{map_over_more}
use Rattle.signed_requests.proofs.hmac.with_pad.Goals as goal

read_twice : (xs : List ℕ) (i : ℕ) → get_or xs i 0 ≡ get_or xs i (get_or xs i 0)
read_twice [] i = refl
read_twice (x ∷ xs) zero = refl
read_twice (x ∷ xs) (suc i) = read_twice xs i

pub loop-i-preserved : goal.loop-i-preserved
loop-i-preserved c =
    map_over_more (λ b. bit_xor b c.args.pad) c.args.block.now c.loop-i.out c.loop-i.i _ (omega arith) c.loop-i.invariant (read_twice c.loop-i.out c.loop-i.i)
