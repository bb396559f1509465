use Rattle.std.proofs.Common.{◌≡◌, ◌∷◌, ◌++◌, take}
use Rattle.std.specs.List.{flat_map}
use Rattle.signed_requests.specs.Canonical.{pair_text}
use Rattle.signed_requests.specs.Pairs.{pair_of}
use Rattle.signed_requests.proofs.query.push_more.Given as goal

abbrev pub invariant-loop-pair : goal.invariant-loop-pair
invariant-loop-pair l = l.out.items ≡ l.initial.out.items ++ flat_map (λ p. 38 ∷ pair_text (pair_of p)) (take l.pair-index l.pairs)
