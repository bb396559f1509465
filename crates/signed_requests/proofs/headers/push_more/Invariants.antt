use Rattle.std.proofs.Common.{◌≡◌, ◌∷◌, ◌++◌}
use Rattle.std.specs.List.{flat_map}
use Rattle.http_header.specs.FieldValue.{FieldValue}
use Rattle.signed_requests.specs.Canonical.{trim_all}
use Rattle.signed_requests.proofs.headers.push_more.Given as goal

abbrev pub invariant-loop-value : goal.invariant-loop-value
invariant-loop-value l =
    l.out.items ++ flat_map (λ (v : FieldValue). 44 ∷ trim_all v.bytes) l.value-iterator
    ≡ l.initial.out.items ++ flat_map (λ (v : FieldValue). 44 ∷ trim_all v.bytes) l.initial.value-iterator
