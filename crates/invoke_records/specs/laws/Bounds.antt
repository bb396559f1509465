-- Numbers within bounds, and texts behind their length: what is read is spelled so, and what is spelled so is read. Lemmas.
use Rattle.std.proofs.Common.{◌≡◌, ℕ, ◌^◌, ◌<◌, ◌≤◌, Bool, false, not, ltb, List, [], ◌∷◌, ◌++◌, length, Result, Ok, refl, sym, ap, subst, ◌∙◌, arith}
use Rattle.std.specs.List.{list_all}
use Rattle.std.specs.Int.{Width, w32, to_be_bytes}
use Rattle.std.proofs.lemmas.Bool.{ltb-false, le-ltb}
use Rattle.retry_rules.specs.declared.policy.RetryPolicy.{RetryPolicy}
use Rattle.retry_rules.specs.Settings.{is_outside, is_bad_text, is_bad_policy}
use Rattle.invoke_records.specs.declared.error.RecordError.{RecordError}
use Rattle.invoke_records.specs.declared.error.RecordError.TheVariants as fault
use Rattle.invoke_records.specs.Spelling.{IsBytes, short_text, policy_text}
use Rattle.invoke_records.specs.Reading.{◌>>=◌, unless, byte_at, bytes_at, number_at, small_at, limit_at, sized_at, text_at, policy_at}
use Rattle.invoke_records.specs.laws.Fields.{bind_ok, unless_ok, Takes, Takes-then, byte_takes, bytes_takes, bytes_again, IsWide, number_takes, number_again, wide32, ok_is, both_false, either_false}

pub small_takes : (least most : ℕ) (bytes : List ℕ) (x : ℕ × List ℕ) → IsBytes bytes → small_at least most bytes ≡ Ok x → Takes bytes (x.0 ∷ []) x.1 × (is_outside least most x.0 ≡ false)
unfolding small_at
small_takes least most bytes x fits e =
    let a = bind_ok (byte_at bytes) _ x e in
    let g = unless_ok (is_outside least most a.0.0) fault.BadKind a.0 x a.2 in
    let t = byte_takes bytes a.0 fits a.1 in
    subst (λ (y : ℕ × List ℕ). Takes bytes (y.0 ∷ []) y.1 × (is_outside least most y.0 ≡ false)) g.1 (t.0, g.0)

pub small_again : (least most n : ℕ) (rest : List ℕ) → is_outside least most n ≡ false → small_at least most (n ∷ rest) ≡ Ok (n, rest)
unfolding small_at
small_again least most n rest inside = ap (λ (b : Bool). unless b fault.BadKind (n, rest)) inside

pub limit_takes : (w : Width) (limit : ℕ) (wide : IsWide w limit) (least most : ℕ) (bytes : List ℕ) (x : ℕ × List ℕ) → IsBytes bytes → limit_at w least most bytes ≡ Ok x
    → Takes bytes (to_be_bytes w x.0) x.1 × (is_outside least most x.0 ≡ false)
unfolding limit_at
limit_takes w limit wide least most bytes x fits e =
    let a = bind_ok (number_at w bytes) _ x e in
    let g = unless_ok (is_outside least most a.0.0) fault.BadKind a.0 x a.2 in
    let t = number_takes w limit wide bytes a.0 fits a.1 in
    subst (λ (y : ℕ × List ℕ). Takes bytes (to_be_bytes w y.0) y.1 × (is_outside least most y.0 ≡ false)) g.1 (t.0, g.0)

pub most_of : (least most n : ℕ) → is_outside least most n ≡ false → n ≤ most
most_of least most n inside = ltb-false most n (both_false (ltb n least) (ltb most n) inside).1

pub limit_most : (w : Width) (least most : ℕ) (bytes : List ℕ) (x : ℕ × List ℕ) → limit_at w least most bytes ≡ Ok x → x.0 ≤ most
unfolding limit_at
limit_most w least most bytes x e =
    let a = bind_ok (number_at w bytes) _ x e in
    let g = unless_ok (is_outside least most a.0.0) fault.BadKind a.0 x a.2 in
    subst (λ (y : ℕ × List ℕ). y.0 ≤ most) g.1 (most_of least most a.0.0 g.0)

pub limit_again : (w : Width) (limit : ℕ) (wide : IsWide w limit) (least most n : ℕ) (rest : List ℕ) → most < limit → is_outside least most n ≡ false → limit_at w least most (to_be_bytes w n ++ rest) ≡ Ok (n, rest)
unfolding limit_at
limit_again w limit wide least most n rest lt inside =
    ap (λ (r : Result (ℕ × List ℕ) RecordError). r >>= λ x. unless (is_outside least most x.0) fault.BadKind x) (number_again w limit wide n rest (omega (arith, lt, most_of least most n inside)))
    ∙ ap (λ (b : Bool). unless b fault.BadKind (n, rest)) inside

pub policy_takes : (bytes : List ℕ) (x : RetryPolicy × List ℕ) → IsBytes bytes → policy_at bytes ≡ Ok x → Takes bytes (policy_text x.0) x.1 × (is_bad_policy x.0 ≡ false)
unfolding policy_at
policy_takes bytes x fits e =
    let a = bind_ok (small_at 0 2 bytes) _ x e in
    let b = bind_ok (limit_at w32 60 21600 a.0.1) _ x a.2 in
    let ta = small_takes 0 2 bytes a.0 fits a.1 in
    let tb = limit_takes w32 (2 ^ 32) wide32 60 21600 a.0.1 b.0 ta.0.rest_fits b.1 in
    let made : RetryPolicy × List ℕ = (record { retries = a.0.0; age = b.0.0 }, b.0.1) in
    subst (λ (y : RetryPolicy × List ℕ). Takes bytes (policy_text y.0) y.1 × (is_bad_policy y.0 ≡ false)) (ok_is made x b.2)
    (Takes-then bytes (a.0.0 ∷ []) a.0.1 (to_be_bytes w32 b.0.0) b.0.1 ta.0 tb.0, either_false (is_outside 0 2 a.0.0) (is_outside 60 21600 b.0.0) ta.1 tb.1)

pub policy_again : (p : RetryPolicy) (rest : List ℕ) → is_bad_policy p ≡ false → policy_at (policy_text p ++ rest) ≡ Ok (p, rest)
unfolding policy_at
policy_again p rest good =
    let parts = both_false (is_outside 0 2 p.retries) (is_outside 60 21600 p.age) good in
    rw (small_again 0 2 p.retries (to_be_bytes w32 p.age ++ rest) parts.0, limit_again w32 (2 ^ 32) wide32 60 21600 p.age rest (omega arith) parts.1) refl

pub text_takes : (most : ℕ) (is_good : ℕ → Bool) (bytes : List ℕ) (x : List ℕ × List ℕ) → IsBytes bytes → text_at most is_good bytes ≡ Ok x → Takes bytes (short_text x.0) x.1 × (is_bad_text most is_good x.0 ≡ false)
unfolding text_at
text_takes most is_good bytes x fits e =
    let a = bind_ok (byte_at bytes) _ x e in
    let l = bind_ok (unless (ltb most a.0.0) fault.TooLong a.0) _ x a.2 in
    let s = bind_ok (unless (ltb a.0.0 1) fault.BadKind a.0) _ x l.2 in
    let b = bind_ok (bytes_at a.0.0 a.0.1) _ x s.2 in
    let gl = unless_ok (ltb most a.0.0) fault.TooLong a.0 l.0 l.1 in
    let gs = unless_ok (ltb a.0.0 1) fault.BadKind a.0 s.0 s.1 in
    let g = unless_ok (not (list_all is_good b.0.0)) fault.BadKind b.0 x b.2 in
    let ta = byte_takes bytes a.0 fits a.1 in
    let tb = bytes_takes a.0.0 a.0.1 b.0 ta.0.rest_fits b.1 in
    let size : a.0.0 ≡ length b.0.0 = sym tb.1 in
    let whole : Takes bytes (short_text b.0.0) b.0.1 = subst (λ (n : ℕ). Takes bytes ((n ∷ []) ++ b.0.0) b.0.1) size (Takes-then bytes (a.0.0 ∷ []) a.0.1 b.0.0 b.0.1 ta.0 tb.0) in
    let inside : is_outside 1 most (length b.0.0) ≡ false = subst (λ (n : ℕ). is_outside 1 most n ≡ false) size (either_false (ltb a.0.0 1) (ltb most a.0.0) gs.0 gl.0) in
    subst (λ (y : List ℕ × List ℕ). Takes bytes (short_text y.0) y.1 × (is_bad_text most is_good y.0 ≡ false)) g.1
    (whole, either_false (is_outside 1 most (length b.0.0)) (not (list_all is_good b.0.0)) inside g.0)

pub text_again : (most : ℕ) (is_good : ℕ → Bool) (text rest : List ℕ) → is_bad_text most is_good text ≡ false → text_at most is_good (short_text text ++ rest) ≡ Ok (text, rest)
unfolding text_at
text_again most is_good text rest good =
    let g = both_false (is_outside 1 most (length text)) (not (list_all is_good text)) good in
    let o = both_false (ltb (length text) 1) (ltb most (length text)) g.0 in
    rw (o.1, o.0, bytes_again (length text) text rest refl, g.1) refl

pub sized_takes : (least most : ℕ) (bytes : List ℕ) (x : ℕ × List ℕ) → IsBytes bytes → sized_at least most bytes ≡ Ok x → Takes bytes (to_be_bytes w32 x.0) x.1 × (x.0 ≤ most) × (least ≤ x.0)
unfolding sized_at
sized_takes least most bytes x fits e =
    let a = bind_ok (number_at w32 bytes) _ x e in
    let l = bind_ok (unless (ltb most a.0.0) fault.TooLong a.0) _ x a.2 in
    let gl = unless_ok (ltb most a.0.0) fault.TooLong a.0 l.0 l.1 in
    let g = unless_ok (ltb a.0.0 least) fault.BadKind a.0 x l.2 in
    let t = number_takes w32 (2 ^ 32) wide32 bytes a.0 fits a.1 in
    subst (λ (y : ℕ × List ℕ). Takes bytes (to_be_bytes w32 y.0) y.1 × (y.0 ≤ most) × (least ≤ y.0)) g.1 (t.0, ltb-false _ _ gl.0, ltb-false _ _ g.0)

pub sized_again : (least most n : ℕ) (rest : List ℕ) → most < 2 ^ 32 → n ≤ most → least ≤ n → sized_at least most (to_be_bytes w32 n ++ rest) ≡ Ok (n, rest)
unfolding sized_at
sized_again least most n rest lt le ge =
    let short : ltb most n ≡ false = le-ltb _ _ le in
    let long : ltb n least ≡ false = le-ltb _ _ ge in
    rw (number_again w32 (2 ^ 32) wide32 n rest (omega (arith, lt, le)), short, long) refl
