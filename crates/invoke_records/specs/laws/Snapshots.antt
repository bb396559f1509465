-- The two laws of snapshots: what is read is spelled so, and what is spelled so is read. Lemmas.
use Rattle.std.proofs.Common.{◌≡◌, ℕ, zero, suc, ◌+◌, ◌-◌, ◌^◌, ◌<◌, ◌≤◌, Bool, true, false, not, ◌||◌, cond, ltb, List, [], ◌∷◌, ◌++◌, length, Option, Some, None, Result, Ok, Err, refl, sym, ap, subst, ◌∙◌, append_assoc, length-append, arith}
use Rattle.std.specs.List.{flat_map, AllByRecursion}
use Rattle.std.specs.Int.{w32, w64, to_be_bytes}
use Rattle.std.proofs.lemmas.Bool.{ltb-false, le-ltb}
use Rattle.std.proofs.lemmas.List.{append-nil}
use Rattle.std.proofs.lemmas.List.Concat.{flat_map-cons}
use Rattle.retry_rules.specs.Settings.{is_outside, is_bad_policy}
use Rattle.invoke_records.specs.declared.row.EventRow.{EventRow}
use Rattle.invoke_records.specs.declared.snapshot.Snapshot.{Snapshot}
use Rattle.invoke_records.specs.declared.version.Version.{Version}
use Rattle.invoke_records.specs.declared.version.Version.TheVariants.{Two}
use Rattle.invoke_records.specs.declared.error.RecordError.{RecordError}
use Rattle.invoke_records.specs.declared.error.RecordError.TheVariants as fault
use Rattle.invoke_records.specs.Spelling.{IsBytes, greatest_moment, greatest_number, policy_text, row_text, row_fault, IsWithinWidth, IsRow, snapshot_text, are_in_order, rows_fault, first_of_two, snapshot_fault, IsSnapshot}
use Rattle.invoke_records.specs.Reading.{◌>>=◌, Fails, unless, limit_at, policy_at, policy_in, sized_at, row_at, rows_at, snapshot_at, whole_at}
use Rattle.invoke_records.specs.laws.Fields.{bind_ok, unless_ok, ok_is, done, Takes, Takes-then, wide64, both_false, either_false}
use Rattle.invoke_records.specs.laws.Bounds.{limit_takes, limit_again, limit_most, policy_takes, policy_again, sized_takes, sized_again}
use Rattle.invoke_records.specs.laws.Rows.{row_takes, row_again}

-- ## Rows, one after another

rows_take : (n : ℕ) (bytes : List ℕ) (x : List EventRow × List ℕ) → IsBytes bytes → rows_at Two n bytes ≡ Ok x → Takes bytes (flat_map row_text x.0) x.1 × (length x.0 ≡ n) × AllByRecursion IsRow x.0
unfolding rows_at
rows_take zero bytes x fits e =
    subst (λ (y : List EventRow × List ℕ). Takes bytes (flat_map row_text y.0) y.1 × (length y.0 ≡ 0) × AllByRecursion IsRow y.0) (ok_is ([], bytes) x e) (record { parts = refl; rest_fits = fits }, refl, tt)
rows_take (suc n) bytes x fits e =
    let a = bind_ok (row_at Two bytes) _ x e in
    let b = bind_ok (rows_at Two n a.0.1) _ x a.2 in
    let first = row_takes bytes a.0 fits a.1 in
    let second = rows_take n a.0.1 b.0 first.0.rest_fits b.1 in
    let both = Takes-then bytes (row_text a.0.0) a.0.1 (flat_map row_text b.0.0) b.0.1 first.0 second.0 in
    let made : List EventRow × List ℕ = (a.0.0 ∷ b.0.0, b.0.1) in
    subst (λ (y : List EventRow × List ℕ). Takes bytes (flat_map row_text y.0) y.1 × (length y.0 ≡ suc n) × AllByRecursion IsRow y.0) (ok_is made x b.2) (rw flat_map-cons both, ap suc second.1, (first.1, second.2))

rows_again : (rows : List EventRow) (rest : List ℕ) → AllByRecursion IsRow rows → rows_at Two (length rows) (flat_map row_text rows ++ rest) ≡ Ok (rows, rest)
unfolding rows_at
rows_again [] rest are = refl
rows_again (r ∷ rows) rest are =
    let regrouped : flat_map row_text (r ∷ rows) ++ rest ≡ row_text r ++ (flat_map row_text rows ++ rest) = ap (λ (x : List ℕ). x ++ rest) (flat_map-cons row_text r rows) ∙ append_assoc (row_text r) (flat_map row_text rows) rest in
    ap (rows_at Two (suc (length rows))) regrouped ∙ rw (row_again r (flat_map row_text rows ++ rest) are.0, rows_again rows rest are.1) refl

-- ## Faults

none_of_two : (a b : Option RecordError) → first_of_two a b ≡ None → (a ≡ None) × (b ≡ None)
none_of_two (Some e) b is = absurd cc
none_of_two None b is = (refl, is)

pub are_rows : (rows : List EventRow) → AllByRecursion IsWithinWidth rows → rows_fault rows ≡ None → AllByRecursion IsRow rows
are_rows [] within e = tt
are_rows (r ∷ rows) within e =
    let t = none_of_two (row_fault r) (rows_fault rows) e in
    (record { within = within.0; fault = t.0 }, are_rows rows within.1 t.1)

pub rows_within : (rows : List EventRow) → AllByRecursion IsRow rows → AllByRecursion IsWithinWidth rows
rows_within [] are = tt
rows_within (r ∷ rows) are = (are.0.within, rows_within rows are.1)

no_rows_fault : (rows : List EventRow) → AllByRecursion IsRow rows → rows_fault rows ≡ None
no_rows_fault [] are = refl
no_rows_fault (r ∷ rows) are = ap (λ (f : Option RecordError). first_of_two f (rows_fault rows)) are.0.fault ∙ no_rows_fault rows are.1

-- the tests of a snapshot, one by one
pub record IsSoundSnapshot (s : Snapshot) : Type 0 where
  pub number : ltb greatest_number s.number ≡ false
  pub last_moment : ltb greatest_moment s.last_moment ≡ false
  pub policy : is_bad_policy s.policy ≡ false
  pub count : length s.rows ≤ 1024
  pub rows : rows_fault s.rows ≡ None
  pub order : are_in_order s.rows ≡ true

four_passed : (a b order : Bool) (rows : Option RecordError) → cond a (Some fault.BadKind) (cond b (Some fault.TooLong) (first_of_two rows (cond order None (Some fault.BadKind)))) ≡ None
    → (a ≡ false) × (b ≡ false) × (rows ≡ None) × (order ≡ true)
four_passed true b order rows e = absurd cc
four_passed false true order rows e = absurd cc
four_passed false false order (Some f) e = absurd cc
four_passed false false false None e = absurd cc
four_passed false false true None e = (refl, refl, refl, refl)

pub is_sound_snapshot : (s : Snapshot) → snapshot_fault s ≡ None → IsSoundSnapshot s
is_sound_snapshot s e =
    let t = four_passed (ltb greatest_number s.number || (ltb greatest_moment s.last_moment || is_bad_policy s.policy)) (ltb 1024 (length s.rows)) (are_in_order s.rows) (rows_fault s.rows) e in
    let u = both_false (ltb greatest_number s.number) (ltb greatest_moment s.last_moment || is_bad_policy s.policy) t.0 in
    let v = both_false (ltb greatest_moment s.last_moment) (is_bad_policy s.policy) u.1 in
    record { number = u.0; last_moment = v.0; policy = v.1; count = ltb-false _ _ t.1; rows = t.2; order = t.3 }

pub no_snapshot_fault : (s : Snapshot) → IsSoundSnapshot s → snapshot_fault s ≡ None
no_snapshot_fault s is =
    let a : (ltb greatest_number s.number || (ltb greatest_moment s.last_moment || is_bad_policy s.policy)) ≡ false = either_false _ _ is.number (either_false _ _ is.last_moment is.policy) in
    let b : ltb 1024 (length s.rows) ≡ false = le-ltb _ _ is.count in
    rw (a, b, is.rows, is.order) refl

-- ## Snapshots

outside_none : (most n : ℕ) → ltb most n ≡ false → is_outside 0 most n ≡ false
outside_none most n h = either_false (ltb n 0) (ltb most n) (le-ltb n 0 (omega arith)) h

order_kept : (b : Bool) → not b ≡ false → b ≡ true
order_kept true h = refl
order_kept false h = absurd cc

-- what is spelled so is read
pub snapshot_again : (s : Snapshot) (rest : List ℕ) → IsSnapshot s → snapshot_at Two (snapshot_text s ++ rest) ≡ Ok (s, rest)
unfolding snapshot_at snapshot_text
snapshot_again s rest is =
    let t = is_sound_snapshot s is.fault in
    let rows : List ℕ = flat_map row_text s.rows ++ rest in
    let counted : List ℕ = to_be_bytes w32 (length s.rows) ++ rows in
    let regrouped : snapshot_text s ++ rest ≡ to_be_bytes w64 s.number ++ (to_be_bytes w64 s.last_moment ++ (policy_text s.policy ++ counted)) = simp append_assoc in
    ap (snapshot_at Two) regrouped
    ∙ rw (
      limit_again w64 (2 ^ 64) wide64 0 greatest_number s.number (to_be_bytes w64 s.last_moment ++ (policy_text s.policy ++ counted)) (omega arith) (outside_none greatest_number s.number t.number),
      limit_again w64 (2 ^ 64) wide64 0 greatest_moment s.last_moment (policy_text s.policy ++ counted) (omega arith) (outside_none greatest_moment s.last_moment t.last_moment),
      policy_again s.policy counted t.policy,
      sized_again 0 1024 (length s.rows) rows (omega arith) t.count (omega arith),
      rows_again s.rows rest (are_rows s.rows is.within t.rows),
      t.order,
    ) refl

-- what is read is spelled so
pub snapshot_takes : (bytes : List ℕ) (x : Snapshot × List ℕ) → IsBytes bytes → snapshot_at Two bytes ≡ Ok x → Takes bytes (snapshot_text x.0) x.1 × IsSnapshot x.0
unfolding snapshot_at snapshot_text
snapshot_takes bytes x fits e =
    let a = bind_ok (limit_at w64 0 greatest_number bytes) _ x e in
    let b = bind_ok (limit_at w64 0 greatest_moment a.0.1) _ x a.2 in
    let p = bind_ok (policy_at b.0.1) _ x b.2 in
    let c = bind_ok (sized_at 0 1024 p.0.1) _ x p.2 in
    let d = bind_ok (rows_at Two c.0.0 c.0.1) _ x c.2 in
    let o = bind_ok (unless (not (are_in_order d.0.0)) fault.BadKind d.0) _ x d.2 in
    let g = unless_ok (not (are_in_order d.0.0)) fault.BadKind d.0 o.0 o.1 in
    let ta = limit_takes w64 (2 ^ 64) wide64 0 greatest_number bytes a.0 fits a.1 in
    let tb = limit_takes w64 (2 ^ 64) wide64 0 greatest_moment a.0.1 b.0 ta.0.rest_fits b.1 in
    let tp = policy_takes b.0.1 p.0 tb.0.rest_fits p.1 in
    let tc = sized_takes 0 1024 p.0.1 c.0 tp.0.rest_fits c.1 in
    let td = rows_take c.0.0 c.0.1 d.0 tc.0.rest_fits d.1 in
    let all = Takes-then bytes (to_be_bytes w64 a.0.0) a.0.1 _ d.0.1 ta.0 (Takes-then a.0.1 (to_be_bytes w64 b.0.0) b.0.1 (policy_text p.0.0 ++ (to_be_bytes w32 c.0.0 ++ flat_map row_text d.0.0)) d.0.1 tb.0
    (Takes-then b.0.1 (policy_text p.0.0) p.0.1 (to_be_bytes w32 c.0.0 ++ flat_map row_text d.0.0) d.0.1 tp.0 (Takes-then p.0.1 (to_be_bytes w32 c.0.0) c.0.1 (flat_map row_text d.0.0) d.0.1 tc.0 td.0))) in
    let made : Snapshot × List ℕ = (record { number = a.0.0; last_moment = b.0.0; policy = p.0.0; rows = d.0.0 }, d.0.1) in
    let whole : Takes bytes (snapshot_text made.0) d.0.1 = subst (λ (n : ℕ). Takes bytes (to_be_bytes w64 a.0.0 ++ (to_be_bytes w64 b.0.0 ++ (policy_text p.0.0 ++ (to_be_bytes w32 n ++ flat_map row_text d.0.0)))) d.0.1) (sym td.1) all in
    subst (λ (y : Snapshot × List ℕ). Takes bytes (snapshot_text y.0) y.1 × IsSnapshot y.0) (ok_is made x o.2) (
      whole,
      record {
        within = rows_within d.0.0 td.2;
        fault = no_snapshot_fault made.0 (record {
          number = (both_false (ltb a.0.0 0) (ltb greatest_number a.0.0) ta.1).1;
          last_moment = (both_false (ltb b.0.0 0) (ltb greatest_moment b.0.0) tb.1).1;
          policy = tp.1;
          count = omega (arith, td.1, tc.1);
          rows = no_rows_fault d.0.0 td.2;
          order = order_kept (are_in_order d.0.0) g.0;
        });
      },
    )

-- no spelling begins another
pub snapshot_apart : (s t : Snapshot) (a b : List ℕ) → IsSnapshot s → IsSnapshot t → snapshot_text s ++ a ≡ snapshot_text t ++ b → (s ≡ t) × (a ≡ b)
snapshot_apart s t a b is_s is_t e =
    let same : (s, a) ≡ (t, b) = ok_is (s, a) (t, b) (sym (snapshot_again s a is_s) ∙ ap (snapshot_at Two) e ∙ snapshot_again t b is_t) in
    (ap (λ (x : Snapshot × List ℕ). x.0) same, ap (λ (x : Snapshot × List ℕ). x.1) same)

pub snapshot_length : (s : Snapshot) → length (snapshot_text s) ≡ 25 + length (flat_map row_text s.rows)
unfolding snapshot_text
snapshot_length s = omega (arith, length-append (to_be_bytes w64 s.number ++ (to_be_bytes w64 s.last_moment ++ (policy_text s.policy ++ to_be_bytes w32 (length s.rows)))) (flat_map row_text s.rows))

-- ## Either version

-- the number of what is read is at most the greatest
pub snapshot_number : (version : Version) (bytes : List ℕ) (x : Snapshot × List ℕ) → snapshot_at version bytes ≡ Ok x → x.0.number ≤ greatest_number
unfolding snapshot_at
snapshot_number version bytes x e =
    let a = bind_ok (limit_at w64 0 greatest_number bytes) _ x e in
    let b = bind_ok (limit_at w64 0 greatest_moment a.0.1) _ x a.2 in
    let p = bind_ok (policy_in version b.0.1) _ x b.2 in
    let c = bind_ok (sized_at 0 1024 p.0.1) _ x p.2 in
    let d = bind_ok (rows_at version c.0.0 c.0.1) _ x c.2 in
    let o = bind_ok (unless (not (are_in_order d.0.0)) fault.BadKind d.0) _ x d.2 in
    let made : Snapshot × List ℕ = (record { number = a.0.0; last_moment = b.0.0; policy = p.0.0; rows = d.0.0 }, d.0.1) in
    subst (λ (y : Snapshot × List ℕ). y.0.number ≤ greatest_number) (ok_is made x o.2) (limit_most w64 0 greatest_number bytes a.0 a.1)

pub whole_number : (version : Version) (bytes : List ℕ) (s : Snapshot) → whole_at version bytes ≡ Ok s → s.number ≤ greatest_number
whole_number version bytes s e =
    let a = bind_ok (snapshot_at version bytes) _ s e in
    let g = unless_ok (ltb 0 (length a.0.1)) fault.TooLong a.0.0 s a.2 in
    subst (λ (t : Snapshot). t.number ≤ greatest_number) g.1 (snapshot_number version bytes a.0 a.1)

-- behind a snapshot that was read, what is left decides
pub whole_read : (version : Version) (bytes : List ℕ) (s : Snapshot) (rest : List ℕ) → snapshot_at version bytes ≡ Ok (s, rest)
    → whole_at version bytes ≡ unless (ltb 0 (length rest)) fault.TooLong s
whole_read version bytes s rest e = ap (λ (r : Result (Snapshot × List ℕ) RecordError). r >>= λ x. unless (ltb 0 (length x.1)) fault.TooLong x.0) e

-- a spelling is read whole
pub whole_again : (s : Snapshot) → IsSnapshot s → whole_at Two (snapshot_text s) ≡ Ok s
whole_again s is =
    let again : snapshot_at Two (snapshot_text s) ≡ Ok (s, []) = ap (snapshot_at Two) (sym (append-nil (snapshot_text s))) ∙ snapshot_again s [] is in
    whole_read Two (snapshot_text s) s [] again

-- ## Loops over rows

-- what was read before, and what is still read
abbrev pub with_front : List EventRow → Result (List EventRow × List ℕ) RecordError → Result (List EventRow × List ℕ) RecordError
with_front front read = read >>= λ x. Ok (front ++ x.0, x.1)

regroup : (front : List EventRow) (r : EventRow) (read : Result (List EventRow × List ℕ) RecordError) → with_front front (read >>= λ x. Ok (r ∷ x.0, x.1)) ≡ with_front (front ++ r ∷ []) read
regroup front r (Ok x) = ap (λ (rows : List EventRow). done (rows, x.1)) (simp append_assoc)
regroup front r (Err e) = refl

pub goes_on : (version : Version) (front : List EventRow) (count i : ℕ) (bytes : List ℕ) (r : EventRow) (after : List ℕ) (total : Result (List EventRow × List ℕ) RecordError) → i < count → row_at version bytes ≡ Ok (r, after)
    → with_front front (rows_at version (count - i) bytes) ≡ total → with_front (front ++ r ∷ []) (rows_at version (count - (i + 1)) after) ≡ total
unfolding rows_at
goes_on version front count i bytes r after total lt h so_far =
    let k : count - i ≡ suc (count - (i + 1)) = omega arith in
    let one : with_front front (rows_at version (count - i) bytes) ≡ with_front (front ++ r ∷ []) (rows_at version (count - (i + 1)) after) = rw (k, h) (regroup front r (rows_at version (count - (i + 1)) after)) in
    sym one ∙ so_far

fails_on : (e : RecordError) (read : Result (EventRow × List ℕ) RecordError) (f : EventRow × List ℕ → Result (List EventRow × List ℕ) RecordError) (front : List EventRow) → Fails e read → Fails e (with_front front (read >>= f))
fails_on fault.OutOfMemory read f front h = tt
fails_on fault.Truncated read f front h = rw h refl
fails_on fault.BadKind read f front h = rw h refl
fails_on fault.TooLong read f front h = rw h refl

pub ends : (version : Version) (e : RecordError) (front : List EventRow) (count i : ℕ) (bytes : List ℕ) (total : Result (List EventRow × List ℕ) RecordError) → i < count → Fails e (row_at version bytes)
    → with_front front (rows_at version (count - i) bytes) ≡ total → Fails e total
unfolding rows_at
ends version e front count i bytes total lt h so_far =
    let k : count - i ≡ suc (count - (i + 1)) = omega arith in
    let one : with_front front (rows_at version (count - i) bytes) ≡ with_front front (row_at version bytes >>= λ first. rows_at version (count - (i + 1)) first.1 >>= λ others. Ok (first.0 ∷ others.0, others.1)) = rw k refl in
    subst (Fails e) (sym one ∙ so_far) (fails_on e (row_at version bytes) (λ first. rows_at version (count - (i + 1)) first.1 >>= λ others. Ok (first.0 ∷ others.0, others.1)) front h)

pub is_done : (version : Version) (front : List EventRow) (count i : ℕ) (bytes : List ℕ) (total : Result (List EventRow × List ℕ) RecordError) → count ≤ i → with_front front (rows_at version (count - i) bytes) ≡ total → total ≡ Ok (front, bytes)
unfolding rows_at
is_done version front count i bytes total le so_far =
    let k : count - i ≡ 0 = omega arith in
    let one : with_front front (rows_at version (count - i) bytes) ≡ Ok (front, bytes) = rw k (ap (λ (rows : List EventRow). done (rows, bytes)) (append-nil front)) in
    sym so_far ∙ one
