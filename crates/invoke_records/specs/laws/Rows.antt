-- The two laws of rows: what is read is spelled so, and what is spelled so is read. Lemmas.
use Rattle.std.proofs.Common.{◌≡◌, ℕ, ◌+◌, ◌≤◌, Bool, true, false, ◌||◌, cond, ltb, List, [], ◌∷◌, ◌++◌, length, Some, None, Ok, refl, sym, ap, subst, ◌∙◌, append_assoc, arith}
use Rattle.std.specs.Int.{w16, w64, to_be_bytes}
use Rattle.std.proofs.lemmas.Bool.{ltb-false, le-ltb}
use Rattle.std.proofs.lemmas.List.{length-append}
use Rattle.retry_rules.specs.Settings.{is_outside, is_bad_policy}
use Rattle.invoke_records.specs.declared.row.Outcome.TheVariants.{Success, RetriesExhausted, EventAgeExceeded}
use Rattle.invoke_records.specs.declared.row.Standing.{Standing}
use Rattle.invoke_records.specs.declared.row.Standing.TheVariants as standing
use Rattle.invoke_records.specs.declared.row.Answer.{Answer}
use Rattle.invoke_records.specs.declared.row.Answer.TheVariants as answer
use Rattle.invoke_records.specs.declared.row.EventRow.{EventRow}
use Rattle.invoke_records.specs.declared.row_fields.Life.{Life}
use Rattle.invoke_records.specs.declared.row_fields.Counts.{Counts}
use Rattle.invoke_records.specs.declared.error.RecordError.TheVariants as fault
use Rattle.invoke_records.specs.Spelling.{IsBytes, greatest_moment, standing_byte, ended_byte, environment_in, moment_in, answer_byte, answer_bytes, life_text, counts_text, row_text, is_unknown, breaks_rule, row_fault, IsRow}
use Rattle.invoke_records.specs.declared.version.Version.TheVariants.{Two}
use Rattle.invoke_records.specs.Reading.{bytes_at, life_at, counts_at, standing_of, answer_of, row_at}
use Rattle.invoke_records.specs.laws.Fields.{bind_ok, ok_is, Takes, Takes-then, bytes_takes, bytes_again, both_false, either_false}
use Rattle.invoke_records.specs.laws.RowFields.{LifeFits, life_bytes, life_takes, life_again, CountsFit, counts_bytes, counts_take, counts_again, Stands, standing_takes, standing_again, answer_takes, answer_again, life_made}

abbrev pub life_of : EventRow → Life
life_of r = life_made r.id r.accepted r.number r.last_number r.standing

abbrev pub counts_of : EventRow → Counts
counts_of r = record { starts = r.starts; failures = r.failures; push_backs = r.push_backs; answer = answer_byte r.answer; policy = r.policy; payload_size = length r.payload; answer_size = length (answer_bytes r.answer) }

-- the tests of a row, one by one
pub record IsSoundRow (r : EventRow) : Type 0 where
  pub accepted : ltb greatest_moment r.accepted ≡ false
  pub known : is_unknown r.standing ≡ false
  pub environment : ltb 16 (environment_in r.standing) ≡ false
  pub policy : is_bad_policy r.policy ≡ false
  pub payload_most : length r.payload ≤ 1048576
  pub payload_least : 1 ≤ length r.payload
  pub answer_most : length (answer_bytes r.answer) ≤ 262144
  pub rule : breaks_rule r.standing ≡ false

five_passed : (a b c d f : Bool) → cond a (Some fault.BadKind) (cond b (Some fault.TooLong) (cond c (Some fault.BadKind) (cond d (Some fault.TooLong) (cond f (Some fault.BadKind) None)))) ≡ None
    → (a ≡ false) × (b ≡ false) × (c ≡ false) × (d ≡ false) × (f ≡ false)
five_passed true b c d f e = absurd cc
five_passed false true c d f e = absurd cc
five_passed false false true d f e = absurd cc
five_passed false false false true f e = absurd cc
five_passed false false false false true e = absurd cc
five_passed false false false false false e = (refl, refl, refl, refl, refl)

pub is_sound_row : (r : EventRow) → row_fault r ≡ None → IsSoundRow r
is_sound_row r e =
    let t = five_passed (ltb greatest_moment r.accepted || (is_unknown r.standing || (ltb 16 (environment_in r.standing) || is_bad_policy r.policy))) (ltb 1048576 (length r.payload)) (ltb (length r.payload) 1) (ltb 262144 (length (answer_bytes r.answer))) (breaks_rule r.standing) e in
    let u = both_false (ltb greatest_moment r.accepted) (is_unknown r.standing || (ltb 16 (environment_in r.standing) || is_bad_policy r.policy)) t.0 in
    let v = both_false (is_unknown r.standing) (ltb 16 (environment_in r.standing) || is_bad_policy r.policy) u.1 in
    let w = both_false (ltb 16 (environment_in r.standing)) (is_bad_policy r.policy) v.1 in
    record { accepted = u.0; known = v.0; environment = w.0; policy = w.1; payload_most = ltb-false _ _ t.1; payload_least = ltb-false _ _ t.2; answer_most = ltb-false _ _ t.3; rule = t.4 }

pub no_row_fault : (r : EventRow) → IsSoundRow r → row_fault r ≡ None
no_row_fault r s =
    let a : (ltb greatest_moment r.accepted || (is_unknown r.standing || (ltb 16 (environment_in r.standing) || is_bad_policy r.policy))) ≡ false = either_false _ _ s.accepted (either_false _ _ s.known (either_false _ _ s.environment s.policy)) in
    let b : ltb 1048576 (length r.payload) ≡ false = le-ltb _ _ s.payload_most in
    let c : ltb (length r.payload) 1 ≡ false = le-ltb _ _ s.payload_least in
    let d : ltb 262144 (length (answer_bytes r.answer)) ≡ false = le-ltb _ _ s.answer_most in
    rw (a, b, c, d, s.rule) refl

outside_none : (most n : ℕ) → ltb most n ≡ false → is_outside 0 most n ≡ false
outside_none most n h = either_false (ltb n 0) (ltb most n) (le-ltb n 0 (omega arith)) h

standing_inside : (s : Standing) → is_unknown s ≡ false → is_outside 1 4 (standing_byte s) ≡ false
standing_inside standing.Unknown known = absurd cc
standing_inside (standing.Waiting due) known = refl
standing_inside (standing.DueAgain due) known = refl
standing_inside (standing.Running environment deadline) known = refl
standing_inside (standing.Ended outcome at) known = refl

outcome_inside : (s : Standing) → is_outside 0 3 (ended_byte s) ≡ false
outcome_inside standing.Unknown = refl
outcome_inside (standing.Waiting due) = refl
outcome_inside (standing.DueAgain due) = refl
outcome_inside (standing.Running environment deadline) = refl
outcome_inside (standing.Ended Success at) = refl
outcome_inside (standing.Ended RetriesExhausted at) = refl
outcome_inside (standing.Ended EventAgeExceeded at) = refl

answer_inside : (a : Answer) → is_outside 0 2 (answer_byte a) ≡ false
answer_inside answer.None = refl
answer_inside (answer.Response bytes) = refl
answer_inside (answer.Error bytes) = refl

life_fits : (r : EventRow) → IsRow r → LifeFits (life_of r)
life_fits r is =
    let s = is_sound_row r is.fault in
    record {
      id = is.within.id;
      id_bytes = is.within.id_bytes;
      accepted = outside_none greatest_moment r.accepted s.accepted;
      number = is.within.number;
      last_number = is.within.last_number;
      standing = standing_inside r.standing s.known;
      outcome = outcome_inside r.standing;
      environment = outside_none 16 (environment_in r.standing) s.environment;
      moment = is.within.moment;
    }

counts_fit : (r : EventRow) → IsRow r → CountsFit (counts_of r)
counts_fit r is =
    let s = is_sound_row r is.fault in
    record { starts = is.within.starts; failures = is.within.failures; push_backs = is.within.push_backs; answer = answer_inside r.answer; policy = s.policy; payload_most = s.payload_most; payload_least = s.payload_least; answer_most = s.answer_most }

-- what is spelled so is read
pub row_again : (r : EventRow) (rest : List ℕ) → IsRow r → row_at Two (row_text r ++ rest) ≡ Ok (r, rest)
unfolding row_at row_text
row_again r rest is =
    let s = is_sound_row r is.fault in
    let texts : List ℕ = r.payload ++ (answer_bytes r.answer ++ rest) in
    let regrouped : row_text r ++ rest ≡ life_bytes (life_of r) ++ (counts_bytes (counts_of r) ++ texts) =
    append_assoc (life_bytes (life_of r)) (counts_bytes (counts_of r) ++ (r.payload ++ answer_bytes r.answer)) rest
    ∙ ap (λ (t : List ℕ). life_bytes (life_of r) ++ t) (append_assoc (counts_bytes (counts_of r)) (r.payload ++ answer_bytes r.answer) rest ∙ ap (λ (t : List ℕ). counts_bytes (counts_of r) ++ t) (append_assoc r.payload (answer_bytes r.answer) rest)) in
    ap (row_at Two) regrouped
    ∙ rw (
      life_again (life_of r) (counts_bytes (counts_of r) ++ texts) (life_fits r is),
      counts_again (counts_of r) texts (counts_fit r is),
      bytes_again (length r.payload) r.payload (answer_bytes r.answer ++ rest) refl,
      bytes_again (length (answer_bytes r.answer)) (answer_bytes r.answer) rest refl,
      standing_again r.id r.accepted r.number r.last_number r.standing s.known s.rule,
      answer_again r.answer,
    ) refl

abbrev row_made : Life → Standing → Counts → List ℕ → Answer → EventRow
row_made l s c payload given =
    record { id = l.id; accepted = l.accepted; number = l.number; last_number = l.last_number; standing = s; starts = c.starts; failures = c.failures; push_backs = c.push_backs; policy = c.policy; payload = payload; answer = given }

row_sound : (l : Life) (c : Counts) (payload text : List ℕ) (s : Standing) (given : Answer) → LifeFits l → CountsFit c → length payload ≡ c.payload_size → length text ≡ c.answer_size → Stands l s → answer_bytes given ≡ text → IsSoundRow (row_made l s c payload given)
row_sound l c payload text s given life counts size answer_size stands same =
    record {
      accepted = (both_false (ltb l.accepted 0) (ltb greatest_moment l.accepted) life.accepted).1;
      known = stands.known;
      environment = ap (ltb 16) stands.environment ∙ (both_false (ltb l.environment 0) (ltb 16 l.environment) life.environment).1;
      policy = counts.policy;
      payload_most = omega (arith, size, counts.payload_most);
      payload_least = omega (arith, size, counts.payload_least);
      answer_most = omega (arith, ap length same, answer_size, counts.answer_most);
      rule = stands.rule;
    }

same_fields : (l : Life) (c : Counts) (payload text : List ℕ) (s : Standing) (given : Answer) → length payload ≡ c.payload_size → length text ≡ c.answer_size → Stands l s → answer_byte given ≡ c.answer → answer_bytes given ≡ text
    → life_bytes l ++ (counts_bytes c ++ (payload ++ text)) ≡ row_text (row_made l s c payload given)
unfolding row_text
same_fields l c payload text s given size answer_size stands byte same =
    rw (← stands.standing, ← stands.outcome, ← stands.environment, ← stands.moment, ← byte, ← size, ← answer_size, ← same) refl

-- what is read is spelled so
pub row_takes : (bytes : List ℕ) (x : EventRow × List ℕ) → IsBytes bytes → row_at Two bytes ≡ Ok x → Takes bytes (row_text x.0) x.1 × IsRow x.0
unfolding row_at
row_takes bytes x fits e =
    let l = bind_ok (life_at bytes) _ x e in
    let c = bind_ok (counts_at Two l.0.1) _ x l.2 in
    let p = bind_ok (bytes_at c.0.0.payload_size c.0.1) _ x c.2 in
    let t = bind_ok (bytes_at c.0.0.answer_size p.0.1) _ x p.2 in
    let s = bind_ok (standing_of l.0.0) _ x t.2 in
    let a = bind_ok (answer_of c.0.0.answer t.0.0) _ x s.2 in
    let tl = life_takes bytes l.0 fits l.1 in
    let tc = counts_take l.0.1 c.0 tl.0.rest_fits c.1 in
    let tp = bytes_takes c.0.0.payload_size c.0.1 p.0 tc.0.rest_fits p.1 in
    let tt' = bytes_takes c.0.0.answer_size p.0.1 t.0 tp.0.rest_fits t.1 in
    let ts = standing_takes l.0.0 s.0 tl.1.standing s.1 in
    let ta = answer_takes c.0.0.answer t.0.0 a.0 tc.1.answer a.1 in
    let all = Takes-then bytes (life_bytes l.0.0) l.0.1 (counts_bytes c.0.0 ++ (p.0.0 ++ t.0.0)) t.0.1 tl.0 (Takes-then l.0.1 (counts_bytes c.0.0) c.0.1 (p.0.0 ++ t.0.0) t.0.1 tc.0 (Takes-then c.0.1 p.0.0 p.0.1 t.0.0 t.0.1 tp.0 tt'.0)) in
    let made : EventRow × List ℕ = (row_made l.0.0 s.0 c.0.0 p.0.0 a.0, t.0.1) in
    subst (λ (y : EventRow × List ℕ). Takes bytes (row_text y.0) y.1 × IsRow y.0) (ok_is made x a.2) (
      subst (λ (text : List ℕ). Takes bytes text t.0.1) (same_fields l.0.0 c.0.0 p.0.0 t.0.0 s.0 a.0 tp.1 tt'.1 ts ta.0 ta.1) all,
      record {
        within = record {
          id = tl.1.id;
          id_bytes = tl.1.id_bytes;
          number = tl.1.number;
          last_number = tl.1.last_number;
          moment = omega (arith, ts.moment, tl.1.moment);
          starts = tc.1.starts;
          failures = tc.1.failures;
          push_backs = tc.1.push_backs;
          payload = tp.2;
          answer = subst IsBytes (sym ta.1) tt'.2;
        };
        fault = no_row_fault made.0 (row_sound l.0.0 c.0.0 p.0.0 t.0.0 s.0 a.0 tl.1 tc.1 tp.1 tt'.1 ts ta.1);
      },
    )

-- no spelling begins another
pub row_apart : (r q : EventRow) (a b : List ℕ) → IsRow r → IsRow q → row_text r ++ a ≡ row_text q ++ b → (r ≡ q) × (a ≡ b)
row_apart r q a b is_r is_q e =
    let same : (r, a) ≡ (q, b) = ok_is (r, a) (q, b) (sym (row_again r a is_r) ∙ ap (row_at Two) e ∙ row_again q b is_q) in
    (ap (λ (x : EventRow × List ℕ). x.0) same, ap (λ (x : EventRow × List ℕ). x.1) same)

-- a spelling has 78 bytes, the payload and the answer
pub row_length : (r : EventRow) → length r.id ≡ 16 → length (row_text r) ≡ 78 + length r.payload + length (answer_bytes r.answer)
unfolding row_text
row_length r id =
    omega (
      arith,
      length-append r.id (to_be_bytes w64 r.accepted ++ (to_be_bytes w64 r.number ++ (to_be_bytes w64 r.last_number ++ ((standing_byte r.standing ∷ []) ++ ((ended_byte r.standing ∷ []) ++ (to_be_bytes w16 (environment_in r.standing) ++ to_be_bytes w64 (moment_in r.standing))))))),
      length-append (life_text r) (counts_text r ++ (r.payload ++ answer_bytes r.answer)),
      length-append r.payload (answer_bytes r.answer),
    )
