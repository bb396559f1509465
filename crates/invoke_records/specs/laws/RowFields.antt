-- What is read of a row's fields was spelled so, and what is spelled so is read. Lemmas.
use Rattle.std.proofs.Common.{◌≡◌, ℕ, ◌^◌, ◌<◌, ◌≤◌, false, ◌||◌, ltb, eqb, List, [], ◌∷◌, ◌++◌, length, Ok, refl, sym, ap, subst, ◌∙◌, append_assoc, arith, inl, inr}
use Rattle.std.specs.Int.{w16, w32, w64, to_be_bytes}
use Rattle.std.proofs.lemmas.Bool.{cases_Bool, ltb-false, eqb-true}
use Rattle.std.proofs.lemmas.Bool.Decides.{eqb_tells}
use Rattle.std.proofs.lemmas.List.{nil_from_length}
use Rattle.retry_rules.specs.Settings.{is_outside, is_bad_policy}
use Rattle.invoke_records.specs.declared.row.Outcome.{Outcome}
use Rattle.invoke_records.specs.declared.row.Outcome.TheVariants.{Success, RetriesExhausted, EventAgeExceeded}
use Rattle.invoke_records.specs.declared.row.Standing.{Standing}
use Rattle.invoke_records.specs.declared.row.Standing.TheVariants as standing
use Rattle.invoke_records.specs.declared.row.Answer.{Answer}
use Rattle.invoke_records.specs.declared.row.Answer.TheVariants as answer
use Rattle.invoke_records.specs.declared.row_fields.Life.{Life}
use Rattle.invoke_records.specs.declared.row_fields.Counts.{Counts}
use Rattle.invoke_records.specs.declared.error.RecordError.TheVariants as fault
use Rattle.invoke_records.specs.Spelling.{IsBytes, greatest_moment, standing_byte, outcome_byte, ended_byte, environment_in, moment_in, policy_text, answer_byte, answer_bytes, is_unknown, breaks_rule}
use Rattle.invoke_records.specs.declared.version.Version.TheVariants.{Two}
use Rattle.invoke_records.specs.Reading.{◌>>=◌, unless, bytes_at, number_at, small_at, limit_at, sized_at, policy_at, life_at, counts_at, outcome_at, standing_of, answer_of}
use Rattle.invoke_records.specs.laws.Fields.{bind_ok, unless_ok, ok_is, Takes, Takes-then, bytes_takes, bytes_again, number_takes, number_again, wide16, wide32, wide64, both_false}
use Rattle.invoke_records.specs.laws.Bounds.{small_takes, small_again, limit_takes, most_of, limit_again, policy_takes, policy_again, sized_takes, sized_again}

-- ## The fields up to the moment

pub record LifeFits (l : Life) : Type 0 where
  pub id : length l.id ≡ 16
  pub id_bytes : IsBytes l.id
  pub accepted : is_outside 0 greatest_moment l.accepted ≡ false
  pub number : l.number < 2 ^ 64
  pub last_number : l.last_number < 2 ^ 64
  pub standing : is_outside 1 4 l.standing ≡ false
  pub outcome : is_outside 0 3 l.outcome ≡ false
  pub environment : is_outside 0 16 l.environment ≡ false
  pub moment : l.moment < 2 ^ 64

abbrev pub life_bytes : Life → List ℕ
life_bytes l = l.id ++ (to_be_bytes w64 l.accepted ++ (to_be_bytes w64 l.number ++ (to_be_bytes w64 l.last_number ++ ((l.standing ∷ []) ++ ((l.outcome ∷ []) ++ (to_be_bytes w16 l.environment ++ to_be_bytes w64 l.moment))))))

pub life_takes : (bytes : List ℕ) (x : Life × List ℕ) → IsBytes bytes → life_at bytes ≡ Ok x → Takes bytes (life_bytes x.0) x.1 × LifeFits x.0
unfolding life_at
life_takes bytes x fits e =
    let a = bind_ok (bytes_at 16 bytes) _ x e in
    let b = bind_ok (limit_at w64 0 greatest_moment a.0.1) _ x a.2 in
    let c = bind_ok (number_at w64 b.0.1) _ x b.2 in
    let d = bind_ok (number_at w64 c.0.1) _ x c.2 in
    let f = bind_ok (small_at 1 4 d.0.1) _ x d.2 in
    let g = bind_ok (small_at 0 3 f.0.1) _ x f.2 in
    let h = bind_ok (limit_at w16 0 16 g.0.1) _ x g.2 in
    let k = bind_ok (number_at w64 h.0.1) _ x h.2 in
    let ta = bytes_takes 16 bytes a.0 fits a.1 in
    let tb = limit_takes w64 (2 ^ 64) wide64 0 greatest_moment a.0.1 b.0 ta.0.rest_fits b.1 in
    let tc = number_takes w64 (2 ^ 64) wide64 b.0.1 c.0 tb.0.rest_fits c.1 in
    let td = number_takes w64 (2 ^ 64) wide64 c.0.1 d.0 tc.0.rest_fits d.1 in
    let tf = small_takes 1 4 d.0.1 f.0 td.0.rest_fits f.1 in
    let tg = small_takes 0 3 f.0.1 g.0 tf.0.rest_fits g.1 in
    let th = limit_takes w16 (2 ^ 16) wide16 0 16 g.0.1 h.0 tg.0.rest_fits h.1 in
    let tk = number_takes w64 (2 ^ 64) wide64 h.0.1 k.0 th.0.rest_fits k.1 in
    let all = Takes-then bytes a.0.0 a.0.1 _ k.0.1 ta.0 (Takes-then a.0.1 (to_be_bytes w64 b.0.0) b.0.1 _ k.0.1 tb.0 (Takes-then b.0.1 (to_be_bytes w64 c.0.0) c.0.1 _ k.0.1 tc.0 (Takes-then c.0.1 (to_be_bytes w64 d.0.0) d.0.1 _ k.0.1 td.0
    (Takes-then d.0.1 (f.0.0 ∷ []) f.0.1 _ k.0.1 tf.0 (Takes-then f.0.1 (g.0.0 ∷ []) g.0.1 _ k.0.1 tg.0 (Takes-then g.0.1 (to_be_bytes w16 h.0.0) h.0.1 _ k.0.1 th.0 tk.0)))))) in
    let made : Life × List ℕ = (record { id = a.0.0; accepted = b.0.0; number = c.0.0; last_number = d.0.0; standing = f.0.0; outcome = g.0.0; environment = h.0.0; moment = k.0.0 }, k.0.1) in
    subst (λ (y : Life × List ℕ). Takes bytes (life_bytes y.0) y.1 × LifeFits y.0) (ok_is made x k.2)
    (all, record { id = ta.1; id_bytes = ta.2; accepted = tb.1; number = tc.1; last_number = td.1; standing = tf.1; outcome = tg.1; environment = th.1; moment = tk.1 })

pub life_again : (l : Life) (rest : List ℕ) → LifeFits l → life_at (life_bytes l ++ rest) ≡ Ok (l, rest)
unfolding life_at
life_again l rest fits =
    let r8 : List ℕ = to_be_bytes w64 l.moment ++ rest in
    let r7 : List ℕ = to_be_bytes w16 l.environment ++ r8 in
    let r6 : List ℕ = l.outcome ∷ r7 in
    let r5 : List ℕ = l.standing ∷ r6 in
    let r4 : List ℕ = to_be_bytes w64 l.last_number ++ r5 in
    let r3 : List ℕ = to_be_bytes w64 l.number ++ r4 in
    let r2 : List ℕ = to_be_bytes w64 l.accepted ++ r3 in
    let regrouped : life_bytes l ++ rest ≡ l.id ++ r2 = simp append_assoc in
    ap life_at regrouped
    ∙ rw (
      bytes_again 16 l.id r2 fits.id,
      limit_again w64 (2 ^ 64) wide64 0 greatest_moment l.accepted r3 (omega arith) fits.accepted,
      number_again w64 (2 ^ 64) wide64 l.number r4 fits.number,
      number_again w64 (2 ^ 64) wide64 l.last_number r5 fits.last_number,
      small_again 1 4 l.standing r6 fits.standing,
      small_again 0 3 l.outcome r7 fits.outcome,
      limit_again w16 (2 ^ 16) wide16 0 16 l.environment r8 (omega arith) fits.environment,
      number_again w64 (2 ^ 64) wide64 l.moment rest fits.moment,
    ) refl

-- ## The other fields

pub record CountsFit (c : Counts) : Type 0 where
  pub starts : c.starts < 2 ^ 32
  pub failures : c.failures < 2 ^ 32
  pub push_backs : c.push_backs < 2 ^ 32
  pub answer : is_outside 0 2 c.answer ≡ false
  pub policy : is_bad_policy c.policy ≡ false
  pub payload_most : c.payload_size ≤ 1048576
  pub payload_least : 1 ≤ c.payload_size
  pub answer_most : c.answer_size ≤ 262144

abbrev pub counts_bytes : Counts → List ℕ
counts_bytes c = to_be_bytes w32 c.starts ++ (to_be_bytes w32 c.failures ++ (to_be_bytes w32 c.push_backs ++ ((c.answer ∷ []) ++ (policy_text c.policy ++ (to_be_bytes w32 c.payload_size ++ to_be_bytes w32 c.answer_size)))))

pub counts_take : (bytes : List ℕ) (x : Counts × List ℕ) → IsBytes bytes → counts_at Two bytes ≡ Ok x → Takes bytes (counts_bytes x.0) x.1 × CountsFit x.0
unfolding counts_at
counts_take bytes x fits e =
    let a = bind_ok (number_at w32 bytes) _ x e in
    let b = bind_ok (number_at w32 a.0.1) _ x a.2 in
    let c = bind_ok (number_at w32 b.0.1) _ x b.2 in
    let d = bind_ok (small_at 0 2 c.0.1) _ x c.2 in
    let p = bind_ok (policy_at d.0.1) _ x d.2 in
    let f = bind_ok (sized_at 1 1048576 p.0.1) _ x p.2 in
    let g = bind_ok (sized_at 0 262144 f.0.1) _ x f.2 in
    let ta = number_takes w32 (2 ^ 32) wide32 bytes a.0 fits a.1 in
    let tb = number_takes w32 (2 ^ 32) wide32 a.0.1 b.0 ta.0.rest_fits b.1 in
    let tc = number_takes w32 (2 ^ 32) wide32 b.0.1 c.0 tb.0.rest_fits c.1 in
    let td = small_takes 0 2 c.0.1 d.0 tc.0.rest_fits d.1 in
    let tp = policy_takes d.0.1 p.0 td.0.rest_fits p.1 in
    let tf = sized_takes 1 1048576 p.0.1 f.0 tp.0.rest_fits f.1 in
    let tg = sized_takes 0 262144 f.0.1 g.0 tf.0.rest_fits g.1 in
    let all = Takes-then bytes (to_be_bytes w32 a.0.0) a.0.1 _ g.0.1 ta.0 (Takes-then a.0.1 (to_be_bytes w32 b.0.0) b.0.1 _ g.0.1 tb.0 (Takes-then b.0.1 (to_be_bytes w32 c.0.0) c.0.1 _ g.0.1 tc.0
    (Takes-then c.0.1 (d.0.0 ∷ []) d.0.1 _ g.0.1 td.0 (Takes-then d.0.1 (policy_text p.0.0) p.0.1 _ g.0.1 tp.0 (Takes-then p.0.1 (to_be_bytes w32 f.0.0) f.0.1 _ g.0.1 tf.0 tg.0))))) in
    let made : Counts × List ℕ = (record { starts = a.0.0; failures = b.0.0; push_backs = c.0.0; answer = d.0.0; policy = p.0.0; payload_size = f.0.0; answer_size = g.0.0 }, g.0.1) in
    subst (λ (y : Counts × List ℕ). Takes bytes (counts_bytes y.0) y.1 × CountsFit y.0) (ok_is made x g.2)
    (all, record { starts = ta.1; failures = tb.1; push_backs = tc.1; answer = td.1; policy = tp.1; payload_most = tf.1; payload_least = tf.2; answer_most = tg.1 })

pub counts_again : (c : Counts) (rest : List ℕ) → CountsFit c → counts_at Two (counts_bytes c ++ rest) ≡ Ok (c, rest)
unfolding counts_at
counts_again c rest fits =
    let r6 : List ℕ = to_be_bytes w32 c.answer_size ++ rest in
    let r5 : List ℕ = to_be_bytes w32 c.payload_size ++ r6 in
    let rp : List ℕ = policy_text c.policy ++ r5 in
    let r4 : List ℕ = c.answer ∷ rp in
    let r3 : List ℕ = to_be_bytes w32 c.push_backs ++ r4 in
    let r2 : List ℕ = to_be_bytes w32 c.failures ++ r3 in
    let regrouped : counts_bytes c ++ rest ≡ to_be_bytes w32 c.starts ++ r2 = simp append_assoc in
    ap (counts_at Two) regrouped
    ∙ rw (
      number_again w32 (2 ^ 32) wide32 c.starts r2 fits.starts,
      number_again w32 (2 ^ 32) wide32 c.failures r3 fits.failures,
      number_again w32 (2 ^ 32) wide32 c.push_backs r4 fits.push_backs,
      small_again 0 2 c.answer rp fits.answer,
      policy_again c.policy r5 fits.policy,
      sized_again 1 1048576 c.payload_size r6 (omega arith) fits.payload_most fits.payload_least,
      sized_again 0 262144 c.answer_size rest (omega arith) fits.answer_most (omega arith),
    ) refl

-- ## The standing and the answer

-- these fields are those of this standing, which has a spelling
pub record Stands (l : Life) (s : Standing) : Type 0 where
  pub standing : standing_byte s ≡ l.standing
  pub outcome : ended_byte s ≡ l.outcome
  pub environment : environment_in s ≡ l.environment
  pub moment : moment_in s ≡ l.moment
  pub known : is_unknown s ≡ false
  pub rule : breaks_rule s ≡ false

outcome_takes : (byte : ℕ) (o : Outcome) → outcome_at byte ≡ Ok o → outcome_byte o ≡ byte
outcome_takes byte o e =
    elim (cases_Bool (eqb byte 1)) [
      | inl equal ↦ ap outcome_byte (sym (ok_is Success o (rw equal at e))) ∙ sym (eqb-true _ _ equal)
      | inr not1 ↦ elim (cases_Bool (eqb byte 2)) [
        | inl equal ↦ ap outcome_byte (sym (ok_is RetriesExhausted o (rw (not1, equal) at e))) ∙ sym (eqb-true _ _ equal)
        | inr not2 ↦ elim (cases_Bool (eqb byte 3)) [
          | inl equal ↦ ap outcome_byte (sym (ok_is EventAgeExceeded o (rw (not1, not2, equal) at e))) ∙ sym (eqb-true _ _ equal)
          | inr not3 ↦ absurd (let wrong : _ = rw (not1, not2, not3) at e in cc)
        ]
      ]
    ]

quiet : (l : Life) (s mine : Standing) → standing_byte mine ≡ l.standing → ended_byte mine ≡ 0 → environment_in mine ≡ 0 → moment_in mine ≡ l.moment → is_unknown mine ≡ false → breaks_rule mine ≡ false
    → unless (ltb 0 l.outcome || ltb 0 l.environment) fault.BadKind mine ≡ Ok s → Stands l s
quiet l s mine byte outcome environment moment known rule e =
    let g = unless_ok (ltb 0 l.outcome || ltb 0 l.environment) fault.BadKind mine s e in
    let t = both_false (ltb 0 l.outcome) (ltb 0 l.environment) g.0 in
    subst (Stands l) g.1
    (record { standing = byte; outcome = omega (arith, outcome, ltb-false _ _ t.0); environment = omega (arith, environment, ltb-false _ _ t.1); moment = moment; known = known; rule = rule })

running : (l : Life) (s : Standing) → 3 ≡ l.standing → unless (ltb 0 l.outcome || ltb l.environment 1) fault.BadKind (standing.Running l.environment l.moment) ≡ Ok s → Stands l s
running l s byte e =
    let g = unless_ok (ltb 0 l.outcome || ltb l.environment 1) fault.BadKind (standing.Running l.environment l.moment) s e in
    let t = both_false (ltb 0 l.outcome) (ltb l.environment 1) g.0 in
    subst (Stands l) g.1 (record { standing = byte; outcome = omega (arith, ltb-false _ _ t.0); environment = refl; moment = refl; known = refl; rule = t.1 })

ended : (l : Life) (s : Standing) → 4 ≡ l.standing → (outcome_at l.outcome >>= λ outcome. unless (ltb 0 l.environment || ltb greatest_moment l.moment) fault.BadKind (standing.Ended outcome l.moment)) ≡ Ok s → Stands l s
ended l s byte e =
    let o = bind_ok (outcome_at l.outcome) _ s e in
    let g = unless_ok (ltb 0 l.environment || ltb greatest_moment l.moment) fault.BadKind (standing.Ended o.0 l.moment) s o.2 in
    let t = both_false (ltb 0 l.environment) (ltb greatest_moment l.moment) g.0 in
    subst (Stands l) g.1 (record { standing = byte; outcome = outcome_takes l.outcome o.0 o.1; environment = omega (arith, ltb-false _ _ t.0); moment = refl; known = refl; rule = t.1 })

pub standing_takes : (l : Life) (s : Standing) → is_outside 1 4 l.standing ≡ false → standing_of l ≡ Ok s → Stands l s
unfolding standing_of
standing_takes l s inside e =
    let b = both_false (ltb l.standing 1) (ltb 4 l.standing) inside in
    elim (eqb_tells l.standing 1) [
      | inl equal ↦ quiet l s (standing.Waiting l.moment) (sym equal.1) refl refl refl refl refl (rw equal.0 at e)
      | inr not1 ↦ elim (eqb_tells l.standing 2) [
        | inl equal ↦ quiet l s (standing.DueAgain l.moment) (sym equal.1) refl refl refl refl refl (rw (not1.0, equal.0) at e)
        | inr not2 ↦ elim (eqb_tells l.standing 3) [
          | inl equal ↦ running l s (sym equal.1) (rw (not1.0, not2.0, equal.0) at e)
          | inr not3 ↦ ended l s (omega (arith, not1.1, not2.1, not3.1, ltb-false _ _ b.0, ltb-false _ _ b.1)) (rw (not1.0, not2.0, not3.0) at e)
        ]
      ]
    ]

-- the fields of a row
abbrev pub life_made : List ℕ → ℕ → ℕ → ℕ → Standing → Life
life_made id accepted number last_number s =
    record { id = id; accepted = accepted; number = number; last_number = last_number; standing = standing_byte s; outcome = ended_byte s; environment = environment_in s; moment = moment_in s }

pub standing_again : (id : List ℕ) (accepted number last_number : ℕ) (s : Standing) → is_unknown s ≡ false → breaks_rule s ≡ false → standing_of (life_made id accepted number last_number s) ≡ Ok s
unfolding standing_of
standing_again id accepted number last_number standing.Unknown known rule = absurd cc
standing_again id accepted number last_number (standing.Waiting due) known rule = refl
standing_again id accepted number last_number (standing.DueAgain due) known rule = refl
standing_again id accepted number last_number (standing.Running environment deadline) known rule = rw rule refl
standing_again id accepted number last_number (standing.Ended Success at) known rule = rw rule refl
standing_again id accepted number last_number (standing.Ended RetriesExhausted at) known rule = rw rule refl
standing_again id accepted number last_number (standing.Ended EventAgeExceeded at) known rule = rw rule refl

pub answer_takes : (byte : ℕ) (bytes : List ℕ) (a : Answer) → is_outside 0 2 byte ≡ false → answer_of byte bytes ≡ Ok a → (answer_byte a ≡ byte) × (answer_bytes a ≡ bytes)
answer_takes byte bytes a inside e =
    elim (eqb_tells byte 0) [
      | inl equal ↦
          let g = unless_ok (ltb 0 (length bytes)) fault.BadKind answer.None a (rw equal.0 at e) in
          let none : bytes ≡ [] = nil_from_length bytes (omega (arith, ltb-false _ _ g.0)) in
          (ap answer_byte (sym g.1) ∙ sym equal.1, ap answer_bytes (sym g.1) ∙ sym none)
      | inr not0 ↦ elim (eqb_tells byte 1) [
        | inl equal ↦
            let is = ok_is (answer.Response bytes) a (rw (not0.0, equal.0) at e) in
            (ap answer_byte (sym is) ∙ sym equal.1, ap answer_bytes (sym is))
        | inr not1 ↦
            let is = ok_is (answer.Error bytes) a (rw (not0.0, not1.0) at e) in
            let two : 2 ≡ byte = omega (arith, not0.1, not1.1, most_of 0 2 byte inside) in
            (ap answer_byte (sym is) ∙ two, ap answer_bytes (sym is))
      ]
    ]

pub answer_again : (a : Answer) → answer_of (answer_byte a) (answer_bytes a) ≡ Ok a
answer_again answer.None = refl
answer_again (answer.Response bytes) = refl
answer_again (answer.Error bytes) = refl
