-- The two laws of settings: what is read is spelled so, and what is spelled so is read. Lemmas.
use Rattle.std.proofs.Common.{◌≡◌, ℕ, ◌^◌, ◌≤◌, Bool, true, false, not, cond, List, [], ◌∷◌, ◌++◌, length, Option, Some, None, Ok, refl, sym, ap, subst, ◌∙◌, append_assoc, arith}
use Rattle.std.specs.List.{list_all}
use Rattle.std.specs.Int.{w16, w32, to_be_bytes}
use Rattle.std.proofs.lemmas.List.{length-append}
use Rattle.retry_rules.specs.declared.settings.Settings.{Settings}
use Rattle.retry_rules.specs.declared.settings.Field.{Field}
use Rattle.retry_rules.specs.declared.settings.Field.TheVariants as field
use Rattle.retry_rules.specs.Settings.{is_outside, is_bad_text, is_name_byte, is_plain_byte, bad_field}
use Rattle.invoke_records.specs.declared.limits.Limits.{Limits}
use Rattle.invoke_records.specs.Spelling.{IsBytes, short_text, settings_text}
use Rattle.invoke_records.specs.Reading.{small_at, limit_at, text_at, limits_at, with_texts, settings_at}
use Rattle.invoke_records.specs.laws.Fields.{bind_ok, ok_is, Takes, Takes-then, wide16, wide32, both_false}
use Rattle.invoke_records.specs.laws.Bounds.{small_takes, small_again, limit_takes, most_of, limit_again, text_takes, text_again}

-- ## The numbers

pub record AreLimits (l : Limits) : Type 0 where
  pub retries : is_outside 0 2 l.retries ≡ false
  pub age : is_outside 60 21600 l.age ≡ false
  pub timeout : is_outside 1 900 l.timeout ≡ false
  pub concurrency : is_outside 1 64 l.concurrency ≡ false
  pub environments : is_outside 1 16 l.environments ≡ false
  pub events : is_outside 1 1024 l.events ≡ false
  pub payload : is_outside 2 1048576 l.payload ≡ false
  pub response : is_outside 2 262144 l.response ≡ false

abbrev text_of_limits : Limits → List ℕ
text_of_limits l =
    (l.retries ∷ []) ++ (to_be_bytes w32 l.age ++ (to_be_bytes w16 l.timeout ++ ((l.concurrency ∷ []) ++ ((l.environments ∷ []) ++ (to_be_bytes w16 l.events ++ (to_be_bytes w32 l.payload ++ to_be_bytes w32 l.response))))))

limits_take : (bytes : List ℕ) (x : Limits × List ℕ) → IsBytes bytes → limits_at bytes ≡ Ok x → Takes bytes (text_of_limits x.0) x.1 × AreLimits x.0
unfolding limits_at
limits_take bytes x fits e =
    let a = bind_ok (small_at 0 2 bytes) _ x e in
    let b = bind_ok (limit_at w32 60 21600 a.0.1) _ x a.2 in
    let c = bind_ok (limit_at w16 1 900 b.0.1) _ x b.2 in
    let d = bind_ok (small_at 1 64 c.0.1) _ x c.2 in
    let f = bind_ok (small_at 1 16 d.0.1) _ x d.2 in
    let g = bind_ok (limit_at w16 1 1024 f.0.1) _ x f.2 in
    let h = bind_ok (limit_at w32 2 1048576 g.0.1) _ x g.2 in
    let k = bind_ok (limit_at w32 2 262144 h.0.1) _ x h.2 in
    let ta = small_takes 0 2 bytes a.0 fits a.1 in
    let tb = limit_takes w32 (2 ^ 32) wide32 60 21600 a.0.1 b.0 ta.0.rest_fits b.1 in
    let tc = limit_takes w16 (2 ^ 16) wide16 1 900 b.0.1 c.0 tb.0.rest_fits c.1 in
    let td = small_takes 1 64 c.0.1 d.0 tc.0.rest_fits d.1 in
    let tf = small_takes 1 16 d.0.1 f.0 td.0.rest_fits f.1 in
    let tg = limit_takes w16 (2 ^ 16) wide16 1 1024 f.0.1 g.0 tf.0.rest_fits g.1 in
    let th = limit_takes w32 (2 ^ 32) wide32 2 1048576 g.0.1 h.0 tg.0.rest_fits h.1 in
    let tk = limit_takes w32 (2 ^ 32) wide32 2 262144 h.0.1 k.0 th.0.rest_fits k.1 in
    let all = Takes-then bytes (a.0.0 ∷ []) a.0.1 _ k.0.1 ta.0 (Takes-then a.0.1 (to_be_bytes w32 b.0.0) b.0.1 _ k.0.1 tb.0 (Takes-then b.0.1 (to_be_bytes w16 c.0.0) c.0.1 _ k.0.1 tc.0 (Takes-then c.0.1 (d.0.0 ∷ []) d.0.1 _ k.0.1 td.0
    (Takes-then d.0.1 (f.0.0 ∷ []) f.0.1 _ k.0.1 tf.0 (Takes-then f.0.1 (to_be_bytes w16 g.0.0) g.0.1 _ k.0.1 tg.0 (Takes-then g.0.1 (to_be_bytes w32 h.0.0) h.0.1 _ k.0.1 th.0 tk.0)))))) in
    let made : Limits × List ℕ = (record { retries = a.0.0; age = b.0.0; timeout = c.0.0; concurrency = d.0.0; environments = f.0.0; events = g.0.0; payload = h.0.0; response = k.0.0 }, k.0.1) in
    subst (λ (y : Limits × List ℕ). Takes bytes (text_of_limits y.0) y.1 × AreLimits y.0) (ok_is made x k.2)
    (all, record { retries = ta.1; age = tb.1; timeout = tc.1; concurrency = td.1; environments = tf.1; events = tg.1; payload = th.1; response = tk.1 })

limits_again : (l : Limits) (rest : List ℕ) → AreLimits l → limits_at (text_of_limits l ++ rest) ≡ Ok (l, rest)
unfolding limits_at
limits_again l rest good =
    let r8 : List ℕ = to_be_bytes w32 l.response ++ rest in
    let r7 : List ℕ = to_be_bytes w32 l.payload ++ r8 in
    let r6 : List ℕ = to_be_bytes w16 l.events ++ r7 in
    let r5 : List ℕ = l.environments ∷ r6 in
    let r4 : List ℕ = l.concurrency ∷ r5 in
    let r3 : List ℕ = to_be_bytes w16 l.timeout ++ r4 in
    let r2 : List ℕ = to_be_bytes w32 l.age ++ r3 in
    let regrouped : text_of_limits l ++ rest ≡ l.retries ∷ r2 = simp append_assoc in
    ap limits_at regrouped
    ∙ rw (
      small_again 0 2 l.retries r2 good.retries,
      limit_again w32 (2 ^ 32) wide32 60 21600 l.age r3 (omega arith) good.age,
      limit_again w16 (2 ^ 16) wide16 1 900 l.timeout r4 (omega arith) good.timeout,
      small_again 1 64 l.concurrency r5 good.concurrency,
      small_again 1 16 l.environments r6 good.environments,
      limit_again w16 (2 ^ 16) wide16 1 1024 l.events r7 (omega arith) good.events,
      limit_again w32 (2 ^ 32) wide32 2 1048576 l.payload r8 (omega arith) good.payload,
      limit_again w32 (2 ^ 32) wide32 2 262144 l.response rest (omega arith) good.response,
    ) refl

-- ## Settings

abbrev pub limits_of : Settings → Limits
limits_of s = record { retries = s.retries; age = s.age; timeout = s.timeout; concurrency = s.concurrency; environments = s.environments; events = s.events; payload = s.payload; response = s.response }

-- the tests of settings, one by one
pub record AreGood (s : Settings) : Type 0 where
  pub limits : AreLimits (limits_of s)
  pub name : is_bad_text 64 is_name_byte s.name ≡ false
  pub handler : is_bad_text 128 is_plain_byte s.handler ≡ false
  pub arn : is_bad_text 200 is_plain_byte s.arn ≡ false

passed : (test : Bool) (bad : Field) (others : Option Field) → cond test (Some bad) others ≡ None → (test ≡ false) × (others ≡ None)
passed true bad others e = absurd cc
passed false bad others e = (refl, e)

pub are_good : (s : Settings) → bad_field s ≡ None → AreGood s
are_good s e =
    let a = passed (is_outside 0 2 s.retries) field.Retries _ e in
    let b = passed (is_outside 60 21600 s.age) field.Age _ a.1 in
    let c = passed (is_outside 1 900 s.timeout) field.Timeout _ b.1 in
    let d = passed (is_outside 1 64 s.concurrency) field.Concurrency _ c.1 in
    let f = passed (is_outside 1 16 s.environments) field.Environments _ d.1 in
    let g = passed (is_outside 1 1024 s.events) field.Events _ f.1 in
    let h = passed (is_outside 2 1048576 s.payload) field.Payload _ g.1 in
    let k = passed (is_outside 2 262144 s.response) field.Response _ h.1 in
    let l = passed (is_bad_text 64 is_name_byte s.name) field.Name _ k.1 in
    let m = passed (is_bad_text 128 is_plain_byte s.handler) field.Handler _ l.1 in
    let n = passed (is_bad_text 200 is_plain_byte s.arn) field.Arn _ m.1 in
    record { limits = record { retries = a.0; age = b.0; timeout = c.0; concurrency = d.0; environments = f.0; events = g.0; payload = h.0; response = k.0 }; name = l.0; handler = m.0; arn = n.0 }

pub no_bad_field : (s : Settings) → AreGood s → bad_field s ≡ None
no_bad_field s good =
    rw (good.limits.retries, good.limits.age, good.limits.timeout, good.limits.concurrency, good.limits.environments, good.limits.events, good.limits.payload, good.limits.response, good.name, good.handler, good.arn) refl

-- what is spelled so is read
pub settings_again : (s : Settings) (rest : List ℕ) → bad_field s ≡ None → settings_at (settings_text s ++ rest) ≡ Ok (s, rest)
unfolding settings_at settings_text
settings_again s rest e =
    let good = are_good s e in
    let regrouped : settings_text s ++ rest ≡ text_of_limits (limits_of s) ++ (short_text s.name ++ (short_text s.handler ++ (short_text s.arn ++ rest))) =
    append_assoc (text_of_limits (limits_of s)) (short_text s.name ++ (short_text s.handler ++ short_text s.arn)) rest
    ∙ ap (λ (t : List ℕ). text_of_limits (limits_of s) ++ t) (append_assoc (short_text s.name) (short_text s.handler ++ short_text s.arn) rest ∙ ap (λ (t : List ℕ). short_text s.name ++ t) (append_assoc (short_text s.handler) (short_text s.arn) rest)) in
    ap settings_at regrouped
    ∙ rw (
      limits_again (limits_of s) (short_text s.name ++ (short_text s.handler ++ (short_text s.arn ++ rest))) good.limits,
      text_again 64 is_name_byte s.name (short_text s.handler ++ (short_text s.arn ++ rest)) good.name,
      text_again 128 is_plain_byte s.handler (short_text s.arn ++ rest) good.handler,
      text_again 200 is_plain_byte s.arn rest good.arn,
    ) refl

-- what is read is spelled so
pub settings_takes : (bytes : List ℕ) (x : Settings × List ℕ) → IsBytes bytes → settings_at bytes ≡ Ok x → Takes bytes (settings_text x.0) x.1 × (bad_field x.0 ≡ None)
unfolding settings_at settings_text
settings_takes bytes x fits e =
    let l = bind_ok (limits_at bytes) _ x e in
    let n = bind_ok (text_at 64 is_name_byte l.0.1) _ x l.2 in
    let h = bind_ok (text_at 128 is_plain_byte n.0.1) _ x n.2 in
    let a = bind_ok (text_at 200 is_plain_byte h.0.1) _ x h.2 in
    let tl = limits_take bytes l.0 fits l.1 in
    let tn = text_takes 64 is_name_byte l.0.1 n.0 tl.0.rest_fits n.1 in
    let th = text_takes 128 is_plain_byte n.0.1 h.0 tn.0.rest_fits h.1 in
    let ta = text_takes 200 is_plain_byte h.0.1 a.0 th.0.rest_fits a.1 in
    let all = Takes-then bytes (text_of_limits l.0.0) l.0.1 _ a.0.1 tl.0 (Takes-then l.0.1 (short_text n.0.0) n.0.1 _ a.0.1 tn.0 (Takes-then n.0.1 (short_text h.0.0) h.0.1 _ a.0.1 th.0 ta.0)) in
    let made : Settings × List ℕ = (with_texts l.0.0 n.0.0 h.0.0 a.0.0, a.0.1) in
    subst (λ (y : Settings × List ℕ). Takes bytes (settings_text y.0) y.1 × (bad_field y.0 ≡ None)) (ok_is made x a.2)
    (all, no_bad_field made.0 (record { limits = tl.1; name = tn.1; handler = th.1; arn = ta.1 }))

-- no spelling begins another
pub settings_apart : (s t : Settings) (a b : List ℕ) → bad_field s ≡ None → bad_field t ≡ None → settings_text s ++ a ≡ settings_text t ++ b → (s ≡ t) × (a ≡ b)
settings_apart s t a b good_s good_t e =
    let same : (s, a) ≡ (t, b) = ok_is (s, a) (t, b) (sym (settings_again s a good_s) ∙ ap settings_at e ∙ settings_again t b good_t) in
    (ap (λ (x : Settings × List ℕ). x.0) same, ap (λ (x : Settings × List ℕ). x.1) same)

pub text_most : (most : ℕ) (is_good : ℕ → Bool) (text : List ℕ) → is_bad_text most is_good text ≡ false → length text ≤ most
text_most most is_good text good = most_of 1 most (length text) (both_false (is_outside 1 most (length text)) (not (list_all is_good text)) good).0

-- good settings take at most 414 bytes
pub settings_length_most : (s : Settings) → bad_field s ≡ None → length (settings_text s) ≤ 414
unfolding settings_text
settings_length_most s e =
    let good = are_good s e in
    let behind : List ℕ = short_text s.handler ++ short_text s.arn in
    omega (arith, length-append s.name behind, length-append s.handler (short_text s.arn), text_most 64 is_name_byte s.name good.name, text_most 128 is_plain_byte s.handler good.handler, text_most 200 is_plain_byte s.arn good.arn)
