-- The two laws of commands: what is read is spelled so, and what is spelled so is read. Lemmas.
use Rattle.std.proofs.Common.{◌≡◌, ℕ, ◌+◌, ◌^◌, ◌<◌, ◌≤◌, Bool, true, false, ◌||◌, cond, ltb, eqb, List, [], ◌∷◌, ◌++◌, length, Option, Some, None, Result, Ok, refl, sym, ap, subst, ◌∙◌, append_assoc, arith, inl, inr}
use Rattle.std.specs.Int.{w16, w32, w64, to_be_bytes}
use Rattle.std.proofs.lemmas.Bool.{cases_Bool, ltb-false, le-ltb, eqb-true}
use Rattle.std.proofs.lemmas.List.{length-append}
use Rattle.retry_rules.specs.declared.policy.RetryPolicy.{RetryPolicy}
use Rattle.invoke_records.specs.declared.command.Cause.TheVariants.{Reported, Timeout, Exited}
use Rattle.invoke_records.specs.declared.command.Kind.{Kind}
use Rattle.invoke_records.specs.declared.command.Kind.TheVariants.{Accept, Start, Succeed, Fail, Throttle, Interrupt, Expire, Collect, Configure}
use Rattle.invoke_records.specs.declared.command.Command.{Command}
use Rattle.invoke_records.specs.declared.head.Head.{Head}
use Rattle.invoke_records.specs.declared.error.RecordError.{RecordError}
use Rattle.invoke_records.specs.declared.error.RecordError.TheVariants.{Truncated, BadKind, TooLong}
use Rattle.invoke_records.specs.Spelling.{IsBytes, IsCommand, command_text, command_fault, body_text, policy_text, detail_text, kind_byte, is_bad_environment, is_bad_id, is_bad_detail, most_bytes, least_bytes, greatest_moment}
use Rattle.invoke_records.specs.Reading.{unless, sound, byte_at, bytes_at, number_at, kind_at, fields_at, head_fault, failure_at, policy_at, no_policy, configured_at, body_at, command_at, least_length, most_length}
use Rattle.invoke_records.specs.laws.Fields.{bind_ok, unless_ok, sound_ok, ok_is, done, IsBytes-behind, Takes, Takes-then, byte_takes, bytes_takes, bytes_again, number_takes, number_again, wide16, wide32, wide64, both_false, either_false}
use Rattle.invoke_records.specs.laws.Bounds.{policy_takes, policy_again}

-- ## The fields in front

-- the kind without its cause or its retry policy
abbrev pub without_detail : Kind → Kind
without_detail (Fail cause) = Fail Reported
without_detail (Configure policy) = Configure no_policy
without_detail kind = kind

pub kind_again : (kind : Kind) → kind_at (kind_byte kind) ≡ Ok (without_detail kind)
kind_again Accept = refl
kind_again Start = refl
kind_again Succeed = refl
kind_again (Fail cause) = refl
kind_again Throttle = refl
kind_again Interrupt = refl
kind_again Expire = refl
kind_again Collect = refl
kind_again (Configure policy) = refl

-- the kind that is read where its byte is this number
abbrev pub IsKindOf : ℕ → Kind → Type 0
IsKindOf byte kind = (kind_byte kind ≡ byte) × (without_detail kind ≡ kind)

one_kind : (byte n : ℕ) (mine : Kind) (others : Result Kind RecordError) (x : Kind) → IsKindOf n mine → cond (eqb byte n) (Ok mine) others ≡ Ok x → (others ≡ Ok x → IsKindOf byte x) → IsKindOf byte x
one_kind byte n mine others x is e next =
    elim (cases_Bool (eqb byte n)) [
      | inl equal ↦ let same : byte ≡ n = eqb-true _ _ equal in let k : mine ≡ x = ok_is mine x (sym (ap (λ (b : Bool). cond b (Ok mine) others) equal) ∙ e) in rw (same, ← k) is
      | inr other ↦ next (sym (ap (λ (b : Bool). cond b (Ok mine) others) other) ∙ e)
    ]

pub kind_takes : (byte : ℕ) (x : Kind) → kind_at byte ≡ Ok x → IsKindOf byte x
kind_takes byte x e1 =
    one_kind byte 1 Accept _ x (refl, refl) e1 (λ e2.
    one_kind byte 2 Start _ x (refl, refl) e2 (λ e3.
    one_kind byte 3 Succeed _ x (refl, refl) e3 (λ e4.
    one_kind byte 4 (Fail Reported) _ x (refl, refl) e4 (λ e5.
    one_kind byte 5 Throttle _ x (refl, refl) e5 (λ e6.
    one_kind byte 6 Interrupt _ x (refl, refl) e6 (λ e7.
    one_kind byte 7 Expire _ x (refl, refl) e7 (λ e8.
    one_kind byte 8 Collect _ x (refl, refl) e8 (λ e9.
    one_kind byte 9 (Configure no_policy) _ x (refl, refl) e9 (λ e10. absurd cc)))))))))

-- the bytes of the fields in front
abbrev pub fields_text : Head → List ℕ
fields_text h = (kind_byte h.kind ∷ []) ++ (h.id ++ (to_be_bytes w16 h.environment ++ (to_be_bytes w64 h.time ++ to_be_bytes w32 h.size)))

pub record FieldsFit (h : Head) : Type 0 where
  pub kind : without_detail h.kind ≡ h.kind
  pub id : length h.id ≡ 16
  pub id_bytes : IsBytes h.id
  pub environment : h.environment < 2 ^ 16
  pub time : h.time < 2 ^ 64
  pub size : h.size < 2 ^ 32

pub fields_takes : (bytes : List ℕ) (x : Head × List ℕ) → IsBytes bytes → fields_at bytes ≡ Ok x → Takes bytes (fields_text x.0) x.1 × FieldsFit x.0
unfolding fields_at
fields_takes bytes x fits e =
    let a = bind_ok (byte_at bytes) _ x e in
    let b = bind_ok (bytes_at 16 a.0.1) _ x a.2 in
    let c = bind_ok (number_at w16 b.0.1) _ x b.2 in
    let d = bind_ok (number_at w64 c.0.1) _ x c.2 in
    let s = bind_ok (number_at w32 d.0.1) _ x d.2 in
    let k = bind_ok (kind_at a.0.0) _ x s.2 in
    let ta = byte_takes bytes a.0 fits a.1 in
    let tb = bytes_takes 16 a.0.1 b.0 ta.0.rest_fits b.1 in
    let tc = number_takes w16 (2 ^ 16) wide16 b.0.1 c.0 tb.0.rest_fits c.1 in
    let td = number_takes w64 (2 ^ 64) wide64 c.0.1 d.0 tc.0.rest_fits d.1 in
    let ts = number_takes w32 (2 ^ 32) wide32 d.0.1 s.0 td.0.rest_fits s.1 in
    let tk = kind_takes a.0.0 k.0 k.1 in
    let all = Takes-then bytes _ a.0.1 _ s.0.1 ta.0 (Takes-then a.0.1 _ b.0.1 _ s.0.1 tb.0 (Takes-then b.0.1 _ c.0.1 _ s.0.1 tc.0 (Takes-then c.0.1 _ d.0.1 _ s.0.1 td.0 ts.0))) in
    let made : Head × List ℕ = (record { kind = k.0; id = b.0.0; environment = c.0.0; time = d.0.0; size = s.0.0 }, s.0.1) in
    subst (λ (y : Head × List ℕ). Takes bytes (fields_text y.0) y.1 × FieldsFit y.0) (ok_is made x k.2)
    (rw tk.0 all, record { kind = tk.1; id = tb.1; id_bytes = tb.2; environment = tc.1; time = td.1; size = ts.1 })

pub fields_again : (h : Head) (rest : List ℕ) → FieldsFit h → fields_at (fields_text h ++ rest) ≡ Ok (h, rest)
unfolding fields_at
fields_again h rest fits =
    let regrouped : fields_text h ++ rest ≡ kind_byte h.kind ∷ (h.id ++ (to_be_bytes w16 h.environment ++ (to_be_bytes w64 h.time ++ (to_be_bytes w32 h.size ++ rest)))) = simp append_assoc in
    ap fields_at regrouped
    ∙ rw (
      bytes_again 16 h.id (to_be_bytes w16 h.environment ++ (to_be_bytes w64 h.time ++ (to_be_bytes w32 h.size ++ rest))) fits.id,
      number_again w16 (2 ^ 16) wide16 h.environment (to_be_bytes w64 h.time ++ (to_be_bytes w32 h.size ++ rest)) fits.environment,
      number_again w64 (2 ^ 64) wide64 h.time (to_be_bytes w32 h.size ++ rest) fits.time,
      number_again w32 (2 ^ 32) wide32 h.size rest fits.size,
      kind_again h.kind,
      fits.kind,
    ) refl

-- ## The bytes behind

pub record BodyOf (wide : Kind) (bytes : List ℕ) (x : Kind × List ℕ) : Type 0 where
  pub parts : bytes ≡ detail_text x.0 ++ x.1
  pub same : without_detail x.0 ≡ wide
  pub most : length bytes ≤ most_length wide → length x.1 ≤ most_bytes x.0
  pub least : least_length wide ≤ length bytes → least_bytes x.0 ≤ length x.1
  pub detail : is_bad_detail x.0 ≡ false

reported : (error : List ℕ) → BodyOf (Fail Reported) (1 ∷ error) (Fail Reported, error)
reported error = record { parts = refl; same = refl; most = λ h. omega (arith, h); least = λ h. omega arith; detail = refl }

timed_out : (error : List ℕ) → ltb 0 (length error) ≡ false → BodyOf (Fail Reported) (2 ∷ error) (Fail Timeout, error)
timed_out error none = record { parts = refl; same = refl; most = λ h. ltb-false _ _ none; least = λ h. omega arith; detail = refl }

exited : (error : List ℕ) → ltb 0 (length error) ≡ false → BodyOf (Fail Reported) (3 ∷ error) (Fail Exited, error)
exited error none = record { parts = refl; same = refl; most = λ h. ltb-false _ _ none; least = λ h. omega arith; detail = refl }

failure_takes : (byte : ℕ) (error : List ℕ) (x : Kind × List ℕ) → failure_at byte error ≡ Ok x → BodyOf (Fail Reported) (byte ∷ error) x
failure_takes byte error x e =
    let short : Result (Kind × List ℕ) RecordError → Type 0 = λ r. r ≡ Ok x in
    elim (cases_Bool (eqb byte 1)) [
      | inl equal ↦ rw (eqb-true _ _ equal) (subst (BodyOf (Fail Reported) (1 ∷ error)) (ok_is (Fail Reported, error) x (rw equal at e)) (reported error))
      | inr not1 ↦ elim (cases_Bool (eqb byte 2)) [
        | inl equal ↦ let g = unless_ok (ltb 0 (length error)) TooLong (Fail Timeout, error) x (rw (not1, equal) at e) in
            rw (eqb-true _ _ equal) (subst (BodyOf (Fail Reported) (2 ∷ error)) g.1 (timed_out error g.0))
        | inr not2 ↦ elim (cases_Bool (eqb byte 3)) [
          | inl equal ↦ let g = unless_ok (ltb 0 (length error)) TooLong (Fail Exited, error) x (rw (not1, not2, equal) at e) in
              rw (eqb-true _ _ equal) (subst (BodyOf (Fail Reported) (3 ∷ error)) g.1 (exited error g.0))
          | inr not3 ↦ absurd (let wrong : _ = rw (not1, not2, not3) at e in cc)
        ]
      ]
    ]

plain : (kind : Kind) (bytes : List ℕ) (x : Kind × List ℕ) → BodyOf kind bytes (kind, bytes) → done (kind, bytes) ≡ done x → BodyOf kind bytes x
plain kind bytes x is e = subst (BodyOf kind bytes) (ok_is (kind, bytes) x e) is

-- the retry policy takes all the bytes that there may be
configured : (before : RetryPolicy) (bytes : List ℕ) (x : Kind × List ℕ) → IsBytes bytes → without_detail (Configure before) ≡ Configure before → configured_at bytes ≡ Ok x → BodyOf (Configure before) bytes x
configured before bytes x fits is e =
    let p = bind_ok (policy_at bytes) _ x e in
    let t = policy_takes bytes p.0 fits p.1 in
    subst (BodyOf (Configure before) bytes) (ok_is (Configure p.0.0, p.0.1) x p.2)
    (record { parts = t.0.parts; same = is; most = λ h. omega (arith, h, ap length t.0.parts, length-append (policy_text p.0.0) p.0.1); least = λ h. omega arith; detail = t.1 })

pub body_takes : (kind : Kind) (bytes : List ℕ) (x : Kind × List ℕ) → IsBytes bytes → without_detail kind ≡ kind → body_at kind bytes ≡ Ok x → BodyOf kind bytes x
unfolding body_at
body_takes Accept bytes x fits is e = plain Accept bytes x (record { parts = refl; same = refl; most = λ h. h; least = λ h. h; detail = refl }) e
body_takes Start bytes x fits is e = plain Start bytes x (record { parts = refl; same = refl; most = λ h. h; least = λ h. h; detail = refl }) e
body_takes Succeed bytes x fits is e = plain Succeed bytes x (record { parts = refl; same = refl; most = λ h. h; least = λ h. h; detail = refl }) e
body_takes (Fail Reported) [] x fits is e = absurd cc
body_takes (Fail Reported) (byte ∷ error) x fits is e = failure_takes byte error x e
body_takes (Fail Timeout) bytes x fits is e = absurd cc
body_takes (Fail Exited) bytes x fits is e = absurd cc
body_takes Throttle bytes x fits is e = plain Throttle bytes x (record { parts = refl; same = refl; most = λ h. h; least = λ h. h; detail = refl }) e
body_takes Interrupt bytes x fits is e = plain Interrupt bytes x (record { parts = refl; same = refl; most = λ h. h; least = λ h. h; detail = refl }) e
body_takes Expire bytes x fits is e = plain Expire bytes x (record { parts = refl; same = refl; most = λ h. h; least = λ h. h; detail = refl }) e
body_takes Collect bytes x fits is e = plain Collect bytes x (record { parts = refl; same = refl; most = λ h. h; least = λ h. h; detail = refl }) e
body_takes (Configure before) bytes x fits is e = configured before bytes x fits is e

pub body_again : (kind : Kind) (bytes : List ℕ) → is_bad_detail kind ≡ false → ltb (most_bytes kind) (length bytes) ≡ false → body_at (without_detail kind) (detail_text kind ++ bytes) ≡ Ok (kind, bytes)
unfolding body_at
body_again Accept bytes good short = refl
body_again Start bytes good short = refl
body_again Succeed bytes good short = refl
body_again (Fail Reported) bytes good short = refl
body_again (Fail Timeout) bytes good short = rw short refl
body_again (Fail Exited) bytes good short = rw short refl
body_again Throttle bytes good short = refl
body_again Interrupt bytes good short = refl
body_again Expire bytes good short = refl
body_again Collect bytes good short = refl
body_again (Configure policy) bytes good short = rw (policy_again policy bytes good) refl

-- ## Faults

abbrev pub three_tests : (environment long short : Bool) → Option RecordError
three_tests environment long short = cond environment (Some BadKind) (cond long (Some TooLong) (cond short (Some BadKind) None))

pub none_failed : (environment long short : Bool) → three_tests environment long short ≡ None → (environment ≡ false) × (long ≡ false) × (short ≡ false)
none_failed true long short e = absurd cc
none_failed false true short e = absurd cc
none_failed false false true e = absurd cc
none_failed false false false e = (refl, refl, refl)

pub all_passed : (environment long short : Bool) → environment ≡ false → long ≡ false → short ≡ false → three_tests environment long short ≡ None
all_passed environment long short a b c = rw (a, b, c) refl

abbrev pub four_tests : (head long short detail : Bool) → Option RecordError
four_tests head long short detail = cond head (Some BadKind) (cond long (Some TooLong) (cond short (Some BadKind) (cond detail (Some BadKind) None)))

none_of_four : (head long short detail : Bool) → four_tests head long short detail ≡ None → (head ≡ false) × (long ≡ false) × (short ≡ false) × (detail ≡ false)
none_of_four true long short detail e = absurd cc
none_of_four false true short detail e = absurd cc
none_of_four false false true detail e = absurd cc
none_of_four false false false true e = absurd cc
none_of_four false false false false e = (refl, refl, refl, refl)

all_four : (head long short detail : Bool) → head ≡ false → long ≡ false → short ≡ false → detail ≡ false → four_tests head long short detail ≡ None
all_four head long short detail a b c d = rw (a, b, c, d) refl

-- what is tested of a kind without what it says beside its byte is what is tested with it
pub environment_of : (kind : Kind) (environment : ℕ) → is_bad_environment (without_detail kind) environment ≡ is_bad_environment kind environment
environment_of Accept n = refl
environment_of Start n = refl
environment_of Succeed n = refl
environment_of (Fail cause) n = refl
environment_of Throttle n = refl
environment_of Interrupt n = refl
environment_of Expire n = refl
environment_of Collect n = refl
environment_of (Configure policy) n = refl

pub id_of : (kind : Kind) (id : List ℕ) → is_bad_id (without_detail kind) id ≡ is_bad_id kind id
id_of Accept id = refl
id_of Start id = refl
id_of Succeed id = refl
id_of (Fail cause) id = refl
id_of Throttle id = refl
id_of Interrupt id = refl
id_of Expire id = refl
id_of Collect id = refl
id_of (Configure policy) id = refl

pub byte_of : (kind : Kind) → kind_byte (without_detail kind) ≡ kind_byte kind
byte_of Accept = refl
byte_of Start = refl
byte_of Succeed = refl
byte_of (Fail cause) = refl
byte_of Throttle = refl
byte_of Interrupt = refl
byte_of Expire = refl
byte_of Collect = refl
byte_of (Configure policy) = refl

pub without_twice : (kind : Kind) → without_detail (without_detail kind) ≡ without_detail kind
without_twice Accept = refl
without_twice Start = refl
without_twice Succeed = refl
without_twice (Fail cause) = refl
without_twice Throttle = refl
without_twice Interrupt = refl
without_twice Expire = refl
without_twice Collect = refl
without_twice (Configure policy) = refl

-- a kind's greatest and least length, with what it says beside its byte and without
pub length_most : (kind : Kind) (bytes : List ℕ) → length bytes ≤ most_bytes kind → length (detail_text kind ++ bytes) ≤ most_length (without_detail kind)
length_most Accept bytes h = h
length_most Start bytes h = h
length_most Succeed bytes h = h
length_most (Fail Reported) bytes h = omega (arith, h)
length_most (Fail Timeout) bytes h = omega (arith, h)
length_most (Fail Exited) bytes h = omega (arith, h)
length_most Throttle bytes h = h
length_most Interrupt bytes h = h
length_most Expire bytes h = h
length_most Collect bytes h = h
length_most (Configure policy) bytes h = omega (arith, h, length-append (policy_text policy) bytes)

pub length_least : (kind : Kind) (bytes : List ℕ) → least_bytes kind ≤ length bytes → least_length (without_detail kind) ≤ length (detail_text kind ++ bytes)
length_least Accept bytes h = h
length_least Start bytes h = h
length_least Succeed bytes h = h
length_least (Fail Reported) bytes h = omega arith
length_least (Fail Timeout) bytes h = omega arith
length_least (Fail Exited) bytes h = omega arith
length_least Throttle bytes h = h
length_least Interrupt bytes h = h
length_least Expire bytes h = h
length_least Collect bytes h = h
length_least (Configure policy) bytes h = omega (arith, length-append (policy_text policy) bytes)

pub most_bound : (kind : Kind) → most_length (without_detail kind) ≤ 1048576
most_bound Accept = omega arith
most_bound Start = omega arith
most_bound Succeed = omega arith
most_bound (Fail cause) = omega arith
most_bound Throttle = omega arith
most_bound Interrupt = omega arith
most_bound Expire = omega arith
most_bound Collect = omega arith
most_bound (Configure policy) = omega arith

none_below : (n : ℕ) → ltb 0 n ≡ false → n < 2 ^ 16
none_below n h = omega (arith, ltb-false 0 n h)

pub environment_fits : (kind : Kind) (environment : ℕ) → is_bad_environment kind environment ≡ false → environment < 2 ^ 16
environment_fits Accept n h = none_below n h
environment_fits Start n h = omega (arith, ltb-false 16 n (both_false (ltb n 1) (ltb 16 n) h).1)
environment_fits Succeed n h = none_below n h
environment_fits (Fail cause) n h = none_below n h
environment_fits Throttle n h = none_below n h
environment_fits Interrupt n h = none_below n h
environment_fits Expire n h = none_below n h
environment_fits Collect n h = none_below n h
environment_fits (Configure policy) n h = none_below n h

-- ## Commands

-- the fields in front of a command's bytes
abbrev pub head_of : Command → Head
head_of c = record { kind = without_detail c.kind; id = c.id; environment = c.environment; time = c.time; size = length (body_text c) }

pub text_by_fields : (c : Command) → command_text c ≡ fields_text (head_of c) ++ body_text c
unfolding command_text
text_by_fields c = rw (byte_of c.kind) (simp append_assoc)

-- the fields one after another, as they are written
pub command_put : (out : List ℕ) (c : Command) (size : ℕ) → size ≡ length (body_text c)
    → ((((((out ++ (kind_byte c.kind ∷ [])) ++ c.id) ++ to_be_bytes w16 c.environment) ++ to_be_bytes w64 c.time) ++ to_be_bytes w32 size) ++ detail_text c.kind) ++ c.bytes ≡ out ++ command_text c
unfolding command_text
command_put out c size is = rw is (simp append_assoc)

-- the tests of a command
pub record IsSound (c : Command) : Type 0 where
  pub environment : is_bad_environment c.kind c.environment ≡ false
  pub id : is_bad_id c.kind c.id ≡ false
  pub time : ltb greatest_moment c.time ≡ false
  pub most : length c.bytes ≤ most_bytes c.kind
  pub least : least_bytes c.kind ≤ length c.bytes
  pub detail : is_bad_detail c.kind ≡ false

pub is_sound : (c : Command) → command_fault c ≡ None → IsSound c
is_sound c h =
    let t = none_of_four (is_bad_environment c.kind c.environment || (is_bad_id c.kind c.id || ltb greatest_moment c.time)) (ltb (most_bytes c.kind) (length c.bytes)) (ltb (length c.bytes) (least_bytes c.kind)) (is_bad_detail c.kind) h in
    let u = both_false (is_bad_environment c.kind c.environment) (is_bad_id c.kind c.id || ltb greatest_moment c.time) t.0 in
    let v = both_false (is_bad_id c.kind c.id) (ltb greatest_moment c.time) u.1 in
    record { environment = u.0; id = v.0; time = v.1; most = ltb-false _ _ t.1; least = ltb-false _ _ t.2; detail = t.3 }

pub no_fault : (c : Command) → IsSound c → command_fault c ≡ None
no_fault c s =
    all_four (is_bad_environment c.kind c.environment || (is_bad_id c.kind c.id || ltb greatest_moment c.time)) (ltb (most_bytes c.kind) (length c.bytes)) (ltb (length c.bytes) (least_bytes c.kind)) (is_bad_detail c.kind)
    (either_false _ _ s.environment (either_false _ _ s.id s.time)) (le-ltb _ _ s.most) (le-ltb _ _ s.least) s.detail

pub head_is_sound : (c : Command) → IsSound c → head_fault (head_of c) ≡ None
head_is_sound c s =
    let h = head_of c in
    all_passed (is_bad_environment (without_detail c.kind) c.environment || (is_bad_id (without_detail c.kind) c.id || ltb greatest_moment c.time)) (ltb (most_length (without_detail c.kind)) (length (body_text c))) (ltb (length (body_text c)) (least_length (without_detail c.kind)))
    (either_false _ _ (environment_of c.kind c.environment ∙ s.environment) (either_false _ _ (id_of c.kind c.id ∙ s.id) s.time)) (le-ltb _ _ (length_most c.kind c.bytes s.most)) (le-ltb _ _ (length_least c.kind c.bytes s.least))

pub body_bound : (c : Command) → IsCommand c → length (body_text c) ≤ 1048576
body_bound c is = omega (arith, length_most c.kind c.bytes (is_sound c is.fault).most, most_bound c.kind)

pub fields_fit : (c : Command) → IsCommand c → FieldsFit (head_of c)
fields_fit c is =
    let s = is_sound c is.fault in
    record {
      kind = without_twice c.kind;
      id = is.id;
      id_bytes = is.id_bytes;
      environment = environment_fits c.kind c.environment s.environment;
      time = omega (arith, ltb-false greatest_moment c.time s.time);
      size = omega (arith, body_bound c is);
    }

-- a spelling has 31 bytes and those that the command carries
pub command_length : (c : Command) → length c.id ≡ 16 → length (command_text c) ≡ 31 + length (body_text c)
unfolding command_text
command_length c id = omega (arith, length-append c.id (to_be_bytes w16 c.environment ++ (to_be_bytes w64 c.time ++ (to_be_bytes w32 (length (body_text c)) ++ body_text c))))

pub command_length_least : (c : Command) → length c.id ≡ 16 → 31 ≤ length (command_text c)
command_length_least c id = omega (arith, command_length c id)

pub command_length_most : (c : Command) → IsCommand c → length (command_text c) ≤ 31 + 1048576
command_length_most c is = omega (arith, command_length c is.id, body_bound c is)

abbrev pub heading : Kind → List ℕ → ℕ → ℕ → ℕ → Head
heading kind id environment time size = record { kind = kind; id = id; environment = environment; time = time; size = size }

-- a command of fields without a fault, and of their bytes
abbrev pub put_together : Head → Kind × List ℕ → Command
put_together h x = record { kind = x.0; id = h.id; environment = h.environment; time = h.time; bytes = x.1 }

pub parts_sound : (h : Head) (bytes : List ℕ) (x : Kind × List ℕ) → head_fault h ≡ None → length bytes ≡ h.size → BodyOf h.kind bytes x → IsSound (put_together h x)
parts_sound h bytes x clean size body =
    let t = none_failed (is_bad_environment h.kind h.environment || (is_bad_id h.kind h.id || ltb greatest_moment h.time)) (ltb (most_length h.kind) h.size) (ltb h.size (least_length h.kind)) clean in
    let u = both_false (is_bad_environment h.kind h.environment) (is_bad_id h.kind h.id || ltb greatest_moment h.time) t.0 in
    let v = both_false (is_bad_id h.kind h.id) (ltb greatest_moment h.time) u.1 in
    record {
      environment = sym (environment_of x.0 h.environment) ∙ ap (λ (k : Kind). is_bad_environment k h.environment) body.same ∙ u.0;
      id = sym (id_of x.0 h.id) ∙ ap (λ (k : Kind). is_bad_id k h.id) body.same ∙ v.0;
      time = v.1;
      most = body.most (omega (arith, size, ltb-false _ _ t.1));
      least = body.least (omega (arith, size, ltb-false _ _ t.2));
      detail = body.detail;
    }

-- what is spelled so is read
pub command_again : (c : Command) (rest : List ℕ) → IsCommand c → command_at (command_text c ++ rest) ≡ Ok (c, rest)
unfolding command_at
command_again c rest is =
    let s = is_sound c is.fault in
    let long : ltb (length (command_text c ++ rest)) 31 ≡ false = le-ltb _ _ (omega (arith, length-append (command_text c) rest, command_length c is.id)) in
    let regrouped : command_text c ++ rest ≡ fields_text (head_of c) ++ (body_text c ++ rest) = ap (λ (t : List ℕ). t ++ rest) (text_by_fields c) ∙ append_assoc (fields_text (head_of c)) (body_text c) rest in
    rw (
      long,
      regrouped,
      fields_again (head_of c) (body_text c ++ rest) (fields_fit c is),
      head_is_sound c s,
      bytes_again (length (body_text c)) (body_text c) rest refl,
      body_again c.kind c.bytes s.detail (le-ltb _ _ s.most),
    ) refl

-- what is read is spelled so
pub command_takes : (bytes : List ℕ) (x : Command × List ℕ) → IsBytes bytes → command_at bytes ≡ Ok x → Takes bytes (command_text x.0) x.1 × IsCommand x.0
unfolding command_at
command_takes bytes x fits e =
    let l = bind_ok (unless (ltb (length bytes) 31) Truncated bytes) _ x e in
    let h = bind_ok (fields_at bytes) _ x l.2 in
    let g = bind_ok (sound (head_fault h.0.0) h.0.0) _ x h.2 in
    let b = bind_ok (bytes_at h.0.0.size h.0.1) _ x g.2 in
    let p = bind_ok (body_at h.0.0.kind b.0.0) _ x b.2 in
    let th = fields_takes bytes h.0 fits h.1 in
    let tb = bytes_takes h.0.0.size h.0.1 b.0 th.0.rest_fits b.1 in
    let tp = body_takes h.0.0.kind b.0.0 p.0 tb.2 th.1.kind p.1 in
    let clean = (sound_ok (head_fault h.0.0) h.0.0 g.0 g.1).0 in
    let made : Command × List ℕ = (record { kind = p.0.0; id = h.0.0.id; environment = h.0.0.environment; time = h.0.0.time; bytes = p.0.1 }, b.0.1) in
    let whole = Takes-then bytes (fields_text h.0.0) h.0.1 b.0.0 b.0.1 th.0 tb.0 in
    let size : length (body_text made.0) ≡ h.0.0.size = ap length (sym tp.parts) ∙ tb.1 in
    let head : head_of made.0 ≡ h.0.0 =
    ap (λ (k : Kind). heading k h.0.0.id h.0.0.environment h.0.0.time (length (body_text made.0))) tp.same
    ∙ ap (heading h.0.0.kind h.0.0.id h.0.0.environment h.0.0.time) size in
    let text : fields_text h.0.0 ++ b.0.0 ≡ command_text made.0 = sym (text_by_fields made.0 ∙ ap (λ (f : Head). fields_text f ++ body_text made.0) head ∙ ap (λ (t : List ℕ). fields_text h.0.0 ++ t) (sym tp.parts)) in
    subst (λ (y : Command × List ℕ). Takes bytes (command_text y.0) y.1 × IsCommand y.0) (ok_is made x p.2) (
      subst (λ (t : List ℕ). Takes bytes t b.0.1) text whole,
      record {
        id = th.1.id;
        id_bytes = th.1.id_bytes;
        bytes = IsBytes-behind (detail_text p.0.0) p.0.1 (subst IsBytes tp.parts tb.2);
        fault = no_fault made.0 (parts_sound h.0.0 b.0.0 p.0 clean tb.1 tp);
      },
    )

-- no spelling begins another
pub command_apart : (c d : Command) (a b : List ℕ) → IsCommand c → IsCommand d → command_text c ++ a ≡ command_text d ++ b → (c ≡ d) × (a ≡ b)
command_apart c d a b is_c is_d e =
    let same : (c, a) ≡ (d, b) = ok_is (c, a) (d, b) (sym (command_again c a is_c) ∙ ap command_at e ∙ command_again d b is_d) in
    (ap (λ (x : Command × List ℕ). x.0) same, ap (λ (x : Command × List ℕ). x.1) same)
