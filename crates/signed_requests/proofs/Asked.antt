-- What is judged well is signed by a key of the list that has the right.
use Rattle.std.proofs.Common.{◌≡◌, ◌+◌, ◌-◌, ◌*◌, ◌≤◌, ℕ, suc, Bool, true, false, cond, ltb, List, [], ◌∷◌, Option, Some, None, Result, Ok, Err, refl, sym, ap, ◌∙◌, subst, arith, Contains, IfSome, OnOk, IsOkUnless}
use Rattle.std.proofs.lemmas.Bool.Decides.{nat_tests}
use Rattle.std.proofs.lemmas.Slice.Eq.{bytes_eq-Decides}
use Rattle.std.specs.Str.{bytes_eq}
use Rattle.signed_requests.specs.declared.keys.Right.{Right}
use Rattle.signed_requests.specs.declared.refusal.Refusal.{Refusal}
use Rattle.signed_requests.specs.declared.refusal.Fault.TheVariants as fault
use Rattle.signed_requests.specs.declared.refusal.Refusal.TheVariants.{IncompleteSignature, UnrecognizedClient, SignatureExpired, SignatureNotYetCurrent, AccessDenied, InvalidSignature}
use Rattle.http_header.specs.HeaderMap.{Entries}
use Rattle.http_header.specs.FieldValue.{FieldValue}
use Rattle.signed_requests.specs.Rights.{has_right}
use Rattle.signed_requests.specs.Keys.{Entry, key_named}
use Rattle.signed_requests.specs.Canonical.{Request}
use Rattle.signed_requests.specs.Authorization.{◌>>=◌, needed, Signed, signed_in}
use Rattle.signed_requests.specs.Signing.{window, signature_of, IsSignedBy}
use Rattle.signed_requests.specs.Judging.{Asker, is_placed, placed, current, asker_in, checked, judged, IsAskedBy}
use Rattle.signed_requests.specs.Says.{Says}
use Rattle.signed_requests.specs.declared.refusal.JudgeError.{JudgeError}
use Rattle.signed_requests.specs.declared.refusal.JudgeError.TheVariants.{Refused, OutOfMemory}

bind_ok : {A B : Type 0} (r : Result A Refusal) (f : A → Result B Refusal) (y : B) → (r >>= f) ≡ Ok y → (x : A) × (r ≡ Ok x) × (f x ≡ Ok y)
bind_ok (Ok x) f y e = (x, refl, e)
bind_ok (Err why) f y e = cc

needed_ok : {A : Type 0} (why : Refusal) (o : Option A) (x : A) → needed why o ≡ Ok x → o ≡ Some x
needed_ok why None x e = cc
needed_ok why (Some y) x e = cc

guard_ok : {A : Type 0} (b : Bool) (why : Refusal) (x y : A) → cond b (Ok x) (Err why) ≡ Ok y → (b ≡ true) × (x ≡ y)
guard_ok true why x y e = (refl, cc)
guard_ok false why x y e = cc

same : (a b : List ℕ) → bytes_eq a b ≡ true → a ≡ b
same a b e = (bytes_eq-Decides a b).0 e

-- the key that is found is one of the list, with that name
named : (name : List ℕ) (keys : List Entry) (e : Entry) → key_named name keys ≡ Some e → Contains keys e × (e.access ≡ name)
named name [] e h = cc
named name (k ∷ keys) e h =
    elim (bytes_eq k.access name) as (λ b. bytes_eq k.access name ≡ b → cond b (Some k) (key_named name keys) ≡ Some e → Contains (k ∷ keys) e × (e.access ≡ name)) [
      | true ↦ λ t h.
          let it : k ≡ e = cc in
          ((0, omega arith, it), sym (ap (λ (x : Entry). x.access) it) ∙ same k.access name t)
      | false ↦ λ t h.
          let rest = named name keys e h in
          let at = rest.0 in
          ((suc at.0, omega (arith, at.1), at.2), rest.1)
    ] refl h

is_here : (region : Option (List ℕ)) (said : List ℕ) → is_placed region said ≡ true → IfSome region (λ this. said ≡ this)
is_here None said e = tt {0}
is_here (Some this) said e = same said this e

in_window : (signed now : ℕ) → current signed now ≡ Ok (tt {0}) → (now ≤ signed + window) × (signed ≤ now + window)
in_window signed now e =
    elim (ltb (signed + window) now) as (λ b. ltb (signed + window) now ≡ b
    → cond b (Err (SignatureExpired signed now)) (cond (ltb now (signed - window)) (Err (SignatureNotYetCurrent signed now)) (Ok (tt {0}))) ≡ Ok (tt {0})
    → (now ≤ signed + window) × (signed ≤ now + window)) [
      | true ↦ λ t e. cc
      | false ↦ λ t e. elim (ltb now (signed - window)) as (λ b. ltb now (signed - window) ≡ b
          → cond b (Err (SignatureNotYetCurrent signed now)) (Ok (tt {0})) ≡ Ok (tt {0}) → (now ≤ signed + window) × (signed ≤ now + window)) [
            | true ↦ λ u e. cc
            | false ↦ λ u e. (grind (arith, nat_tests), grind (arith, nat_tests))
          ] refl e
    ] refl e

-- what is known of who asks
record Known (keys : List Entry) (right : Right) (region : Option (List ℕ)) (now : ℕ) (said : Result Signed Refusal) (a : Asker) : Type 0 where
  form : said ≡ Ok a.said
  listed : Contains keys a.key
  named : a.key.access ≡ a.said.claim.scope.key
  here : IfSome region (λ this. a.said.claim.scope.region ≡ this)
  in_time : (now ≤ 1000 * a.said.seconds + window) × (1000 * a.said.seconds ≤ now + window)
  may : has_right a.key.rights right ≡ true

abbrev allowed : (right : Right) → Signed → Entry → Result Asker Refusal
allowed right said key = cond (has_right key.rights right) (Ok (record { said = said; key = key })) (Err AccessDenied)

abbrev timed : (right : Right) → ℕ → Signed → Entry → Result Asker Refusal
timed right now said key = current (1000 * said.seconds) now >>= λ in_time. allowed right said key

abbrev keyed : List Entry → (right : Right) → ℕ → Signed → Result Asker Refusal
keyed keys right now said = needed UnrecognizedClient (key_named said.claim.scope.key keys) >>= timed right now said

abbrev standing : List Entry → (right : Right) → Option (List ℕ) → ℕ → Signed → Result Asker Refusal
standing keys right region now said = placed region said >>= λ here. keyed keys right now said

known : (keys : List Entry) (right : Right) (region : Option (List ℕ)) (now : ℕ) (headers : Entries FieldValue) (a : Asker)
    → asker_in keys right region now headers ≡ Ok a → Known keys right region now (signed_in headers) a
unfolding asker_in
known keys right region now headers a e =
    let s = bind_ok (signed_in headers) (standing keys right region now) a e in
    let p = bind_ok (placed region s.0) (λ here. keyed keys right now s.0) a s.2 in
    let k = bind_ok (needed UnrecognizedClient (key_named s.0.claim.scope.key keys)) (timed right now s.0) a p.2 in
    let t = bind_ok (current (1000 * s.0.seconds) now) (λ in_time. allowed right s.0 k.0) a k.2 in
    let it : Asker = record { said = s.0; key = k.0 } in
    let may = guard_ok (has_right k.0.rights right) AccessDenied it a t.2 in
    let found = named s.0.claim.scope.key keys k.0 (needed_ok UnrecognizedClient (key_named s.0.claim.scope.key keys) k.0 k.1) in
    let here = guard_ok (is_placed region s.0.claim.scope.region) (IncompleteSignature fault.Region) s.0 p.0 p.1 in
    let all : Known keys right region now (signed_in headers) it = record {
      form = s.1;
      listed = found.0;
      named = found.1;
      here = is_here region s.0.claim.scope.region here.0;
      in_time = in_window (1000 * s.0.seconds) now t.1;
      may = may.0;
    } in
    let P : Asker → Type 0 = λ b. Known keys right region now (signed_in headers) b in
    subst P may.1 all

-- whom the signature is of
asked_by : (keys : List Entry) (right : Right) (region : Option (List ℕ)) (now : ℕ) (r : Request) (a : Asker)
    → asker_in keys right region now r.headers ≡ Ok a → checked r a ≡ Ok (tt {0}) → IsAskedBy keys right region now r
asked_by keys right region now r a by_head by_body =
    let who = known keys right region now r.headers a by_head in
    let signature = guard_ok (bytes_eq a.said.claim.signature (signature_of a.key.secret a.said r)) InvalidSignature (tt {0}) (tt {0}) by_body in
    record {
      key = a.key;
      listed = who.listed;
      may = who.may;
      signed = record {
        said = a.said;
        form = who.form;
        named = sym who.named;
        placed = who.here;
        late = who.in_time.0;
        early = who.in_time.1;
        signature = same a.said.claim.signature (signature_of a.key.secret a.said r) signature.0;
      };
    }

-- ## What is judged well, and what has to be

-- whom a signature is of that is judged well
asked : (keys : List Entry) (right : Right) (region : Option (List ℕ)) (now : ℕ) (r : Request)
    → judged keys right region now r ≡ Ok (tt {0}) → IsAskedBy keys right region now r
unfolding judged
asked keys right region now r e =
    let a = bind_ok (asker_in keys right region now r.headers) (checked r) (tt {0}) e in
    asked_by keys right region now r a.0 a.1 a.2

same_text : (a b : List ℕ) → a ≡ b → bytes_eq a b ≡ true
same_text a b e = (bytes_eq-Decides a b).1 e

here_is : (region : Option (List ℕ)) (said : List ℕ) → IfSome region (λ this. said ≡ this) → is_placed region said ≡ true
here_is None said h = refl
here_is (Some this) said h = same_text said this h

in_time : (signed now : ℕ) → now ≤ signed + window → signed ≤ now + window → current signed now ≡ Ok (tt {0})
in_time signed now late early =
    let first : ltb (signed + window) now ≡ false = grind (arith, nat_tests) in
    let second : ltb now (signed - window) ≡ false = grind (arith, nat_tests) in
    ap (λ b. cond b (Err (SignatureExpired signed now)) (cond (ltb now (signed - window)) (Err (SignatureNotYetCurrent signed now)) (Ok (tt {0})))) first
    ∙ ap (λ b. cond b (Err (SignatureNotYetCurrent signed now)) (Ok (tt {0}))) second

-- what a key of the list that has the right signed is judged well
well : (keys : List Entry) (right : Right) (region : Option (List ℕ)) (now : ℕ) (r : Request) (e : Entry)
    → key_named e.access keys ≡ Some e → has_right e.rights right ≡ true → IsSignedBy e.access e.secret region now r
    → judged keys right region now r ≡ Ok (tt {0})
unfolding judged asker_in
well keys right region now r e found may s =
    let said = s.said in
    let this : Asker = record { said = said; key = e } in
    let named = ap (λ name. key_named name keys) s.named ∙ found in
    ap (λ x. (x >>= standing keys right region now) >>= checked r) s.form
    ∙ ap (λ b. (cond b (Ok said) (Err (IncompleteSignature fault.Region)) >>= λ here. keyed keys right now said) >>= checked r) (here_is region said.claim.scope.region s.placed)
    ∙ ap (λ k. (needed UnrecognizedClient k >>= timed right now said) >>= checked r) named
    ∙ ap (λ t. (t >>= λ in_time. allowed right said e) >>= checked r) (in_time (1000 * said.seconds) now s.late s.early)
    ∙ ap (λ b. cond b (Ok this) (Err AccessDenied) >>= checked r) may
    ∙ ap (λ b. cond b (Ok (tt {0})) (Err InvalidSignature)) (same_text said.claim.signature (signature_of e.secret said r) s.signature)

-- ## The same of a call that may lack memory

pub asked_of : (keys : List Entry) (right : Right) (region : Option (List ℕ)) (now : ℕ) (r : Request) (result : Result Unit JudgeError)
    → Says (λ _. tt {0}) (judged keys right region now r) result → OnOk result (IsAskedBy keys right region now r)
asked_of keys right region now r (Ok x) says = asked keys right region now r says
asked_of keys right region now r (Err why) says = tt {0}

pub taken_of : (keys : List Entry) (right : Right) (region : Option (List ℕ)) (now : ℕ) (r : Request) (result : Result Unit JudgeError)
    → Says (λ _. tt {0}) (judged keys right region now r) result
    → (e : Entry) → key_named e.access keys ≡ Some e → has_right e.rights right ≡ true → IsSignedBy e.access e.secret region now r
    → IsOkUnless result OutOfMemory
taken_of keys right region now r (Ok x) says e found may s = tt {0}
taken_of keys right region now r (Err OutOfMemory) says e found may s = refl
taken_of keys right region now r (Err (Refused why)) says e found may s =
    let good = well keys right region now r e found may s in
    cc
