-- How a request is judged: the first check that refuses it, in the order of these lines, or whose it is.
use Rattle.std.specs.Prelude.{◌≡◌, ℕ, ◌+◌, ◌-◌, ◌*◌, nat_lt, Bool, true, Contains, Option, Some, None, Result, Ok, Err, if◌then◌else◌, List, bytes_eq}
use Rattle.http_header.specs.HeaderMap.{Entries}
use Rattle.http_header.specs.FieldValue.{FieldValue}
use Rattle.signed_requests.specs.declared.keys.Right.{Right}
use Rattle.signed_requests.specs.declared.refusal.Fault.TheVariants as fault
use Rattle.signed_requests.specs.declared.refusal.Refusal.{Refusal}
use Rattle.signed_requests.specs.declared.refusal.Refusal.TheVariants.{IncompleteSignature, UnrecognizedClient, SignatureExpired, SignatureNotYetCurrent, AccessDenied, InvalidSignature}
use Rattle.signed_requests.specs.Rights.{has_right}
use Rattle.signed_requests.specs.Keys.{Entry, key_named}
use Rattle.signed_requests.specs.Canonical.{Request}
use Rattle.signed_requests.specs.Authorization.{◌>>=◌, needed, Signed, signed_in}
use Rattle.signed_requests.specs.Signing.{window, signature_of, IsSignedBy}

-- the credential is of this region, where one is given
abbrev pub is_placed : Option (List ℕ) → List ℕ → Bool
is_placed None region = true
is_placed (Some this) region = bytes_eq region this

abbrev pub placed : Option (List ℕ) → Signed → Result Signed Refusal
placed region s = if is_placed region s.claim.scope.region then Ok s else Err (IncompleteSignature fault.Region)

-- a moment, in milliseconds, lies within the window around another
abbrev pub current : (signed now : ℕ) → Result Unit Refusal
current signed now =
    if nat_lt (signed + window) now then Err (SignatureExpired signed now)
    else if nat_lt now (signed - window) then Err (SignatureNotYetCurrent signed now)
    else Ok tt

-- who asks, by the head alone
pub record Asker : Type 0 where
  pub said : Signed
  pub key : Entry

unfoldable pub asker_in : List Entry → Right → Option (List ℕ) → ℕ → Entries FieldValue → Result Asker Refusal
asker_in keys right region now headers = do
  said ← signed_in headers
  here ← placed region said
  key ← needed UnrecognizedClient (key_named said.claim.scope.key keys)
  in_time ← current (1000 * said.seconds) now
  if has_right key.rights right then Ok (record { said = said; key = key }) else Err AccessDenied

-- the same, where only that there is one is asked
unfoldable pub head_judged : List Entry → Right → Option (List ℕ) → ℕ → Entries FieldValue → Result Unit Refusal
head_judged keys right region now headers = asker_in keys right region now headers >>= λ asker. Ok tt

-- the signature is that of the request
abbrev pub checked : Request → Asker → Result Unit Refusal
checked r asker = if bytes_eq asker.said.claim.signature (signature_of asker.key.secret asker.said r) then Ok tt else Err InvalidSignature

unfoldable pub judged : List Entry → Right → Option (List ℕ) → ℕ → Request → Result Unit Refusal
judged keys right region now r = asker_in keys right region now r.headers >>= checked r

-- a key of the list that has the right signed the request
pub record IsAskedBy (keys : List Entry) (right : Right) (region : Option (List ℕ)) (now : ℕ) (r : Request) : Type 0 where
  pub key : Entry
  pub listed : Contains keys key
  pub may : has_right key.rights right ≡ true
  pub signed : IsSignedBy key.access key.secret region now r
