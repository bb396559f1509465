-- What a head says of who signed it: the headers `Authorization` and `X-Amz-Date`, as AWS's General Reference has them.
use Rattle.std.specs.Prelude.{ℕ, ◌==◌, ◌&&◌, nat_lt, nat_le, nat_eq, Bool, true, not, Option, Some, None, Result, Ok, Err, if◌then◌else◌, List, [], ◌∷◌, length, take, drop, reverse, codes, bytes_eq}
use Rattle.std.specs.List.{slice_split, before_first, after_first, starts_with, list_all, list_any}
use Rattle.std.specs.Str.{byte}
use Rattle.std.specs.Ordering.{nat_cmp, is_lt}
use Rattle.std.specs.Cmp.Lexicographic.{slice_cmp}
use Rattle.http_header.specs.HeaderMap.{Entries}
use Rattle.http_header.specs.FieldValue.{FieldValue}
use Rattle.signed_requests.specs.declared.refusal.Fault.{Fault}
use Rattle.signed_requests.specs.declared.refusal.Fault.TheVariants as fault
use Rattle.signed_requests.specs.declared.refusal.Refusal.{Refusal}
use Rattle.signed_requests.specs.declared.refusal.Refusal.TheVariants.{MissingAuthenticationToken, IncompleteSignature}
use Rattle.signed_requests.specs.Canonical.{skip_spaces, values_of}
use Rattle.signed_requests.specs.Stamp.{seconds_of}

infixl 10 ◌>>=◌
abbrev pub ◌>>=◌ : {A B : Type 0} → Result A Refusal → (A → Result B Refusal) → Result B Refusal
(Ok x) >>= f = f x
(Err e) >>= f = Err e

-- a value that has to be there
abbrev pub needed : {A : Type 0} → Refusal → Option A → Result A Refusal
needed why None = Err why
needed why (Some x) = Ok x

-- ## The parts of `Authorization`, between commas with any spaces around them

abbrev pub without_spaces : List ℕ → List ℕ
without_spaces text = reverse (skip_spaces (reverse (skip_spaces text)))

-- what stands behind a name, where the bytes begin with it
abbrev pub behind : List ℕ → List ℕ → Option (List ℕ)
behind name text = if starts_with nat_eq text name then Some (drop (length name) text) else None

-- the first part that begins with a name
abbrev pub part_under : List ℕ → List (List ℕ) → Option (List ℕ)
part_under name [] = None
part_under name (part ∷ parts) =
    if starts_with nat_eq (without_spaces part) name then Some (drop (length name) (without_spaces part)) else part_under name parts

unfoldable pub part_of : List ℕ → Fault → List (List ℕ) → Result (List ℕ) Refusal
part_of name why parts = needed (IncompleteSignature why) (part_under name parts)

unfoldable pub algorithm_off : List ℕ → Result (List ℕ) Refusal
algorithm_off text = needed (IncompleteSignature fault.Algorithm) (behind (codes "AWS4-HMAC-SHA256 ") text)

unfoldable pub three_parts : List ℕ → Result (List (List ℕ)) Refusal
three_parts text =
    if length (slice_split (λ b. b == byte ",") text) == 3 then Ok (slice_split (λ b. b == byte ",") text)
    else Err (IncompleteSignature fault.Parts)

-- the credential: the access key, and the scope `DAY/REGION/lambda/aws4_request`
pub record Scope : Type 0 where
  pub key : List ℕ
  pub day : List ℕ
  pub region : List ℕ

abbrev pub up_to_slash : List ℕ → List ℕ
up_to_slash text = before_first (λ b. b == byte "/") text

abbrev pub behind_slash : List ℕ → List ℕ
behind_slash text = after_first (λ b. b == byte "/") text

unfoldable pub scope_in : List ℕ → Result Scope Refusal
scope_in text =
    if bytes_eq (behind_slash (behind_slash (behind_slash text))) (codes "lambda/aws4_request")
    then Ok (record {
      key = up_to_slash text;
      day = up_to_slash (behind_slash text);
      region = up_to_slash (behind_slash (behind_slash text));
    })
    else Err (IncompleteSignature fault.Credential)

-- what is claimed: who signed, when and where, which headers, and the signature
pub record Claim : Type 0 where
  pub scope : Scope
  pub names : List ℕ
  pub signature : List ℕ

unfoldable pub scope_among : List (List ℕ) → Result Scope Refusal
scope_among parts = do
  credential ← part_of (codes "Credential=") fault.Credential parts
  scope_in credential

unfoldable pub claim_among : List (List ℕ) → Scope → Result Claim Refusal
claim_among parts scope = do
  names ← part_of (codes "SignedHeaders=") fault.SignedHeaders parts
  signature ← part_of (codes "Signature=") fault.Signature parts
  Ok (record { scope = scope; names = names; signature = signature })

unfoldable pub claim_of_parts : List (List ℕ) → Result Claim Refusal
claim_of_parts parts = do
  scope ← scope_among parts
  claim_among parts scope

-- `AWS4-HMAC-SHA256 Credential=.., SignedHeaders=.., Signature=..`, the three in any order
unfoldable pub claim_in : List ℕ → Result Claim Refusal
claim_in text = do
  rest ← algorithm_off text
  parts ← three_parts rest
  claim_of_parts parts

-- the value of a header that stands once
abbrev pub only : List (List ℕ) → Option (List ℕ)
only [] = None
only (value ∷ []) = Some value
only (value ∷ other ∷ others) = None

-- ## The signed headers: sorted, no name twice, in lower case, with `host` and `x-amz-date`, and each one there

abbrev pub is_lower : ℕ → Bool
is_lower b = not (nat_le 65 b && nat_le b 90)

abbrev pub is_there : Entries FieldValue → List ℕ → Bool
is_there headers name = nat_lt 0 (length (values_of headers name))

abbrev pub comes_before : List ℕ → List (List ℕ) → Bool
comes_before name [] = true
comes_before name (next ∷ names) = is_lt (slice_cmp nat_cmp name next)

abbrev pub are_signed : Entries FieldValue → List (List ℕ) → Bool
are_signed headers [] = true
are_signed headers (name ∷ names) =
    list_all is_lower name && is_there headers name && comes_before name names && are_signed headers names

abbrev pub has_name : List ℕ → List (List ℕ) → Bool
has_name name names = list_any (bytes_eq name) names

abbrev pub are_good_names : Entries FieldValue → List (List ℕ) → Bool
are_good_names headers names = are_signed headers names && has_name (codes "host") names && has_name (codes "x-amz-date") names

-- ## The moment, whose day is that of the credential

pub record Signed : Type 0 where
  pub claim : Claim
  pub stamp : List ℕ
  pub seconds : ℕ

unfoldable pub stamped : Entries FieldValue → Claim → Result Signed Refusal
stamped headers claim = do
  stamp ← needed (IncompleteSignature fault.Date) (only (values_of headers (codes "x-amz-date")))
  seconds ← needed (IncompleteSignature fault.Date) (seconds_of stamp)
  if bytes_eq (take 8 stamp) claim.scope.day then Ok (record { claim = claim; stamp = stamp; seconds = seconds }) else Err (IncompleteSignature fault.Credential)

unfoldable pub names_checked : Entries FieldValue → Claim → Result Claim Refusal
names_checked headers claim =
    if are_good_names headers (slice_split (λ b. b == byte ";") claim.names) then Ok claim else Err (IncompleteSignature fault.SignedHeaders)

unfoldable pub the_authorization : Entries FieldValue → Result (List ℕ) Refusal
the_authorization headers = needed MissingAuthenticationToken (only (values_of headers (codes "authorization")))

-- what a head says, where all of it has the form
unfoldable pub signed_in : Entries FieldValue → Result Signed Refusal
signed_in headers = do
  text ← the_authorization headers
  claim ← claim_in text
  good ← names_checked headers claim
  stamped headers good
