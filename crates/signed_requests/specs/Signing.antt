-- A signature, as AWS's General Reference derives it: "Create a string to sign", "Calculate the signature".
use Rattle.std.specs.Prelude.{◌≡◌, ℕ, ◌+◌, ◌*◌, ◌≤◌, List, ◌++◌, codes, Option, IfSome, Ok}
use Rattle.sha2.specs.Sha256.{sha256}
use Rattle.signed_requests.specs.Hmac.{hmac_sha256}
use Rattle.signed_requests.specs.Encoding.{hex}
use Rattle.signed_requests.specs.Canonical.{Request, canonical_request}
use Rattle.signed_requests.specs.Authorization.{Scope, Signed, signed_in}

-- kSigning, by way of kDate, kRegion and kService
unfoldable pub signing_key : (secret day region : List ℕ) → List ℕ
signing_key secret day region =
    hmac_sha256 (hmac_sha256 (hmac_sha256 (hmac_sha256 (codes "AWS4" ++ secret) day) region) (codes "lambda")) (codes "aws4_request")

-- StringToSign, of a canonical request: the algorithm, the moment, the credential's scope and the request's digest
unfoldable pub string_to_sign : (stamp : List ℕ) → Scope → (request : List ℕ) → List ℕ
string_to_sign stamp scope request =
    codes "AWS4-HMAC-SHA256\n" ++ stamp ++ codes "\n"
    ++ scope.day ++ codes "/" ++ scope.region ++ codes "/lambda/aws4_request" ++ codes "\n" ++ hex (sha256 request)

-- Signature, under a signing key
unfoldable pub signature_under : (key : List ℕ) → Signed → Request → List ℕ
signature_under key s r = hex (hmac_sha256 key (string_to_sign s.stamp s.claim.scope (canonical_request r s.claim.names)))

abbrev pub signature_of : (secret : List ℕ) → Signed → Request → List ℕ
signature_of secret s r = signature_under (signing_key secret s.claim.scope.day s.claim.scope.region) s r

-- how far the moment of a signature may lie from that of the judgement, in milliseconds
abbrev pub window : ℕ
window = 300000

-- A request is signed by a key at a moment, in milliseconds since 1970: its head says so, and the signature is that
-- of the request under the key's secret. The region is any, or this one.
pub record IsSignedBy (key secret : List ℕ) (region : Option (List ℕ)) (at : ℕ) (r : Request) : Type 0 where
  pub said : Signed
  pub form : signed_in r.headers ≡ Ok said
  pub named : said.claim.scope.key ≡ key
  pub placed : IfSome region (λ this. said.claim.scope.region ≡ this)
  pub late : at ≤ 1000 * said.seconds + window
  pub early : 1000 * said.seconds ≤ at + window
  pub signature : said.claim.signature ≡ signature_of secret said r
