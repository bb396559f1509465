-- The claims that the code reads, as those of the definitions.
use Rattle.signed_requests.specs.Authorization as head
use Rattle.signed_requests.specs.declared.claim.Scope.{Scope}
use Rattle.signed_requests.specs.declared.claim.Claim.{Claim}
use Rattle.signed_requests.specs.declared.claim.Signed.{Signed}

abbrev pub scope_of : Scope → head.Scope
scope_of s = record { key = s.key.now; day = s.day.now; region = s.region.now }

abbrev pub claim_of : Claim → head.Claim
claim_of c = record { scope = scope_of c.scope; names = c.names.now; signature = c.signature.now }

abbrev pub signed_of : Signed → head.Signed
signed_of s = record { claim = claim_of s.claim; stamp = s.stamp.now; seconds = s.seconds }
