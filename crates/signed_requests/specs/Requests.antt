-- The requests that the code is given, as those of the definitions.
use Rattle.signed_requests.specs.Canonical as canonical
use Rattle.signed_requests.specs.declared.canonical.Request.{Request}

abbrev pub request_of : Request → canonical.Request
request_of r = record { method = r.method.now; target = r.target.now; headers = r.headers.now; body = r.body.now }
