-- No refusal of a request has a status below 400, and what tells a reply has its status and its body.
use Rattle.std.proofs.Common.{◌≡◌, ℕ, ◌<◌, List, [], ◌∷◌, ◌++◌, Bool, true, false, refl, ap, ◌∙◌, inl, inr, arith, lit≤, Option, Some, None, Result}
use Rattle.std.specs.Prelude.{if◌then◌else◌}
use Rattle.http.specs.declared.request.Parts.{Parts}
use Rattle.http_port.specs.declared.reading.BodyError.{BodyError}
use Rattle.http_port.specs.Answering.{Message, status_alone}
use Rattle.http_port.specs.laws.Sent.{other_status}
use Rattle.retry_rules.specs.declared.settings.Settings.{Settings}
use Rattle.api_core.specs.declared.dialect.Audience.{Audience}
use Rattle.api_core.specs.declared.dialect.Dialect.{Dialect}
use Rattle.api_core.specs.declared.refusal.Refusal.{Refusal}
use Rattle.api_core.specs.declared.reply.Reply.{Reply}
use Rattle.api_core.specs.Replies.{refusing, request_id, has_header}
use Rattle.http_front.specs.Calls.{RefusesRequest, audience_at}
use Rattle.http_front.specs.Telling.{IsWithId, TellsReply, TellsRefusal}
use Rattle.http_front.proofs.Refusing.{refuses, status_of}

-- ## What tells a reply

either_status : (b : Bool) (reply other : Reply) → other.status ≡ reply.status → (if b then reply else other).status ≡ reply.status
either_status true reply other is = refl
either_status false reply other is = is

either_body : (b : Bool) (reply other : Reply) → other.body ≡ reply.body → (if b then reply else other).body ≡ reply.body
either_body true reply other is = refl
either_body false reply other is = is

abbrev longer : List ℕ → Reply → Reply
longer id reply = record { status = reply.status; headers = reply.headers ++ request_id id ∷ []; body = reply.body }

status_with : (id : Option (List ℕ)) (reply whole : Reply) → IsWithId id reply whole → whole.status ≡ reply.status
status_with None reply whole is = ap (λ (r : Reply). r.status) is
status_with (Some id) reply whole (inr is) = ap (λ (r : Reply). r.status) is
status_with (Some id) reply whole (inl is) =
    ap (λ (r : Reply). r.status) is ∙ either_status (has_header "X-Amzn-RequestId" reply.headers) reply (longer id reply) refl

body_with : (id : Option (List ℕ)) (reply whole : Reply) → IsWithId id reply whole → whole.body ≡ reply.body
body_with None reply whole is = ap (λ (r : Reply). r.body) is
body_with (Some id) reply whole (inr is) = ap (λ (r : Reply). r.body) is
body_with (Some id) reply whole (inl is) =
    ap (λ (r : Reply). r.body) is ∙ either_body (has_header "X-Amzn-RequestId" reply.headers) reply (longer id reply) refl

pub status_told : (id : Option (List ℕ)) (reply : Reply) (told : Message) → TellsReply id reply told → told.status ≡ reply.status
status_told id reply told is = ap (λ (m : Message). m.status) is.2 ∙ status_with id reply is.0 is.1

pub body_told : (id : Option (List ℕ)) (reply : Reply) (told : Message) → TellsReply id reply told → told.body ≡ reply.body
body_told id reply told is = ap (λ (m : Message). m.body) is.2 ∙ body_with id reply is.0 is.1

-- ## What tells a refusal

refused_above : {A : Type 0} (d : Dialect) (s : Settings) (who : Audience) (why : Refusal) (told : Message) → TellsRefusal d s who why told → told.status < 400 → A
refused_above d s who why told (inl is) below = other_status told (status_alone 503) is (lit≤ tt) below
refused_above d s who why told (inr (id, tells)) below =
    absurd (omega (arith, refuses why, status_told id (refusing d s who why) told tells, status_of d s who why, below))

pub refuses_above : {A : Type 0} (d : Dialect) (s : Settings) (port : ℕ) (head : Parts) (read : Result (List ℕ) BodyError) (told : Message)
    → RefusesRequest d s port head read told → told.status < 400 → A
refuses_above d s port head read told (inl cut) below = other_status told (status_alone 400) cut.1 (lit≤ tt) below
refuses_above d s port head read told (inr why) below = refused_above d s (audience_at port) why.0 told why.2 below
