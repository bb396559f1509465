-- Laws: what is sent with a status below 400 is what a reply of the application gives, or what its refusal tells.
use Rattle.std.proofs.Common.{◌≡◌, ℕ, ◌<◌, ◌≤◌, List, [], refl, sym, ap, subst, ◌⊎◌, inl, inr, arith, lit≤, Option, Some, None, Result, Ok, Err}
use Rattle.std.specs.Prelude.{IfSome, codes}
use Rattle.http.specs.declared.request.Parts.{Parts}
use Rattle.http.specs.declared.request.Request.{Request}
use Rattle.http.specs.Request.{head_of, body_of}
use Rattle.http.specs.declared.response.Response.{Response}
use Rattle.http_body_util.specs.declared.full.Full.{Full}
use Rattle.http_header.specs.FieldValue.{plain_value}
use Rattle.http_header.specs.HeaderMap.{insert}
use Rattle.hyper.specs.declared.body.incoming.Incoming.{Incoming}
use Rattle.http_port.specs.declared.forbidden.Forbidden.{Forbidden}
use Rattle.http_port.specs.declared.forbidden.Forbidden.TheVariants.{CrossOrigin, UnknownHost, TransferCoding}
use Rattle.http_port.specs.declared.hosts.Hosts.{Hosts}
use Rattle.http_port.specs.declared.reading.BodyError.{BodyError}
use Rattle.http_port.specs.declared.reading.Reading.{Reading}
use Rattle.http_port.specs.Answering.{Message, message, message_of, status_alone, IsSent}
use Rattle.http_port.specs.Browsers.{forbidden_of, forbidden_text, forbidden_status, IsForbidden}
use Rattle.http_port.specs.Reading.{Reads}
use Rattle.http_port.specs.Serving.{Answers, AnswersFor, IsAsked, ComesTo, Sends, IsAnswered, SendsReply, SendsRefusal}

-- ## Refusals by the port

pub other_status : {A : Type 0} (told other : Message) → told ≡ other → 400 ≤ other.status → told.status < 400 → A
other_status told other is much status = absurd (omega (arith, much, ap (λ (m : Message). m.status) is, status))

refuses_by_its_head : (why : Forbidden) → 400 ≤ forbidden_status why
refuses_by_its_head CrossOrigin = lit≤ tt
refuses_by_its_head UnknownHost = lit≤ tt
refuses_by_its_head TransferCoding = lit≤ tt

forbids_otherwise : {A : Type 0} (why : Forbidden) (told : Message) → IsForbidden why told → told.status < 400 → A
forbids_otherwise why told (inl is) status =
    other_status told (message (forbidden_status why) (insert [] (codes "content-type") (plain_value (codes "application/json"))) (forbidden_text why)) is
    (refuses_by_its_head why) status
forbids_otherwise why told (inr is) status =
    other_status told (message (forbidden_status why) [] (forbidden_text why)) is (refuses_by_its_head why) status

-- ## What a request is answered

ok_err : {T E : Type 0} {P : Type 0} (x : T) (e : E) → Ok x ≡ Err e → P
ok_err x e h = absurd (cc)

err_is : {T E : Type 0} (r : Result T E) (a b : E) → r ≡ Err a → r ≡ Err b → a ≡ b
err_is r a b is h = cc

module _ {A F : Type 0} (answers : A → Parts → Result (List ℕ) BodyError → Result F Message → Type 0) (application : A) (head : Parts)
    (reads : Result (List ℕ) BodyError → Type 0) where
  -- the application answered so what was read
  record IsAnswer (answered : Result F Message) : Type 0 where
    pub read : Result (List ℕ) BodyError
    pub reads_it : reads read
    pub answer : answers application head read answered

  reply_asked : (asked : Option A) (read : Result (List ℕ) BodyError) (reply : F) → IfSome asked (λ a. a ≡ application) → reads read
      → IsAsked answers asked head read (Ok reply) → IsAnswer (Ok reply)
  reply_asked None read reply is has h = ok_err reply (status_alone 503) h
  reply_asked (Some a) read reply is has h = record { read = read; reads_it = has; answer = subst (λ (it : A). answers it head read (Ok reply)) is h }

  -- a reply is the application's
  of_reply : (forbidden : Option Forbidden) (asked : Option A) (reply : F) → IfSome asked (λ a. a ≡ application)
      → Answers answers forbidden None asked head reads (Ok reply) → IsAnswer (Ok reply)
  of_reply (Some why) asked reply is h = ok_err reply h.0 h.1
  of_reply None asked reply is (inl late) = ok_err reply (status_alone 408) late
  of_reply None asked reply is (inr h) = reply_asked asked h.0 reply is h.1 h.2

  refusal_asked : (asked : Option A) (read : Result (List ℕ) BodyError) (told : Message) → IfSome asked (λ a. a ≡ application) → reads read
      → IsAsked answers asked head read (Err told) → told.status < 400 → IsAnswer (Err told)
  refusal_asked None read told is has h status = other_status told (status_alone 503) (err_is (Err told) told (status_alone 503) refl h) (lit≤ tt) status
  refusal_asked (Some a) read told is has h status = record { read = read; reads_it = has; answer = subst (λ (it : A). answers it head read (Err told)) is h }

  -- and so is a refusal with such a status
  of_refusal : (forbidden : Option Forbidden) (asked : Option A) (told : Message) → IfSome asked (λ a. a ≡ application)
      → Answers answers forbidden None asked head reads (Err told) → told.status < 400 → IsAnswer (Err told)
  of_refusal (Some why) asked told is h status = forbids_otherwise why told (subst (IsForbidden why) (sym (err_is (Err told) told h.0 refl h.1)) h.2) status
  of_refusal None asked told is (inl late) status = other_status told (status_alone 408) (err_is (Err told) told (status_alone 408) refl late) (lit≤ tt) status
  of_refusal None asked told is (inr h) status = refusal_asked asked h.0 told is h.1 h.2 status

-- ## What is sent

pub sent_status : (told sent : Message) → IsSent told sent → told.status ≡ sent.status
sent_status told sent (inl is) = sym (ap (λ (m : Message). m.status) is)
sent_status told sent (inr is) = sym (ap (λ (m : Message). m.status) is)

pub sent_body : (told sent : Message) → IsSent told sent → told.body ≡ sent.body
sent_body told sent (inl is) = sym (ap (λ (m : Message). m.body) is)
sent_body told sent (inr is) = sym (ap (λ (m : Message). m.body) is)

module _ {A F T I : Type 0} (answers : A → Parts → Result (List ℕ) BodyError → Result F Message → Type 0) (gives : F → T → Type 0) (tells : T → Message → Type 0)
    (hosts : Hosts) (application : A) (request : Request (Incoming I)) where
  read_of : (answered : Result F Message) (reading : Reading I) → reading.body.inner ≡ body_of request → reading.bytes.items ≡ []
      → IsAnswer answers application (head_of request) (Reads reading) answered → IsAnswered answers application request answered
  read_of answered reading inner empty it = record { read = it.read; of_body = (reading, inner, empty, it.reads_it); answer = it.answer }

  abbrev May : Result F Message → Type 0
  May = AnswersFor answers hosts application request

  module _ (told sent : Message) (is_sent : IsSent told sent) (below : sent.status < 400) where
    below_too : told.status < 400
    below_too = omega (arith, sent_status told sent is_sent, below)

    of_answer : (reply : F) → May (Ok reply) → ComesTo gives tells (Ok reply) told → SendsReply answers gives tells application request sent
    of_answer reply may (it, given, inl is) = record {
      reply = reply;
      answered = read_of (Ok reply) may.2 may.3 may.4
          (of_reply answers application (head_of request) (Reads may.2) (forbidden_of hosts (head_of request).headers) may.0 reply may.1 may.5);
      telling = it;
      given = given;
      told = told;
      told_is = is;
      is_sent = is_sent;
    }
    of_answer reply may (it, given, inr is) = other_status told (status_alone 503) is (lit≤ tt) below_too

    of_refused : (refusal : Message) → May (Err refusal) → told ≡ refusal → SendsRefusal answers application request sent
    of_refused refusal may is =
        let same : refusal.status ≡ told.status = sym (ap (λ (m : Message). m.status) is) in
        let low : refusal.status < 400 = omega (arith, same, below_too) in
        record {
          told = refusal;
          answered = read_of (Err refusal) may.2 may.3 may.4
              (of_refusal answers application (head_of request) (Reads may.2) (forbidden_of hosts (head_of request).headers) may.0 refusal may.1 may.5 low);
          is_sent = subst (λ (m : Message). IsSent m sent) is is_sent;
        }

    came_to : (answered : Result F Message) → May answered → ComesTo gives tells answered told
        → SendsReply answers gives tells application request sent ⊎ SendsRefusal answers application request sent
    came_to (Ok reply) may comes = inl (of_answer reply may comes)
    came_to (Err refusal) may comes = inr (of_refused refusal may comes)

  pub sent_is : (response : Response (Full (List ℕ))) → Sends gives tells (AnswersFor answers hosts application request) response → (message_of response).status < 400
      → SendsReply answers gives tells application request (message_of response) ⊎ SendsRefusal answers application request (message_of response)
  sent_is response sends below = came_to sends.2 (message_of response) sends.4 below sends.0 sends.1 sends.3
