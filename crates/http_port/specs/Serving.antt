-- What a request is answered, and what is sent for it.
use Rattle.std.specs.Prelude.{◌≡◌, ◌⊎◌, ℕ, List, [], Option, Some, None, Result, Ok, Err, IfSome}
use Rattle.http.specs.declared.request.Parts.{Parts}
use Rattle.http.specs.declared.request.Request.{Request}
use Rattle.http.specs.Request.{head_of, body_of}
use Rattle.http.specs.declared.response.Response.{Response}
use Rattle.http_body_util.specs.declared.full.Full.{Full}
use Rattle.hyper.specs.declared.body.incoming.Incoming.{Incoming}
use Rattle.http_port.specs.declared.forbidden.Forbidden.{Forbidden}
use Rattle.http_port.specs.declared.hosts.Hosts.{Hosts}
use Rattle.http_port.specs.declared.reading.BodyError.{BodyError}
use Rattle.http_port.specs.declared.reading.Reading.{Reading}
use Rattle.http_port.specs.Answering.{Message, message_of, status_alone, IsTold, IsSent}
use Rattle.http_port.specs.Browsers.{forbidden_of, IsForbidden}
use Rattle.http_port.specs.Reading.{Reads}

-- ## What a request is answered: a reply, which may be waited for, or what its refusal tells

module _ {A F : Type 0} (answers : A → Parts → Result (List ℕ) BodyError → Result F Message → Type 0) where
  -- the application answers this head and this body; 503 where there was no memory to have it asked
  abbrev pub IsAsked : Option A → Parts → Result (List ℕ) BodyError → Result F Message → Type 0
  IsAsked None head body answered = answered ≡ Err (status_alone 503)
  IsAsked (Some application) head body answered = answers application head body answered

  -- the application is asked with a body that the request has, or that has not come in time
  abbrev pub AnswersRead : Option A → Parts → (Result (List ℕ) BodyError → Type 0) → Result F Message → Type 0
  AnswersRead application head reads answered =
      (answered ≡ Err (status_alone 408)) ⊎ ((body : Result (List ℕ) BodyError) × reads body × IsAsked application head body answered)

  -- the reply that waits, where one does
  abbrev pub AnswersBy : Option F → Option A → Parts → (Result (List ℕ) BodyError → Type 0) → Result F Message → Type 0
  AnswersBy (Some reply) application head reads answered = answered ≡ Ok reply
  AnswersBy None application head reads answered = AnswersRead application head reads answered

  -- what a request is answered; by its head alone, where that is forbidden
  abbrev pub Answers : Option Forbidden → Option F → Option A → Parts → (Result (List ℕ) BodyError → Type 0) → Result F Message → Type 0
  Answers (Some why) reply application head reads answered = (told : Message) × (answered ≡ Err told) × IsForbidden why told
  Answers None reply application head reads answered = AnswersBy reply application head reads answered

  -- what a request is answered: by its own head, its own body, of which nothing was read before, and this application
  abbrev pub AnswersFor : {I : Type 0} → Hosts → A → Request (Incoming I) → Result F Message → Type 0
  AnswersFor {I} hosts application req answered =
      (asked : Option A) × IfSome asked (λ a. a ≡ application)
      × (reading : Reading I) × (reading.body.inner ≡ body_of req) × (reading.bytes.items ≡ [])
      × Answers (forbidden_of hosts (head_of req).headers) None asked (head_of req) (Reads reading) answered

-- this is what the request's own body came to, of which nothing was read before
abbrev pub IsReadOf : {I : Type 0} → Request (Incoming I) → Result (List ℕ) BodyError → Type 0
IsReadOf {I = I} req body =
    (reading : Reading I) × (reading.body.inner ≡ body_of req) × (reading.bytes.items ≡ []) × Reads reading body

-- ## What is sent for an answer

module _ {F T : Type 0} (gives : F → T → Type 0) (tells : T → Message → Type 0) where
  -- what a reply gives, as it is told; or what the refusal tells
  abbrev pub ComesTo : Result F Message → Message → Type 0
  ComesTo (Ok reply) told = (it : T) × gives reply it × IsTold tells it told
  ComesTo (Err refusal) told = told ≡ refusal

  -- one of these answers is sent, all that it tells
  abbrev pub Sends : (Result F Message → Type 0) → Response (Full (List ℕ)) → Type 0
  Sends may response = (answered : Result F Message) × may answered
      × (told : Message) × ComesTo answered told × IsSent told (message_of response)

-- ## What is sent, and of which answer

module _ {A F I : Type 0} (answers : A → Parts → Result (List ℕ) BodyError → Result F Message → Type 0) (application : A) (req : Request (Incoming I)) where
  -- the application answers the request so, by its head and what was read of its body
  pub record IsAnswered (answered : Result F Message) : Type 0 where
    pub read : Result (List ℕ) BodyError
    pub of_body : IsReadOf req read
    pub answer : answers application (head_of req) read answered

  -- the application refused the request so, and that is sent
  pub record SendsRefusal (sent : Message) : Type 0 where
    pub told : Message
    pub answered : IsAnswered (Err told)
    pub is_sent : IsSent told sent

-- a reply of the application to the request gave what is told, and that is sent
pub record SendsReply {A F T I : Type 0} (answers : A → Parts → Result (List ℕ) BodyError → Result F Message → Type 0) (gives : F → T → Type 0)
    (tells : T → Message → Type 0) (application : A) (req : Request (Incoming I)) (sent : Message) : Type 0 where
  pub reply : F
  pub answered : IsAnswered answers application req (Ok reply)
  pub telling : T
  pub given : gives reply telling
  pub told : Message
  pub told_is : tells telling told
  pub is_sent : IsSent told sent
