-- What is sent for a request, from poll to poll.
use Rattle.std.proofs.Common.{◌≡◌, ℕ, List, Option, Some, None, Result, Ok, Err, IfOk, IfSome, IsSomeAnd, option_map, [], refl, ap, subst, inl, inr}
use Rattle.std.specs.Result.{result_ok}
use Rattle.futures.specs.declared.task.Poll.{Poll}
use Rattle.futures.specs.declared.task.Poll.TheVariants.{Ready, Pending}
use Rattle.futures.specs.Poll.{IfReady, OnPending}
use Rattle.http.specs.declared.request.Parts.{Parts}
use Rattle.http.specs.declared.request.Request.{Request}
use Rattle.http.specs.Request.{head_of, body_of}
use Rattle.http.specs.declared.response.Response.{Response}
use Rattle.http_body_util.specs.declared.full.Full.{Full}
use Rattle.hyper.specs.declared.body.incoming.Incoming.{Incoming}
use Rattle.http_port.specs.declared.forbidden.Forbidden.{Forbidden}
use Rattle.http_port.specs.declared.hosts.Hosts.{Hosts}
use Rattle.http_port.specs.declared.reading.BodyError.{BodyError}
use Rattle.http_port.specs.declared.reading.Reading.{Reading}
use Rattle.http_port.specs.Answering.{Message}
use Rattle.http_port.specs.Browsers.{forbidden_of, IsForbidden}
use Rattle.http_port.specs.Reading.{Reads}
use Rattle.http_port.specs.Serving.{AnswersRead, Answers, AnswersFor, ComesTo, Sends}

pub on_pending : {A : Type 0} (polled : Poll A) (P Q : Type 0) → (P → Q) → OnPending polled P → OnPending polled Q
on_pending (Ready a) P Q step p = tt
on_pending Pending P Q step p = step p

-- what is there, and what holds of it
pub there : {A : Type 0} (o : Option A) (P : A → Type 0) → IsSomeAnd o P → (a : A) × (o ≡ Some a) × P a
there (Some a) P holds = (a, refl, holds)
there None P holds = absurd holds

-- nothing holds of what is not there
pub not_there : {A : Type 0} (o : Option A) (P : A → Type 0) (B : Type 0) → o ≡ None → IsSomeAnd o P → B
not_there (Some a) P B is holds = absurd cc
not_there None P B is holds = absurd holds

pub if_ready : {A : Type 0} (polled : Poll A) (P Q : A → Type 0) → ((a : A) → P a → Q a) → IfReady polled P → IfReady polled Q
if_ready (Ready a) P Q step p = step a p
if_ready Pending P Q step p = tt

pub first_of : {A B : Type 0} (pair : A × B) (a : A) (b : B) → pair ≡ (a, b) → pair.0 ≡ a
first_of {A} {B} pair a b is = ap (λ (p : A × B). p.0) is

pub second_of : {A B : Type 0} (pair : A × B) (a : A) (b : B) → pair ≡ (a, b) → pair.1 ≡ b
second_of {A} {B} pair a b is = ap (λ (p : A × B). p.1) is

-- a copy that was had is of the same
pub copy_is : {C A E : Type 0} (value : C → A) (copied : Result C E) (had : Option C) (a : A) → had ≡ result_ok copied → IfOk copied (λ c. value c ≡ a)
    → IfSome (option_map value had) (λ v. v ≡ a)
copy_is value (Ok c) had a is copy = rw is copy
copy_is value (Err e) had a is copy = rw is tt

module _ {A F : Type 0} (answers : A → Parts → Result (List ℕ) BodyError → Result F Message → Type 0) where
  pub answers_forbidden : (forbidden : Option Forbidden) (reply : Option F) (application : Option A) (head : Parts)
      (reads : Result (List ℕ) BodyError → Type 0) (why : Forbidden) (told : Message) → forbidden ≡ Some why → IsForbidden why told
      → Answers answers forbidden reply application head reads (Err told)
  answers_forbidden forbidden reply application head reads why told is tells = rw is (told, refl, tells)

  pub answers_waiting : (forbidden : Option Forbidden) (reply : Option F) (application : Option A) (head : Parts)
      (reads : Result (List ℕ) BodyError → Type 0) (waiting : F) → forbidden ≡ None → reply ≡ Some waiting
      → Answers answers forbidden reply application head reads (Ok waiting)
  answers_waiting forbidden reply application head reads waiting free is = rw (free, is) refl

  -- a request that is not forbidden, and of which no reply waits, is answered as it is read
  pub answers_read : (forbidden : Option Forbidden) (reply : Option F) (application : Option A) (head : Parts)
      (reads : Result (List ℕ) BodyError → Type 0) (answered : Result F Message) → forbidden ≡ None → reply ≡ None
      → AnswersRead answers application head reads answered → Answers answers forbidden reply application head reads answered
  answers_read forbidden reply application head reads answered free unread is = rw (free, unread) is

  -- and the other way round
  pub read_by : (forbidden : Option Forbidden) (reply : Option F) (application : Option A) (head : Parts)
      (reads : Result (List ℕ) BodyError → Type 0) (answered : Result F Message) → forbidden ≡ None → reply ≡ None
      → Answers answers forbidden reply application head reads answered → AnswersRead answers application head reads answered
  read_by forbidden reply application head reads answered free unread is = rw (free, unread) at is

  -- where what is left of its body comes to what the whole does, so do its answers
  pub reads_later : (application : Option A) (head : Parts) (old new : Result (List ℕ) BodyError → Type 0) (answered : Result F Message)
      → ((body : Result (List ℕ) BodyError) → new body → old body)
      → AnswersRead answers application head new answered → AnswersRead answers application head old answered
  reads_later application head old new answered back (inl late) = inl late
  reads_later application head old new answered back (inr asked) = inr (asked.0, back asked.0 asked.1, asked.2)

  -- a request whose reply waits has no other answer
  pub only_reply : (forbidden after : Option Forbidden) (was waits : Option F) (application later : Option A) (head now : Parts)
      (reads left : Result (List ℕ) BodyError → Type 0) (reply waiting : F) (answered : Result F Message)
      → Answers answers forbidden was application head reads (Ok reply) → after ≡ forbidden → waits ≡ Some waiting
      → Answers answers after waits later now left answered → answered ≡ Ok waiting
  only_reply (Some why) after was waits application later head now reads left reply waiting answered is same waiting_is again = absurd (cc (is.1))
  only_reply None after was waits application later head now reads left reply waiting answered is same waiting_is again = rw (same, waiting_is) at again

-- a request as it begins to be served: by its own head and body
pub record Begins {A I F : Type 0} (hosts : Hosts) (application : A) (req : Request (Incoming I)) (forbidden : Option Forbidden) (reply : Option F)
    (asked : Option A) (head : Parts) (reading : Reading I) : Type 0 where
  pub forbids : forbidden ≡ forbidden_of hosts (head_of req).headers
  pub waits : reply ≡ None
  pub asks : IfSome asked (λ a. a ≡ application)
  pub its_head : head ≡ head_of req
  pub its_body : reading.body.inner ≡ body_of req
  pub unread : reading.bytes.items ≡ []

pub begins_for : {A I F : Type 0} (answers : A → Parts → Result (List ℕ) BodyError → Result F Message → Type 0) (hosts : Hosts) (application : A)
    (req : Request (Incoming I)) (forbidden : Option Forbidden) (reply : Option F) (asked : Option A) (head : Parts) (reading : Reading I)
    → Begins hosts application req forbidden reply asked head reading → (answered : Result F Message)
    → Answers answers forbidden reply asked head (Reads reading) answered → AnswersFor answers hosts application req answered
begins_for answers hosts application req forbidden reply asked head reading begins answered is =
    (asked, begins.asks, reading, begins.its_body, begins.unread, rw (begins.forbids, begins.waits, begins.its_head) at is)

module _ {F T : Type 0} (gives : F → T → Type 0) (tells : T → Message → Type 0) (may old : Result F Message → Type 0) where
  -- what is sent of some answers is sent of more
  pub sends_of : ((answered : Result F Message) → may answered → old answered)
      → (response : Response (Full (List ℕ))) → Sends gives tells may response → Sends gives tells old response
  sends_of step response is = (is.0, step is.0 is.1, is.2, is.3, is.4)

  -- a reply that waits gives only what it gave before
  pub sends_waited : (reply waiting : F) → old (Ok reply)
      → ((answered : Result F Message) → may answered → answered ≡ Ok waiting) → ((it : T) → gives waiting it → gives reply it)
      → (response : Response (Full (List ℕ))) → Sends gives tells may response → Sends gives tells old response
  sends_waited reply waiting is only back response given =
      let comes : ComesTo gives tells (Ok waiting) given.2 = subst (λ (a : Result F Message). ComesTo gives tells a given.2) (only given.0 given.1) given.3 in
      (Ok reply, is, given.2, (comes.0, back comes.0 comes.1, comes.2), given.4)
