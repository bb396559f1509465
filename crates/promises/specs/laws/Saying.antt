-- Laws: what a call says of an event that it accepts, or of one that has ended, is so.
use Rattle.std.proofs.Common.{◌≡◌, ℕ, List, [], ◌∷◌, ◌++◌, Bool, true, false, cond, refl, sym, subst, ap, ◌∙◌, Option, Some, None, ◌⊎◌, inl, inr}
use Rattle.std.proofs.lemmas.Bool.{true≢false}
use Rattle.std.proofs.lemmas.Option.{none-some}
use Rattle.std.proofs.lemmas.List.{append-nil}
use Rattle.retry_rules.specs.declared.settings.Settings.{Settings}
use Rattle.invoke_records.specs.declared.command.Command.{Command}
use Rattle.invoke_records.specs.declared.command.Kind.{Kind}
use Rattle.invoke_records.specs.declared.command.Kind.TheVariants.{Accept, Succeed, Fail, Collect}
use Rattle.invoke_records.specs.declared.command.Cause.TheVariants.{Reported}
use Rattle.invoke_records.specs.declared.row.Standing.{Standing}
use Rattle.invoke_records.specs.declared.row.Standing.TheVariants as standing
use Rattle.async_core.specs.declared.choice.Side.{Side}
use Rattle.async_core.specs.declared.illegal.Illegal.{Illegal}
use Rattle.async_core.specs.declared.illegal.Illegal.TheVariants as illegal
use Rattle.async_core.specs.History.{standing_in, refusal_of}
use Rattle.async_core.specs.Readers.{Ending, ending_by, ending_after}
use Rattle.env_phase.specs.declared.answer.PollAnswer.{PollAnswer}
use Rattle.env_phase.specs.declared.answer.PollAnswer.TheVariants as polled
use Rattle.env_phase.specs.declared.call.EnvCall.{EnvCall}
use Rattle.env_phase.specs.declared.refusal.Refusal.{Refusal as EnvRefusal}
use Rattle.env_phase.specs.Environment.{runs}
use Rattle.env_phase.specs.Polls.{refusal_of as env_refusal_of}
use Rattle.api_core.specs.declared.call.Call.{Call}
use Rattle.api_core.specs.declared.call.Call.TheVariants as calls
use Rattle.api_core.specs.Replies.{Told}
use Rattle.api_core.specs.Replies as reply
use Rattle.hall_plans.specs.Past.{HallCall, arrive, Past, calls_of}
use Rattle.hall_plans.specs.Firsts.{Event, oldest_ended}
use Rattle.hall_plans.specs.Effects.{Effect, Scene, scene, command_for, command_of, effect_of, effect_of_request, record_counts, accept_by, collect_by, collects, says_record, ending_of_event, where_accepted, requests, is_late, answers_event, responds}
use Rattle.hall_plans.specs.Run.{option_list, reply_to_poll, past_after}
use Rattle.hall_plans.specs.laws.Adding.{history_grows}
use Rattle.promises.specs.Promises.{Accepts}
use Rattle.promises.specs.laws.Telling.{IsOwn, IsPolled}

-- ## Replies that speak of no event that was accepted or has ended

abbrev is_other : Option Told → Bool
is_other (Some (reply.accepted id)) = false
is_other (Some (reply.accepted_async id)) = false
is_other (Some (reply.record_of e)) = false
is_other told = true

other_is_not : {A : Type 0} (o : Option Told) (told : Told) → is_other o ≡ true → is_other (Some told) ≡ false → o ≡ Some told → A
other_is_not o told other not is = absurd (true≢false (sym other ∙ ap is_other is ∙ not))

refused_or : (o : Option EnvRefusal) (effect : Effect) → is_other effect.reply ≡ true → is_other (where_accepted o effect).reply ≡ true
refused_or None effect h = h
refused_or (Some why) effect h = refl

either_way : (b : Bool) (one two : Effect) → is_other one.reply ≡ true → is_other two.reply ≡ true → is_other (cond b one two).reply ≡ true
either_way true one two p q = p
either_way false one two p q = q

requested : (x : Scene) (environment : ℕ) (call : EnvCall) (command : Option Command) (answered : Option Told) → is_other answered ≡ true → is_other (requests x environment call command answered).reply ≡ true
requested x environment call command answered h =
    refused_or (env_refusal_of x.past.wanted (calls_of x.past environment) call) (record { command = command; made = (environment, call) ∷ []; reply = answered }) h

answered : (x : Scene) (environment : ℕ) (kind : Kind) (id : List ℕ) (bytes : List ℕ) → is_other (answers_event x environment kind id bytes).reply ≡ true
answered x environment kind id bytes = either_way (is_late x id) _ _ refl refl

responding : (x : Scene) (environment : ℕ) (kind : Kind) (id : Option (List ℕ)) (bytes : List ℕ) → is_other (responds x environment kind id bytes).reply ≡ true
responding x environment kind None bytes = refl
responding x environment kind (Some id) bytes =
    either_way (runs (calls_of x.past environment) id) (answers_event x environment kind id bytes) _ (answered x environment kind id bytes) refl

collected_by : (o : Option Illegal) (c : Command) → is_other (collect_by o c).reply ≡ true
collected_by None c = refl
collected_by (Some illegal.NotEnded) c = refl
collected_by (Some why) c = refl

deleting : (x : Scene) (id : Option (List ℕ)) → is_other (collects x id).reply ≡ true
deleting x None = refl
deleting x (Some id) = collected_by (refusal_of x.settings x.past.history (command_for Collect id x.now [])) (command_for Collect id x.now [])

-- ## An acceptance

-- it is told that the event was accepted, with this id
abbrev pub SaysAccepted : Told → List ℕ → Type 0
SaysAccepted told id = (told ≡ reply.accepted id) ⊎ (told ≡ reply.accepted_async id)

not_other : (told : Told) (id : List ℕ) → SaysAccepted told id → is_other (Some told) ≡ false
not_other told id (inl is) = ap (λ t. is_other (Some t)) is
not_other told id (inr is) = ap (λ t. is_other (Some t)) is

pub record IsInvocation (x : Scene) (call : Call) (effect : Effect) (told : Told) (id : List ℕ) : Type 0 where
  pub payload : List ℕ
  pub is : Accepts call payload told id
  pub command : effect.command ≡ Some (command_for Accept id x.now payload)

-- what is told of an acceptance is what the call says
accepting : (says : Told) (records : ℕ × ℕ) (o : Option Illegal) (c : Command) (told : Told) → is_other (Some told) ≡ false
    → (accept_by says records o c).reply ≡ Some told → ((accept_by says records o c).command ≡ Some c) × (says ≡ told)
accepting says records None c told not h = (refl, same says told h)
  where
    same : (a b : Told) → Some a ≡ Some b → a ≡ b
    same a b h = cc
accepting says records (Some illegal.Full) c told not h = other_is_not _ told refl not h
accepting says records (Some why) c told not h = other_is_not _ told refl not h

by_invoke : (drawn id : List ℕ) (told : Told) → reply.accepted drawn ≡ told → SaysAccepted told id → (told ≡ reply.accepted id) × (drawn ≡ id)
by_invoke drawn id told says (inl is) = (is, cc)
by_invoke drawn id told says (inr is) = absurd (cc)

by_invoke_async : (drawn id : List ℕ) (told : Told) → reply.accepted_async drawn ≡ told → SaysAccepted told id → (told ≡ reply.accepted_async id) × (drawn ≡ id)
by_invoke_async drawn id told says (inl is) = absurd (cc)
by_invoke_async drawn id told says (inr is) = (is, cc)

telling : (o : Option Ending) (told : Told) (id : List ℕ) {A : Type 0} → SaysAccepted told id → (says_record o).reply ≡ Some told → A
telling None told id says h = other_is_not _ told refl (not_other told id says) h
telling (Some e) told id (inl is) h = absurd (cc)
telling (Some e) told id (inr is) h = absurd (cc)

request_accepts : (x : Scene) (slot : ℕ) (drawn : List ℕ) (call : Call) (told : Told) (id : List ℕ) → SaysAccepted told id → (effect_of_request x slot drawn call).reply ≡ Some told
    → IsInvocation x call (effect_of_request x slot drawn call) told id
request_accepts x slot drawn (calls.Invoke payload) told id says h =
    let c = command_for Accept drawn x.now payload in
    let parts = accepting (reply.accepted drawn) (record_counts x) (refusal_of x.settings x.past.history c) c told (not_other told id says) h in
    let is = by_invoke drawn id told parts.1 says in
    record { payload = payload; is = inl (refl, is.0); command = parts.0 ∙ ap (λ n. Some (command_for Accept n x.now payload)) is.1 }
request_accepts x slot drawn (calls.InvokeAsync payload) told id says h =
    let c = command_for Accept drawn x.now payload in
    let parts = accepting (reply.accepted_async drawn) (record_counts x) (refusal_of x.settings x.past.history c) c told (not_other told id says) h in
    let is = by_invoke_async drawn id told parts.1 says in
    record { payload = payload; is = inr (refl, is.0); command = parts.0 ∙ ap (λ n. Some (command_for Accept n x.now payload)) is.1 }
request_accepts x slot drawn (calls.Describe what) told id says h = other_is_not _ told refl (not_other told id says) h
request_accepts x slot drawn (calls.Oldest side) told id says h =
    telling (ending_of_event x.settings x.past.history (oldest_ended x.settings x.past.history side)) told id says h
request_accepts x slot drawn (calls.Delete event) told id says h = other_is_not _ told (deleting x event) (not_other told id says) h
request_accepts x slot drawn calls.StopBroker told id says h = other_is_not _ told refl (not_other told id says) h
request_accepts x slot drawn (calls.RuntimeNext environment) told id says h = other_is_not _ told (requested x environment _ _ _ refl) (not_other told id says) h
request_accepts x slot drawn (calls.Response environment event body) told id says h = other_is_not _ told (responding x environment Succeed event body) (not_other told id says) h
request_accepts x slot drawn (calls.RuntimeError environment event body) told id says h = other_is_not _ told (responding x environment (Fail Reported) event body) (not_other told id says) h
request_accepts x slot drawn (calls.RuntimeInitError environment) told id says h = other_is_not _ told (requested x environment _ _ _ refl) (not_other told id says) h
request_accepts x slot drawn (calls.Register environment name events end account) told id says h = other_is_not _ told (requested x environment _ _ _ refl) (not_other told id says) h
request_accepts x slot drawn (calls.ExtensionNext environment identifier) told id says h = other_is_not _ told (requested x environment _ _ _ refl) (not_other told id says) h
request_accepts x slot drawn (calls.ExtensionInitError environment identifier) told id says h = other_is_not _ told (requested x environment _ _ _ refl) (not_other told id says) h
request_accepts x slot drawn (calls.ExtensionExitError environment identifier) told id says h = other_is_not _ told (requested x environment _ _ _ refl) (not_other told id says) h
request_accepts x slot drawn (calls.Subscribe environment stream) told id says h = other_is_not _ told refl (not_other told id says) h

-- ## A record

pub ended_id : (id payload : List ℕ) (answer : _) (n : ℕ) (st : Standing) (e : Ending) → ending_by id payload answer n st ≡ Some e → id ≡ e.id
ended_id id payload answer n standing.Unknown e h = absurd (none-some e h)
ended_id id payload answer n (standing.Waiting due) e h = absurd (none-some e h)
ended_id id payload answer n (standing.DueAgain due) e h = absurd (none-some e h)
ended_id id payload answer n (standing.Running environment deadline) e h = absurd (none-some e h)
ended_id id payload answer n (standing.Ended outcome at) e h = let same : record { id = id; payload = payload; answer = answer; outcome = outcome; at = at; starts = n } ≡ e = cc in ap (λ (v : Ending). v.id) same

said : (o : Option Ending) (e : Ending) → (says_record o).reply ≡ Some (reply.record_of e) → o ≡ Some e
said None e h = absurd (cc)
said (Some other) e h = let same : other ≡ e = cc in ap Some same

pub of_event : (s : Settings) (h : List Command) (event : Option Event) (e : Ending) → ending_of_event s h event ≡ Some e → ending_after s e.id h ≡ Some e
of_event s h None e is = absurd (none-some e is)
of_event s h (Some event) e is =
    let same : event.1 ≡ e.id = ended_id event.1 _ _ _ (standing_in s h event.1) e is in
    subst (λ id. ending_after s id h ≡ Some e) same is

accepted_no_record : {A : Type 0} (id : List ℕ) (e : Ending) → reply.accepted id ≡ reply.record_of e → A
accepted_no_record id e h = absurd (cc)

accepted_async_no_record : {A : Type 0} (id : List ℕ) (e : Ending) → reply.accepted_async id ≡ reply.record_of e → A
accepted_async_no_record id e h = absurd (cc)

-- the request is for the oldest record of this side, and this is it; there is no command
pub record IsShowing (x : Scene) (call : Call) (effect : Effect) (e : Ending) : Type 0 where
  pub side : Side
  pub is : call ≡ calls.Oldest side
  pub command : effect.command ≡ None
  pub first : ending_of_event x.settings x.past.history (oldest_ended x.settings x.past.history side) ≡ Some e

no_command : (o : Option Ending) → (says_record o).command ≡ None
no_command None = refl
no_command (Some e) = refl

request_shows : (x : Scene) (slot : ℕ) (drawn : List ℕ) (call : Call) (e : Ending) → (effect_of_request x slot drawn call).reply ≡ Some (reply.record_of e)
    → IsShowing x call (effect_of_request x slot drawn call) e
request_shows x slot drawn (calls.Invoke payload) e h =
    let c = command_for Accept drawn x.now payload in
    accepted_no_record drawn e (accepting (reply.accepted drawn) (record_counts x) (refusal_of x.settings x.past.history c) c (reply.record_of e) refl h).1
request_shows x slot drawn (calls.InvokeAsync payload) e h =
    let c = command_for Accept drawn x.now payload in
    accepted_async_no_record drawn e (accepting (reply.accepted_async drawn) (record_counts x) (refusal_of x.settings x.past.history c) c (reply.record_of e) refl h).1
request_shows x slot drawn (calls.Describe what) e h = other_is_not _ (reply.record_of e) refl refl h
request_shows x slot drawn (calls.Oldest side) e h =
    let ending = ending_of_event x.settings x.past.history (oldest_ended x.settings x.past.history side) in
    record { side = side; is = refl; command = no_command ending; first = said ending e h }
request_shows x slot drawn (calls.Delete event) e h = other_is_not _ (reply.record_of e) (deleting x event) refl h
request_shows x slot drawn calls.StopBroker e h = other_is_not _ (reply.record_of e) refl refl h
request_shows x slot drawn (calls.RuntimeNext environment) e h = other_is_not _ (reply.record_of e) (requested x environment _ _ _ refl) refl h
request_shows x slot drawn (calls.Response environment event body) e h = other_is_not _ (reply.record_of e) (responding x environment Succeed event body) refl h
request_shows x slot drawn (calls.RuntimeError environment event body) e h = other_is_not _ (reply.record_of e) (responding x environment (Fail Reported) event body) refl h
request_shows x slot drawn (calls.RuntimeInitError environment) e h = other_is_not _ (reply.record_of e) (requested x environment _ _ _ refl) refl h
request_shows x slot drawn (calls.Register environment name events end account) e h = other_is_not _ (reply.record_of e) (requested x environment _ _ _ refl) refl h
request_shows x slot drawn (calls.ExtensionNext environment identifier) e h = other_is_not _ (reply.record_of e) (requested x environment _ _ _ refl) refl h
request_shows x slot drawn (calls.ExtensionInitError environment identifier) e h = other_is_not _ (reply.record_of e) (requested x environment _ _ _ refl) refl h
request_shows x slot drawn (calls.ExtensionExitError environment identifier) e h = other_is_not _ (reply.record_of e) (requested x environment _ _ _ refl) refl h
request_shows x slot drawn (calls.Subscribe environment stream) e h = other_is_not _ (reply.record_of e) refl refl h

-- ## A poll is answered neither

poll_is_other : (h : List Command) (a : PollAnswer) → is_other (Some (reply_to_poll h a)) ≡ true
poll_is_other h (polled.RuntimeEvent id deadline) = refl
poll_is_other h (polled.Invoke id deadline) = refl
poll_is_other h (polled.Shutdown why deadline) = refl
poll_is_other h polled.Replaced = refl
poll_is_other h polled.Reset = refl

no_poll : {A : Type 0} (past : Past) (told : Told) → is_other (Some told) ≡ false → IsPolled past told → A
no_poll past told not poll = absurd (true≢false (sym (poll_is_other past.history poll.poll) ∙ ap (λ t. is_other (Some t)) (sym poll.is) ∙ not))

-- ## A call

-- the call invokes with this payload, and is told so, and its history ends with the acceptance
pub record IsAcceptance (s : Settings) (past : Past) (call : HallCall) (slot : ℕ) (told : Told) (id : List ℕ) : Type 0 where
  pub request : Call
  pub payload : List ℕ
  pub now : ℕ
  pub words : ℕ × ℕ
  pub time : ℕ
  pub invokes : Accepts request payload told id
  pub is : call ≡ arrive slot request now words
  pub history : (past_after s past call).history ≡ past.history ++ command_for Accept id time payload ∷ []

pub accepts_it : (s : Settings) (past : Past) (call : HallCall) (slot : ℕ) (told : Told) (id : List ℕ) → SaysAccepted told id → IsPolled past told ⊎ IsOwn s past call slot told
    → IsAcceptance s past call slot told id
unfolding effect_of
accepts_it s past call slot told id says (inl poll) = no_poll past told (not_other told id says) poll
accepts_it s past call slot told id says (inr own) =
    let x = scene s past own.now in
    let invoked = request_accepts x slot _ own.request told id says own.reply in
    record {
      request = own.request;
      payload = invoked.payload;
      now = own.now;
      words = own.words;
      time = x.now;
      invokes = invoked.is;
      is = own.is;
      history = history_grows s past call ∙ ap (λ c. past.history ++ option_list (command_of s past c)) own.is ∙ ap (λ o. past.history ++ option_list o) invoked.command;
    }

-- the call asks for the oldest record of this side, and this is it; the history stays
pub record IsShow (s : Settings) (past : Past) (call : HallCall) (slot : ℕ) (e : Ending) : Type 0 where
  pub side : Side
  pub now : ℕ
  pub words : ℕ × ℕ
  pub is : call ≡ arrive slot (calls.Oldest side) now words
  pub history : (past_after s past call).history ≡ past.history
  pub first : ending_of_event s past.history (oldest_ended s past.history side) ≡ Some e

pub shows_it : (s : Settings) (past : Past) (call : HallCall) (slot : ℕ) (e : Ending) → IsPolled past (reply.record_of e) ⊎ IsOwn s past call slot (reply.record_of e) → IsShow s past call slot e
unfolding effect_of
shows_it s past call slot e (inl poll) = no_poll past (reply.record_of e) refl poll
shows_it s past call slot e (inr own) =
    let x = scene s past own.now in
    let shown = request_shows x slot _ own.request e own.reply in
    let same : (past_after s past call).history ≡ past.history ++ [] =
    history_grows s past call ∙ ap (λ c. past.history ++ option_list (command_of s past c)) own.is ∙ ap (λ o. past.history ++ option_list o) shown.command in
    record {
      side = shown.side;
      now = own.now;
      words = own.words;
      is = own.is ∙ ap (λ c. arrive slot c own.now own.words) shown.is;
      history = same ∙ append-nil past.history;
      first = shown.first;
    }
