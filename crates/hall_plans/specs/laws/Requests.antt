-- Laws: what a hall does at a request is sound.
use Rattle.std.proofs.Common.{◌≡◌, ℕ, ◌≤◌, List, [], ◌∷◌, ◌++◌, length, Bool, true, false, refl, sym, ap, ◌∙◌, Option, Some, None, if◌then◌else◌}
use Rattle.std.specs.Prelude.{option_map}
use Rattle.std.specs.List.{list_any}
use Rattle.std.proofs.lemmas.Bool.{true≢false}
use Rattle.std.proofs.lemmas.Option.{none-some}
use Rattle.retry_rules.specs.declared.settings.Settings.{Settings}
use Rattle.invoke_records.specs.Spelling.{greatest_moment}
use Rattle.invoke_records.specs.declared.command.Command.{Command}
use Rattle.invoke_records.specs.declared.command.Kind.{Kind}
use Rattle.invoke_records.specs.declared.command.Kind.TheVariants.{Accept, Succeed, Fail, Interrupt, Collect}
use Rattle.invoke_records.specs.declared.command.Cause.TheVariants.{Reported, Timeout, Exited}
use Rattle.async_core.specs.declared.illegal.Illegal.{Illegal}
use Rattle.async_core.specs.declared.illegal.Illegal.TheVariants as illegal
use Rattle.async_core.specs.Lives.{kind_is_start, kind_names}
use Rattle.async_core.specs.Standings.{is_running}
use Rattle.async_core.specs.History.{standing_in, refusal_of, last_moment}
use Rattle.async_core.specs.Readers.{Ending}
use Rattle.env_phase.specs.declared.refusal.Refusal.{Refusal as EnvRefusal}
use Rattle.env_phase.specs.declared.call.EnvCall.{EnvCall}
use Rattle.env_phase.specs.Calls.{is_shutdown, given_by, ends_event}
use Rattle.env_phase.specs.Environment.{running, runs}
use Rattle.env_phase.specs.declared.call.EnvCall.TheVariants as env
use Rattle.env_phase.specs.Polls.{refusal_of as env_refusal_of}
use Rattle.env_phase.specs.laws.Running.{answer_is_accepted, timeout_is_accepted, init_error_ends_nothing, extension_init_error_ends_nothing}
use Rattle.api_core.specs.declared.call.Call.{Call}
use Rattle.api_core.specs.declared.call.Call.TheVariants as calls
use Rattle.api_core.specs.declared.dialect.Audience.TheVariants.{Environment}
use Rattle.api_core.specs.declared.refusal.Refusal.TheVariants as refusal
use Rattle.api_core.specs.Replies.{Told}
use Rattle.api_core.specs.Replies as reply
use Rattle.hall_plans.specs.Past.{call_stops, Past, calls_of, calls_in}
use Rattle.hall_plans.specs.Effects.{Effect, Scene, says, refuses, command_for, record_counts, accept_by, collect_by, collects, says_record, where_accepted, requests, is_late, answers_event, responds, exit_of, exits, effect_of_request}
use Rattle.hall_plans.specs.Run.{option_list}
use Rattle.hall_plans.specs.Agreement.{text_of, AllAgree}
use Rattle.hall_plans.specs.laws.Keeping.{keeps_nothing, keeps_command, keeps_call, keeps_end}
use Rattle.hall_plans.specs.laws.Unheld.{RunsAlone, alone_nothing, alone_command, alone_call, alone_end}
use Rattle.hall_plans.specs.laws.Legal.{accepted_rests, collected_rests, legal_timeout, legal_exit, legal_response, legal_error}
use Rattle.hall_plans.specs.laws.Choosing.{runs_is, idle_never}

-- ## Effects that are sound

-- after this effect the history is legal and the environments agree with it
abbrev pub Keeps : Settings → Past → Effect → Type 0
Keeps s past effect =
    AllAgree s past.wanted (past.history ++ option_list effect.command) (λ environment. calls_of past environment ++ calls_in environment effect.made)

-- an event that runs alone after it, by the history and in no environment, ran so before
abbrev pub LeavesNone : Settings → Past → Effect → Type 0
LeavesNone s past effect =
    (id : List ℕ)
    → RunsAlone s (past.history ++ option_list effect.command) (λ environment. calls_of past environment ++ calls_in environment effect.made) id
    → RunsAlone s past.history (calls_of past) id

abbrev pub is_interrupt : Kind → Bool
is_interrupt Interrupt = true
is_interrupt kind = false

-- an interrupt is for an event that runs so
abbrev pub InterruptsAlone : Settings → Past → Effect → Type 0
InterruptsAlone s past effect = (c : Command) → effect.command ≡ Some c → is_interrupt c.kind ≡ true → RunsAlone s past.history (calls_of past) c.id

-- all of these, and it shuts no environment down
pub record Fine (s : Settings) (past : Past) (effect : Effect) : Type 0 where
  pub keeps : Keeps s past effect
  pub unshut : list_any (λ (m : ℕ × EnvCall). is_shutdown m.1) effect.made ≡ false
  pub leaves_none : LeavesNone s past effect
  pub interrupts : InterruptsAlone s past effect

pub same_command : (c d : Command) → Some c ≡ Some d → c ≡ d
same_command c d h = cc

-- a command of another kind
pub other_kind : (c d : Command) → is_interrupt c.kind ≡ false → Some c ≡ Some d → is_interrupt d.kind ≡ true → ⊥
other_kind c d other same is =
    let e : c ≡ d = same_command c d same in
    true≢false (sym is ∙ ap (λ (v : Command). is_interrupt v.kind) (sym e) ∙ other)

module _ (x : Scene) (all : AllAgree x.settings x.past.wanted x.past.history (calls_of x.past)) where
  pub quiet : (effect : Effect) → effect.command ≡ None → effect.made ≡ [] → Fine x.settings x.past effect
  quiet effect no_command no_calls = record {
    keeps = rw (no_command, no_calls) (keeps_nothing x.settings x.past.history (calls_of x.past) all);
    unshut = rw no_calls refl;
    leaves_none = rw (no_command, no_calls) (λ id u. alone_nothing x.settings x.past.history (calls_of x.past) id u);
    interrupts = λ c same is. absurd (none-some c (sym no_command ∙ same));
  }

  -- a command alone, for an event that no environment runs
  pub commanding : (c : Command) (answered : Option Told) → kind_is_start c.kind ≡ false → is_interrupt c.kind ≡ false → refusal_of x.settings x.past.history c ≡ None
      → ((environment : ℕ) → running (calls_of x.past environment) ≡ Some c.id → ⊥) → Fine x.settings x.past (record { command = Some c; made = []; reply = answered })
  commanding c answered no_start no_interrupt passes never = record {
    keeps = keeps_command x.settings x.past.history (calls_of x.past) all c passes never;
    unshut = refl;
    leaves_none = λ id u. alone_command x.settings x.past.history (calls_of x.past) id c no_start u;
    interrupts = λ d same is. absurd (other_kind c d no_interrupt same is);
  }

  -- ## Requests of callers

  refused_accept : (told : Told) (c : Command) (why : Illegal) → Fine x.settings x.past (accept_by told (record_counts x) (Some why) c)
  refused_accept told c illegal.Full = quiet (accept_by told (record_counts x) (Some illegal.Full) c) refl refl
  refused_accept told c why = quiet (accept_by told (record_counts x) (Some why) c) refl refl

  accepting : (told : Told) (id bytes : List ℕ) (o : Option Illegal) → refusal_of x.settings x.past.history (command_for Accept id x.now bytes) ≡ o
      → Fine x.settings x.past (accept_by told (record_counts x) o (command_for Accept id x.now bytes))
  accepting told id bytes None passes =
      commanding (command_for Accept id x.now bytes) _ refl refl passes (idle_never x.settings x.past all id (accepted_rests x.settings x.past.history id x.now bytes passes))
  accepting told id bytes (Some why) passes = refused_accept told (command_for Accept id x.now bytes) why

  refused_collect : (c : Command) (why : Illegal) → Fine x.settings x.past (collect_by (Some why) c)
  refused_collect c illegal.NotEnded = quiet (collect_by (Some illegal.NotEnded) c) refl refl
  refused_collect c why = quiet (collect_by (Some why) c) refl refl

  collecting : (id bytes : List ℕ) (o : Option Illegal) → refusal_of x.settings x.past.history (command_for Collect id x.now bytes) ≡ o
      → Fine x.settings x.past (collect_by o (command_for Collect id x.now bytes))
  collecting id bytes None passes =
      commanding (command_for Collect id x.now bytes) _ refl refl passes (idle_never x.settings x.past all id (collected_rests x.settings x.past.history id x.now bytes passes))
  collecting id bytes (Some why) passes = refused_collect (command_for Collect id x.now bytes) why

  deleting : (id : Option (List ℕ)) → Fine x.settings x.past (collects x id)
  deleting None = quiet (collects x None) refl refl
  deleting (Some id) = collecting id [] (refusal_of x.settings x.past.history (command_for Collect id x.now [])) refl

  telling : (o : Option Ending) → Fine x.settings x.past (says_record o)
  telling None = quiet (says_record None) refl refl
  telling (Some ending) = quiet (says_record (Some ending)) refl refl

  -- ## Requests to an environment

  -- where the environment accepts the call, what it ends is nothing
  abbrev EndsNothing : ℕ → EnvCall → Type 0
  EndsNothing environment call = env_refusal_of x.past.wanted (calls_of x.past environment) call ≡ None → ends_event call ≡ true → running (calls_of x.past environment) ≡ None

  no_end : (environment : ℕ) (call : EnvCall) → ends_event call ≡ false → EndsNothing environment call
  no_end environment call never passes ends = absurd (true≢false (sym ends ∙ never))

  asked : (environment : ℕ) (call : EnvCall) (answered : Option Told) → given_by call ≡ None → is_shutdown call ≡ false → EndsNothing environment call
      → (o : Option EnvRefusal) → env_refusal_of x.past.wanted (calls_of x.past environment) call ≡ o
      → Fine x.settings x.past (where_accepted o (record { command = None; made = (environment, call) ∷ []; reply = answered }))
  asked environment call answered gives_none unshut ends_nothing None passes = record {
    keeps = keeps_call x.settings x.past.history (calls_of x.past) all environment call passes gives_none;
    unshut = rw unshut refl;
    leaves_none = λ id u. alone_call x.settings x.past.history (calls_of x.past) id environment call gives_none (ends_nothing passes) u;
    interrupts = λ c same is. absurd (none-some c same);
  }
  asked environment call answered gives_none unshut ends_nothing (Some why) passes = quiet (refuses _) refl refl

  -- a call that gives nothing, alone
  asking : (environment : ℕ) (call : EnvCall) (answered : Option Told) → given_by call ≡ None → is_shutdown call ≡ false → EndsNothing environment call → Fine x.settings x.past (requests x environment call None answered)
  asking environment call answered gives_none unshut ends_nothing = asked environment call answered gives_none unshut ends_nothing (env_refusal_of x.past.wanted (calls_of x.past environment) call) refl

  module _ (clock : last_moment x.past.history ≤ x.now) (bound : x.now ≤ greatest_moment) where
    runs_so : (environment : ℕ) (id : List ℕ) → running (calls_of x.past environment) ≡ Some id → is_running (standing_in x.settings x.past.history id) ≡ true
    runs_so environment id runs_it = ap is_running ((all.each environment).runs id runs_it).stands

    ending : (c : Command) (environment : ℕ) (call : EnvCall) (answered : Option Told) → kind_names c.kind ≡ true → kind_is_start c.kind ≡ false → is_interrupt c.kind ≡ false → running (calls_of x.past environment) ≡ Some c.id → refusal_of x.settings x.past.history c ≡ None
        → env_refusal_of x.past.wanted (calls_of x.past environment) call ≡ None → ends_event call ≡ true → is_shutdown call ≡ false
        → Fine x.settings x.past (record { command = Some c; made = (environment, call) ∷ []; reply = answered })
    ending c environment call answered event no_start no_interrupt runs_it passes accepted ends unshut = record {
      keeps = keeps_end x.settings x.past.history (calls_of x.past) all c environment call runs_it passes accepted ends;
      unshut = rw unshut refl;
      leaves_none = λ id u. alone_end x.settings x.past.history (calls_of x.past) id c environment call event no_start runs_it u;
      interrupts = λ d same is. absurd (other_kind c d no_interrupt same is);
    }

    -- ### Exits

    exit_is_legal : (environment : ℕ) (id : List ℕ) → running (calls_of x.past environment) ≡ Some id → (late : Bool) → is_late x id ≡ late
        → refusal_of x.settings x.past.history (command_for (if late then Fail Timeout else Fail Exited) id x.now []) ≡ None
    exit_is_legal environment id runs_it true late = legal_timeout x.settings x.past.history x.now id clock bound (runs_so environment id runs_it) late
    exit_is_legal environment id runs_it false late = legal_exit x.settings x.past.history x.now id clock bound (runs_so environment id runs_it) late

    exit_kind : (test : Kind → Bool) (late : Bool) → test (Fail Timeout) ≡ false → test (Fail Exited) ≡ false → test (if late then Fail Timeout else Fail Exited) ≡ false
    exit_kind test true a b = a
    exit_kind test false a b = b

    exit_names : (late : Bool) → kind_names (if late then Fail Timeout else Fail Exited) ≡ true
    exit_names true = refl
    exit_names false = refl

    exited : (environment : ℕ) (identifier : List ℕ) (o : Option EnvRefusal) → env_refusal_of x.past.wanted (calls_of x.past environment) (env.ExtensionError identifier false x.now) ≡ o
        → (what : Option (List ℕ)) → running (calls_of x.past environment) ≡ what
        → Fine x.settings x.past (where_accepted o (record { command = option_map (exit_of x) what; made = (environment, env.ExtensionError identifier false x.now) ∷ []; reply = Some reply.taken }))
    exited environment identifier (Some why) passes what runs_it = quiet (refuses _) refl refl
    exited environment identifier None passes None runs_it = asked environment (env.ExtensionError identifier false x.now) (Some reply.taken) refl refl (λ passes ends. runs_it) None passes
    exited environment identifier None passes (Some id) runs_it =
        ending (exit_of x id) environment (env.ExtensionError identifier false x.now) (Some reply.taken) (exit_names (is_late x id)) (exit_kind kind_is_start (is_late x id) refl refl) (exit_kind is_interrupt (is_late x id) refl refl) runs_it
        (exit_is_legal environment id runs_it (is_late x id) refl) passes refl refl

    exiting : (environment : ℕ) (identifier : List ℕ) → Fine x.settings x.past (exits x environment identifier)
    exiting environment identifier =
        exited environment identifier (env_refusal_of x.past.wanted (calls_of x.past environment) (env.ExtensionError identifier false x.now)) refl (running (calls_of x.past environment)) refl

    -- ### Answers

    module _ (open_ones : (environment : ℕ) → list_any is_shutdown (calls_of x.past environment) ≡ false) where
      pub times_out : (environment : ℕ) (id : List ℕ) (answered : Option Told) → running (calls_of x.past environment) ≡ Some id → is_late x id ≡ true
          → Fine x.settings x.past (record { command = Some (command_for (Fail Timeout) id x.now []); made = (environment, env.Timeout x.now) ∷ []; reply = answered })
      times_out environment id answered runs_it late =
          ending (command_for (Fail Timeout) id x.now []) environment (env.Timeout x.now) answered refl refl refl runs_it
          (legal_timeout x.settings x.past.history x.now id clock bound (runs_so environment id runs_it) late)
          (timeout_is_accepted x.past.wanted (calls_of x.past environment) id x.now (all.each environment).accepted (open_ones environment) runs_it) refl refl

      answered_at : (environment : ℕ) (kind : Kind) (id bytes : List ℕ) → kind_names kind ≡ true → kind_is_start kind ≡ false → is_interrupt kind ≡ false → running (calls_of x.past environment) ≡ Some id
          → (is_late x id ≡ false → refusal_of x.settings x.past.history (command_for kind id x.now bytes) ≡ None)
          → (late : Bool) → is_late x id ≡ late
          → Fine x.settings x.past (if late then record {
            command = Some (command_for (Fail Timeout) id x.now []);
            made = (environment, env.Timeout x.now) ∷ [];
            reply = Some (reply.refused Environment refusal.InvalidRequestId);
          }
          else record {
            command = Some (command_for kind id x.now bytes);
            made = (environment, env.Answer id) ∷ [];
            reply = Some reply.taken;
          })
      answered_at environment kind id bytes event no_start no_interrupt runs_it legal true late = times_out environment id (Some (reply.refused Environment refusal.InvalidRequestId)) runs_it late
      answered_at environment kind id bytes event no_start no_interrupt runs_it legal false late =
          ending (command_for kind id x.now bytes) environment (env.Answer id) (Some reply.taken) event no_start no_interrupt runs_it (legal late)
          (answer_is_accepted x.past.wanted (calls_of x.past environment) id (all.each environment).accepted (open_ones environment) runs_it) refl refl

      responded : (environment : ℕ) (kind : Kind) (id bytes : List ℕ) → kind_names kind ≡ true → kind_is_start kind ≡ false → is_interrupt kind ≡ false
          → (is_running (standing_in x.settings x.past.history id) ≡ true → is_late x id ≡ false → refusal_of x.settings x.past.history (command_for kind id x.now bytes) ≡ None)
          → (here : Bool) → runs (calls_of x.past environment) id ≡ here → Fine x.settings x.past (if here then answers_event x environment kind id bytes else refuses refusal.InvalidRequestId)
      responded environment kind id bytes event no_start no_interrupt legal true here =
          let runs_it = runs_is (calls_of x.past environment) id here in
          answered_at environment kind id bytes event no_start no_interrupt runs_it (legal (runs_so environment id runs_it)) (is_late x id) refl
      responded environment kind id bytes event no_start no_interrupt legal false here = quiet (refuses refusal.InvalidRequestId) refl refl

      responding : (environment : ℕ) (kind : Kind) (id : Option (List ℕ)) (bytes : List ℕ) → kind_names kind ≡ true → kind_is_start kind ≡ false → is_interrupt kind ≡ false
          → ((id : List ℕ) → is_running (standing_in x.settings x.past.history id) ≡ true → is_late x id ≡ false → refusal_of x.settings x.past.history (command_for kind id x.now bytes) ≡ None)
          → Fine x.settings x.past (responds x environment kind id bytes)
      responding environment kind None bytes event no_start no_interrupt legal = quiet (refuses refusal.InvalidRequestId) refl refl
      responding environment kind (Some id) bytes event no_start no_interrupt legal = responded environment kind id bytes event no_start no_interrupt (legal id) (runs (calls_of x.past environment) id) refl

      -- ### Requests, by what they ask

      -- all but the stop
      pub request_is_fine : (slot : ℕ) (drawn : List ℕ) (call : Call) → length (text_of call) ≤ x.settings.response → call_stops call ≡ false → Fine x.settings x.past (effect_of_request x slot drawn call)
      request_is_fine slot drawn (calls.Invoke payload) fits runs_on = accepting (reply.accepted drawn) drawn payload (refusal_of x.settings x.past.history (command_for Accept drawn x.now payload)) refl
      request_is_fine slot drawn (calls.InvokeAsync payload) fits runs_on = accepting (reply.accepted_async drawn) drawn payload (refusal_of x.settings x.past.history (command_for Accept drawn x.now payload)) refl
      request_is_fine slot drawn (calls.Describe what) fits runs_on = quiet (says (reply.described what)) refl refl
      request_is_fine slot drawn (calls.Oldest side) fits runs_on = telling _
      request_is_fine slot drawn (calls.Delete id) fits runs_on = deleting id
      request_is_fine slot drawn calls.StopBroker fits runs_on = absurd (true≢false runs_on)
      request_is_fine slot drawn (calls.RuntimeNext environment) fits runs_on = asking environment (env.RuntimeNext slot) None refl refl (no_end environment (env.RuntimeNext slot) refl)
      request_is_fine slot drawn (calls.Response environment id body) fits runs_on =
          responding environment Succeed id body refl refl refl (λ id running_it late. legal_response x.settings x.past.history x.now id clock bound body fits running_it late)
      request_is_fine slot drawn (calls.RuntimeError environment id body) fits runs_on =
          responding environment (Fail Reported) id body refl refl refl (λ id running_it late. legal_error x.settings x.past.history x.now id clock bound body fits running_it late)
      request_is_fine slot drawn (calls.RuntimeInitError environment) fits runs_on =
          asking environment (env.InitError x.now) (Some reply.taken) refl refl (λ passes ends. init_error_ends_nothing x.past.wanted (calls_of x.past environment) x.now (all.each environment).accepted passes)
      request_is_fine slot drawn (calls.Register environment name events end account) fits runs_on =
          asking environment (env.Register drawn events end) (Some (reply.registered drawn account)) refl refl (no_end environment (env.Register drawn events end) refl)
      request_is_fine slot drawn (calls.ExtensionNext environment identifier) fits runs_on = asking environment (env.ExtensionNext identifier slot) None refl refl (no_end environment (env.ExtensionNext identifier slot) refl)
      request_is_fine slot drawn (calls.ExtensionInitError environment identifier) fits runs_on =
          asking environment (env.ExtensionError identifier true x.now) (Some reply.taken) refl refl (λ passes ends. extension_init_error_ends_nothing x.past.wanted (calls_of x.past environment) identifier x.now (all.each environment).accepted passes)
      request_is_fine slot drawn (calls.ExtensionExitError environment identifier) fits runs_on = exiting environment identifier
      request_is_fine slot drawn (calls.Subscribe environment stream) fits runs_on = quiet (says (reply.not_supported stream)) refl refl
