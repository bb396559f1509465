-- Laws: each call of a hall keeps the history legal and the environments in agreement with it, and so does every run.
use Rattle.std.proofs.Common.{◌≡◌, ℕ, ◌≤◌, List, [], ◌∷◌, ◌++◌, length, map, Bool, true, false, ◌||◌, cond, refl, sym, subst, ap, ◌∙◌, arith, Option, Some, None, ◌==◌}
use Rattle.std.specs.Prelude.{filter}
use Rattle.std.specs.List.{list_any}
use Rattle.std.proofs.lemmas.Bool.{true≢false, or_parts, eqb-false}
use Rattle.std.proofs.lemmas.Option.{none-some}
use Rattle.std.proofs.lemmas.List.Folds.{list_any-append}
use Rattle.retry_rules.specs.declared.settings.Settings.{Settings}
use Rattle.invoke_records.specs.Spelling.{greatest_moment}
use Rattle.invoke_records.specs.declared.command.Command.{Command}
use Rattle.invoke_records.specs.declared.command.Kind.{Kind}
use Rattle.invoke_records.specs.declared.command.Kind.TheVariants.{Interrupt}
use Rattle.async_core.specs.Standings.{runs_in}
use Rattle.async_core.specs.History.{refusal_of, IsLegal, last_moment}
use Rattle.async_core.specs.laws.Held.{IsLegal-last}
use Rattle.env_phase.specs.declared.call.EnvCall.{EnvCall}
use Rattle.env_phase.specs.Calls.{is_shutdown}
use Rattle.env_phase.specs.Environment.{unanswered, running}
use Rattle.env_phase.specs.Polls.{refusal_of as env_refusal_of, IsLegal as IsAccepted}
use Rattle.env_phase.specs.laws.Accepted.{legal_nil, legal_last}
use Rattle.api_core.specs.declared.call.Call.{Call}
use Rattle.api_core.specs.declared.call.Call.TheVariants as calls
use Rattle.hall_plans.specs.Past.{HallCall, arrive, tick, take_slot, forget_slot, asks_stop, Past, opening, environments, calls_of, holder, is_stopping, moment, calls_in}
use Rattle.hall_plans.specs.Effects.{Effect, nothing, id_of, effect_of_request, effect_of_tick, scene, effect_of, command_of}
use Rattle.hall_plans.specs.Run.{option_list, slot_events, past_by, past_after, after, past_of}
use Rattle.hall_plans.specs.declared.error.HallError.{HallError}
use Rattle.hall_plans.specs.Refusals.{first_failed, checks, why_refused}
use Rattle.hall_plans.specs.Agreement.{IsUnrefused, IsRun, IsSound, IsUnheld, text_of, Agrees, AllAgree, IsKept}
use Rattle.hall_plans.specs.laws.Adding.{calls_more}
use Rattle.hall_plans.specs.laws.Keeping.{keeps_shutdown}
use Rattle.hall_plans.specs.laws.Unheld.{RunsAlone, alone_shutdown}
use Rattle.hall_plans.specs.laws.Legal.{last_moment_fits}
use Rattle.hall_plans.specs.laws.Choosing.{holder_runs, unheld_never}
use Rattle.hall_plans.specs.laws.Requests.{Keeps, LeavesNone, InterruptsAlone, is_interrupt, Fine, quiet, request_is_fine}
use Rattle.hall_plans.specs.laws.Ticks.{tick_is_fine}

-- ## One call more

both_false : (a b : Bool) → a ≡ false → b ≡ false → (a || b) ≡ false
both_false a b p q = rw (p, q) refl

unshut_here : (b t : Bool) (m : ℕ × EnvCall) (rest : List (ℕ × EnvCall)) → is_shutdown m.1 ≡ false → list_any is_shutdown (map (λ (m : ℕ × EnvCall). m.1) rest) ≡ false
    → list_any is_shutdown (map (λ (m : ℕ × EnvCall). m.1) (cond t (m ∷ rest) rest)) ≡ false
unshut_here b true m rest here later = both_false (is_shutdown m.1) (list_any is_shutdown (map (λ (m : ℕ × EnvCall). m.1) rest)) here later
unshut_here b false m rest here later = later

unshut_in : (environment : ℕ) (made : List (ℕ × EnvCall)) → list_any (λ (m : ℕ × EnvCall). is_shutdown m.1) made ≡ false → list_any is_shutdown (calls_in environment made) ≡ false
unshut_in environment [] h = refl
unshut_in environment (m ∷ made) h =
    let parts = or_parts (is_shutdown m.1) (list_any (λ (m : ℕ × EnvCall). is_shutdown m.1) made) h in
    unshut_here true (m.0 == environment) m (filter (λ (m : ℕ × EnvCall). m.0 == environment) made) parts.0 (unshut_in environment made parts.1)

stop_parts : (past : Past) (call : HallCall) (effect : Effect) (point : ℕ) → list_any asks_stop (past.slots ++ slot_events past call effect point) ≡ false
    → (is_stopping past ≡ false) × (list_any asks_stop (slot_events past call effect point) ≡ false)
stop_parts past call effect point h =
    or_parts (is_stopping past) (list_any asks_stop (slot_events past call effect point)) (sym (list_any-append asks_stop past.slots (slot_events past call effect point)) ∙ h)

module _ (s : Settings) (past : Past) (kept : IsKept s past) where
  after_effect : (call : HallCall) (effect : Effect) → Keeps s past effect
      → (is_stopping (past_by past call effect) ≡ false → list_any (λ (m : ℕ × EnvCall). is_shutdown m.1) effect.made ≡ false) → IsKept s (past_by past call effect)
  after_effect call effect keeps open_then = record {
    all = record {
      legal = keeps.legal;
      each = λ environment.
          subst (Agrees s past.wanted (past.history ++ option_list effect.command) environment) (sym (calls_more past call effect environment)) (keeps.each environment);
    };
    unshut = λ runs_on environment.
        ap (list_any is_shutdown) (calls_more past call effect environment)
        ∙ list_any-append is_shutdown (calls_of past environment) (calls_in environment effect.made)
        ∙ both_false _ _ (kept.unshut (stop_parts past call effect (length (past.history ++ option_list effect.command)) runs_on).0 environment)
        (unshut_in environment effect.made (open_then runs_on));
  }

  after_fine : (call : HallCall) (effect : Effect) → Fine s past effect → IsKept s (past_by past call effect)
  after_fine call effect fine = after_effect call effect fine.keeps (λ runs_on. fine.unshut)

  later_moment : (now : ℕ) → last_moment past.history ≤ moment past now
  later_moment now = omega arith

  moment_fits : (now : ℕ) → now ≤ greatest_moment → moment past now ≤ greatest_moment
  moment_fits now fits = let before : last_moment past.history ≤ greatest_moment = last_moment_fits s past.history kept.all.legal in omega arith

  -- a request that is not refused
  arrived : (slot now : ℕ) (words : ℕ × ℕ) (call : Call) → is_stopping past ≡ false → now ≤ greatest_moment → length (text_of call) ≤ s.response
      → IsKept s (past_by past (arrive slot call now words) (effect_of_request (scene s past now) slot (id_of words) call))
  arrived slot now words calls.StopBroker runs_on fits text =
      after_effect (arrive slot calls.StopBroker now words) (effect_of_request (scene s past now) slot (id_of words) calls.StopBroker)
      (keeps_shutdown s past.history (calls_of past) kept.all (moment past now) (environments s))
      (λ still. absurd (true≢false (stop_parts past (arrive slot calls.StopBroker now words) (effect_of_request (scene s past now) slot (id_of words) calls.StopBroker) (length (past.history ++ [])) still).1))
  arrived slot now words call runs_on fits text =
      after_fine (arrive slot call now words) (effect_of_request (scene s past now) slot (id_of words) call)
      (request_is_fine (scene s past now) kept.all (later_moment now) (moment_fits now fits) (kept.unshut runs_on) slot (id_of words) call text refl)

  ticked : (now : ℕ) → now ≤ greatest_moment → IsKept s (past_by past (tick now) (effect_of_tick (scene s past now)))
  ticked now fits =
      after_fine (tick now) (effect_of_tick (scene s past now)) (tick_is_fine (scene s past now) kept.all (later_moment now) (moment_fits now fits) kept.unshut)

abbrev second : List (Bool × HallError) → Bool
second [] = false
second (check ∷ []) = false
second (check ∷ other ∷ rest) = other.0

second_passes : (l : List (Bool × HallError)) → first_failed l ≡ None → second l ≡ false
second_passes [] h = refl
second_passes ((true, why) ∷ rest) h = absurd (cc)
second_passes ((false, why) ∷ []) h = refl
second_passes ((false, why) ∷ (true, other) ∷ rest) h = absurd (cc)
second_passes ((false, why) ∷ (false, other) ∷ rest) h = refl

not_stopping : (broken : Bool) (durable : ℕ) (s : Settings) (past : Past) (slot : ℕ) (call : Call) (now : ℕ) (words : ℕ × ℕ) → why_refused broken durable s past (arrive slot call now words) ≡ None
    → is_stopping past ≡ false
unfolding why_refused
not_stopping broken durable s past slot call now words h = second_passes (checks broken durable s past (arrive slot call now words)) h

-- one call more keeps it
pub step : (s : Settings) (past : Past) (call : HallCall) → IsKept s past → IsUnrefused s past call → IsKept s (past_after s past call)
unfolding past_after effect_of
step s past (arrive slot call now words) kept made =
    arrived s past kept slot now words call (not_stopping made.broken made.durable s past slot call now words made.unrefused) made.fit.0 made.fit.1
step s past (tick now) kept made = ticked s past kept now made.fit
step s past (take_slot slot) kept made =
    after_fine s past kept (take_slot slot) nothing (quiet (scene s past 0) kept.all nothing refl refl)
step s past (forget_slot slot) kept made =
    after_fine s past kept (forget_slot slot) nothing (quiet (scene s past 0) kept.all nothing refl refl)

-- ## Events that no environment holds, and one call more

-- an effect that keeps the agreement, after which no other event runs alone, and which interrupts none but such an event
record IsGood (s : Settings) (past : Past) (effect : Effect) : Type 0 where
  pub keeps : Keeps s past effect
  pub leaves_none : LeavesNone s past effect
  pub interrupts : InterruptsAlone s past effect

fine_is_good : (s : Settings) (past : Past) (effect : Effect) → Fine s past effect → IsGood s past effect
fine_is_good s past effect fine = record { keeps = fine.keeps; leaves_none = fine.leaves_none; interrupts = fine.interrupts }

request_is_good : (s : Settings) (past : Past) (kept : IsKept s past) (slot now : ℕ) (words : ℕ × ℕ) (call : Call) → is_stopping past ≡ false → now ≤ greatest_moment → length (text_of call) ≤ s.response
    → IsGood s past (effect_of_request (scene s past now) slot (id_of words) call)
request_is_good s past kept slot now words calls.StopBroker runs_on fits text = record {
  keeps = keeps_shutdown s past.history (calls_of past) kept.all (moment past now) (environments s);
  leaves_none = λ id u. alone_shutdown s past.history (calls_of past) id (moment past now) (environments s) u;
  interrupts = λ c same is. absurd (none-some c same);
}
request_is_good s past kept slot now words call runs_on fits text =
    fine_is_good s past (effect_of_request (scene s past now) slot (id_of words) call)
    (request_is_fine (scene s past now) kept.all (later_moment s past kept now) (moment_fits s past kept now fits) (kept.unshut runs_on) slot (id_of words) call text refl)

call_is_good : (s : Settings) (past : Past) (call : HallCall) → IsKept s past → IsUnrefused s past call → IsGood s past (effect_of s past call)
unfolding effect_of
call_is_good s past (arrive slot call now words) kept made =
    request_is_good s past kept slot now words call (not_stopping made.broken made.durable s past slot call now words made.unrefused) made.fit.0 made.fit.1
call_is_good s past (tick now) kept made =
    fine_is_good s past (effect_of_tick (scene s past now)) (tick_is_fine (scene s past now) kept.all (later_moment s past kept now) (moment_fits s past kept now made.fit) kept.unshut)
call_is_good s past (take_slot slot) kept made = fine_is_good s past nothing (quiet (scene s past 0) kept.all nothing refl refl)
call_is_good s past (forget_slot slot) kept made = fine_is_good s past nothing (quiet (scene s past 0) kept.all nothing refl refl)

module _ (s : Settings) (past : Past) (all : AllAgree s past.wanted past.history (calls_of past)) (id : List ℕ) where
  unheld_alone : IsUnheld s past id → RunsAlone s past.history (calls_of past) id
  unheld_alone u = record { stands = u.stands; alone = unheld_never s past all id u.alone }

  no_holder : ((environment : ℕ) → running (calls_of past environment) ≡ Some id → ⊥) → (o : Option ℕ) → holder s past id ≡ o → o ≡ None
  no_holder alone None is = refl
  no_holder alone (Some environment) is = absurd (alone environment (holder_runs s past all id environment is))

  alone_unheld : RunsAlone s past.history (calls_of past) id → IsUnheld s past id
  alone_unheld u = record { stands = u.stands; alone = no_holder u.alone (holder s past id) refl }

-- an event that runs after a call and that no environment holds was so before it
pub unheld_before : (s : Settings) (past : Past) (call : HallCall) (id : List ℕ) → IsKept s past → IsUnrefused s past call → IsUnheld s (past_after s past call) id → IsUnheld s past id
unfolding past_after
unheld_before s past call id kept made u =
    let later = unheld_alone s (past_after s past call) (step s past call kept made).all id u in
    alone_unheld s past kept.all id
    ((call_is_good s past call kept made).leaves_none id (record {
      stands = later.stands;
      alone = λ environment runs_it. later.alone environment (ap running (calls_more past call (effect_of s past call) environment) ∙ runs_it);
    }))

is_interrupt_of : (k : Kind) → k ≡ Interrupt → is_interrupt k ≡ true
is_interrupt_of k e = ap is_interrupt e

-- an interrupt is for an event that runs by the history and that no environment holds
pub interrupt_is_for : (s : Settings) (past : Past) (call : HallCall) (c : Command) → IsKept s past → IsUnrefused s past call → command_of s past call ≡ Some c → c.kind ≡ Interrupt → IsUnheld s past c.id
interrupt_is_for s past call c kept made has kind =
    alone_unheld s past kept.all c.id ((call_is_good s past call kept made).interrupts c has (is_interrupt_of c.kind kind))

-- ## What a call does is accepted

legal_command : (s : Settings) (past : Past) (effect : Effect) (c : Command) → Keeps s past effect → effect.command ≡ Some c → refusal_of s past.history c ≡ None
legal_command s past effect c keeps has = IsLegal-last s past.history c (subst (λ (o : Option Command). IsLegal s (past.history ++ option_list o)) has keeps.legal)

-- the command of a call is legal
pub command_is_legal : (s : Settings) (past : Past) (call : HallCall) (c : Command) → IsKept s past → IsUnrefused s past call → command_of s past call ≡ Some c → refusal_of s past.history c ≡ None
command_is_legal s past call c kept made has = legal_command s past (effect_of s past call) c (call_is_good s past call kept made).keeps has

its_own : (environment : ℕ) (call : EnvCall) (t : Bool) → (environment == environment) ≡ t → map (λ (m : ℕ × EnvCall). m.1) (cond t ((environment, call) ∷ []) []) ≡ call ∷ []
its_own environment call true e = refl
its_own environment call false e = absurd (eqb-false environment environment e refl)

accepted_call : (s : Settings) (past : Past) (effect : Effect) (environment : ℕ) (call : EnvCall) → Keeps s past effect → effect.made ≡ (environment, call) ∷ []
    → env_refusal_of past.wanted (calls_of past environment) call ≡ None
accepted_call s past effect environment call keeps made_is =
    let whole : calls_in environment effect.made ≡ call ∷ [] = ap (calls_in environment) made_is ∙ its_own environment call (environment == environment) refl in
    legal_last past.wanted (calls_of past environment) call (subst (λ l. IsAccepted past.wanted (calls_of past environment ++ l)) whole (keeps.each environment).accepted)

-- and the environment of a call of one accepts it
pub call_is_accepted : (s : Settings) (past : Past) (call : HallCall) (environment : ℕ) (c : EnvCall) → IsKept s past → IsUnrefused s past call → (effect_of s past call).made ≡ (environment, c) ∷ []
    → env_refusal_of past.wanted (calls_of past environment) c ≡ None
call_is_accepted s past call environment c kept made made_is = accepted_call s past (effect_of s past call) environment c (call_is_good s past call kept made).keeps made_is

-- ## Runs

-- a run keeps it
pub kept_after : (s : Settings) (past : Past) (run : List HallCall) → IsKept s past → IsRun s past run → IsKept s (after s past run)
kept_after s past [] kept made = kept
kept_after s past (call ∷ run) kept made = kept_after s (past_after s past call) run (step s past call kept made.0) made.1

runs_nothing : (id : List ℕ) → running [] ≡ Some id → ⊥
unfolding unanswered
runs_nothing id h = none-some id h

nobody_called : (wanted : ℕ) (h : List Command) (environment : ℕ) → calls_of (opening wanted h) environment ≡ []
unfolding calls_of
nobody_called wanted h environment = refl

-- it holds at an opening on a legal history
pub kept_at_opening : (s : Settings) (wanted : ℕ) (h : List Command) → IsLegal s h → IsKept s (opening wanted h)
kept_at_opening s wanted h legal = record {
  all = record {
    legal = legal;
    each = λ environment.
        subst (Agrees s wanted h environment) (sym (nobody_called wanted h environment)) (record { accepted = legal_nil wanted; runs = λ id runs_it. absurd (runs_nothing id runs_it) });
  };
  unshut = λ runs_on environment. ap (list_any is_shutdown) (nobody_called wanted h environment);
}

same_number : (n : ℕ) (t : Bool) → (n == n) ≡ t → t ≡ true
same_number n true e = refl
same_number n false e = absurd (eqb-false n n e refl)

pub kept_is_sound : (s : Settings) (past : Past) → IsKept s past → IsSound s past
kept_is_sound s past kept = record {
  legal = kept.all.legal;
  accepted = λ environment. (kept.all.each environment).accepted;
  runs = λ environment id runs_it. ap (runs_in environment) ((kept.all.each environment).runs id runs_it).stands ∙ same_number environment (environment == environment) refl;
}

-- every run from an opening on a legal history keeps it
pub every_run_keeps : (s : Settings) (wanted : ℕ) (opened : List Command) (run : List HallCall) → IsLegal s opened → IsRun s (opening wanted opened) run → IsKept s (past_of s wanted opened run)
every_run_keeps s wanted opened run legal made = kept_after s (opening wanted opened) run (kept_at_opening s wanted opened legal) made

-- so every run is sound
pub every_run_is_sound : (s : Settings) (wanted : ℕ) (opened : List Command) (run : List HallCall) → IsLegal s opened → IsRun s (opening wanted opened) run → IsSound s (past_of s wanted opened run)
every_run_is_sound s wanted opened run legal made = kept_is_sound s (past_of s wanted opened run) (every_run_keeps s wanted opened run legal made)

-- what runs after a run and no environment holds did so before it
pub unheld_since : (s : Settings) (past : Past) (run : List HallCall) (id : List ℕ) → IsKept s past → IsRun s past run → IsUnheld s (after s past run) id → IsUnheld s past id
unheld_since s past [] id kept made u = u
unheld_since s past (call ∷ run) id kept made u =
    unheld_before s past call id kept made.0 (unheld_since s (past_after s past call) run id (step s past call kept made.0) made.1 u)
