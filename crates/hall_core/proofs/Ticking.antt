-- Lemmas: what a hall stands for after a tick, a take and a forget, and why it refuses a tick.
use Rattle.std.proofs.Common.{◌≡◌, ℕ, ◌^◌, List, [], ◌∷◌, ◌++◌, length, Bool, true, false, cond, ◌||◌, refl, sym, ap, subst, ◌∙◌, arith, Option, Some, None}
use Rattle.std.specs.Prelude.{is_some, option_map}
use Rattle.std.specs.List.{list_any}
use Rattle.std.proofs.lemmas.List.{append-nil}
use Rattle.std.proofs.lemmas.Option.{none-some}
use Rattle.std.proofs.lemmas.List.Folds.{list_any-append}
use Rattle.retry_rules.specs.declared.settings.Settings.{Settings}
use Rattle.invoke_records.specs.declared.command.Command.{Command}
use Rattle.invoke_records.specs.declared.command.Kind.{Kind}
use Rattle.async_core.specs.Choice.{move_of}
use Rattle.broker_core.specs.Issuer.{IssuerView, IsIssuer, issued_in, state_in}
use Rattle.hall_plans.specs.declared.error.HallError.TheVariants as error
use Rattle.hall_plans.specs.declared.preparing.Prepared.{Prepared}
use Rattle.hall_plans.specs.declared.issued.Issued.{Issued}
use Rattle.hall_plans.specs.Past.{HallCall, tick, take_slot, forget_slot, taken, forgotten, Past, SlotEvent, ready_in, asks_stop, is_stopping}
use Rattle.hall_plans.specs.Firsts.{Event, first_unheld, first_moving}
use Rattle.hall_plans.specs.Effects.{Effect, Scene, nothing, scene, moves_by, moves, interrupts_or_moves, effect_of_tick, effect_of, command_of}
use Rattle.hall_plans.specs.laws.Moving.{command_by_kind}
use Rattle.hall_plans.specs.Run.{option_list, slot_events, past_after, issued_by, polls_answered}
use Rattle.hall_plans.specs.Refusals.{first_failed, why_refused}
use Rattle.hall_plans.specs.Agreement.{IsFit, IsUnrefused}
use Rattle.hall_plans.specs.Plans.{PlansTick}
use Rattle.hall_plans.specs.Prepared.{IsPreparedFor}
use Rattle.api_core.specs.Replies.{Words}
use Rattle.api_core.specs.declared.reply.Reply.{Reply as Text}
use Rattle.hall_core.specs.declared.released.Released.{Released}
use Rattle.hall_plans.specs.Slots.{Reply, released, released_in}
use Rattle.hall_core.specs.OpenSlots.{KeepFor, told_in}
use Rattle.hall_plans.specs.Changes.{Leads, answered_to}
use Rattle.hall_plans.specs.Settling.{replied_at}
use Rattle.hall_core.specs.Issuing.{HasPlaceFor, Continues, IsAnswered}
use Rattle.hall_core.specs.Doing.{KeepTick}
use Rattle.hall_core.specs.Hall.{HallView, StandsFor, settings_in, words_in, pending_in, refusal_of_moving, Passes, IssuesAtMostOne, released_to}
use Rattle.hall_core.proofs.Arriving.{answered_is, told_to_polls, made_told, polls_are_told, told_some, told_with, none_asks, or_false, below, stands_after}

-- ## Refusals

tick_refusal_is : (hall : HallView) (past : Past) (now : ℕ) → IsIssuer hall.issuer → StandsFor hall past
    → why_refused hall.issuer.broken hall.issuer.durable (settings_in hall) past (tick now)
    ≡ refusal_of_moving hall (is_some (command_of (settings_in hall) past (tick now)))
unfolding why_refused
tick_refusal_is hall past now laws stands =
    let issued : issued_in hall.issuer ≡ length past.history = (laws.each past.history stands.history).issued_is in
    rw issued refl

passes_both : (b w p : Bool) → first_failed ((b, error.Broken) ∷ (w, error.WornOut) ∷ (p, error.Backlog) ∷ []) ≡ None → (b ≡ false) × (w ≡ false) × (p ≡ false)
passes_both false false false h = (refl, refl, refl)
passes_both true w p h = absurd (none-some error.Broken (sym h))
passes_both false true p h = absurd (none-some error.WornOut (sym h))
passes_both false false true h = absurd (none-some error.Backlog (sym h))

pub moving_finds_place : (hall : HallView) (command : Option Command) → IsIssuer hall.issuer → refusal_of_moving hall (is_some command) ≡ None → HasPlaceFor hall.issuer command
moving_finds_place hall None laws h = tt
moving_finds_place hall (Some c) laws h =
    let all = passes_both hall.issuer.broken _ _ h in
    (all.0, below (2 ^ 62) (issued_in hall.issuer) all.1, omega (arith, below 256 (pending_in hall.issuer) all.2, laws.counted))

-- ## A tick

pub tick_effect_is : (s : Settings) (past : Past) (now : ℕ) → effect_of_tick (scene s past now) ≡ effect_of s past (tick now)
unfolding effect_of
tick_effect_is s past now = refl

pub tick_refused_by : (old : HallView) (past : Past) (now : ℕ) (effect : Effect) → IsIssuer old.issuer → StandsFor old past
    → PlansTick (state_in old.issuer) old.environments old.stops now effect
    → why_refused old.issuer.broken old.issuer.durable (settings_in old) past (tick now) ≡ refusal_of_moving old (is_some effect.command)
tick_refused_by old past now effect laws stands plans =
    let is : effect ≡ effect_of (settings_in old) past (tick now) = plans past stands.environments stands.stopping ∙ tick_effect_is (settings_in old) past now in
    tick_refusal_is old past now laws stands ∙ ap (λ e. refusal_of_moving old (is_some e.command)) (sym is)

tick_events : (past : Past) (now : ℕ) (effect : Effect) (point : ℕ)
    → past.slots ++ slot_events past (tick now) effect point ≡ past.slots ++ replied_at point (told_to_polls past (answered_to past.made effect.made))
tick_events past now effect point = ap (λ l. past.slots ++ l) (append-nil _ ∙ made_told past point effect.made)

-- a tick that passes is not refused
pub tick_unrefused : (old : HallView) (past : Past) (now : ℕ) (effect : Effect) → IsIssuer old.issuer → StandsFor old past
    → IsFit (settings_in old) (tick now) → refusal_of_moving old (is_some effect.command) ≡ None
    → effect ≡ effect_of (settings_in old) past (tick now) → IsUnrefused (settings_in old) past (tick now)
tick_unrefused old past now effect before stands fit passes is = record {
  fit = fit;
  broken = old.issuer.broken;
  durable = old.issuer.durable;
  unrefused = tick_refusal_is old past now before stands ∙ ap (λ (e : Effect). refusal_of_moving old (is_some e.command)) (sym is) ∙ passes;
}

-- a tick that is answered passed each check
pub tick_passes : (old : HallView) (now : ℕ) (effect : Effect) (command : Option Command) (issued : Option Issued)
    → IsIssuer old.issuer → PlansTick (state_in old.issuer) old.environments old.stops now effect → refusal_of_moving old (is_some effect.command) ≡ None
    → command ≡ effect.command → IsAnswered old.issuer command issued → Passes old (tick now) issued
tick_passes old now effect command issued laws plans none is answered = record {
  by_parts =
      ap (λ (o : Option Issued). refusal_of_moving old (is_some o)) answered
      ∙ ap (refusal_of_moving old) (told_some (issued_in old.issuer) command)
      ∙ ap (λ (o : Option Command). refusal_of_moving old (is_some o)) is
      ∙ none;
  by_past = λ past stands. tick_refused_by old past now effect laws stands plans ∙ none;
}

pub ticked : (old new : HallView) (past : Past) (now : ℕ) (effect : Effect) (p : Prepared) (issued : Option Issued)
    → IsIssuer old.issuer → IsIssuer new.issuer → StandsFor old past → IsFit (settings_in old) (tick now)
    → refusal_of_moving old (is_some effect.command) ≡ None
    → PlansTick (state_in old.issuer) old.environments old.stops now effect
    → IsPreparedFor old.dialect (state_in old.issuer) old.environments effect p → new.dialect ≡ old.dialect
    → Continues old.issuer new.issuer p.command → IsAnswered old.issuer p.command issued
    → length new.environments ≡ length old.environments → Leads old.environments p.changes new.environments → new.wanted ≡ old.wanted
    → KeepTick old.slots new.slots p (issued_in new.issuer) → new.stops ≡ old.stops
    → (issued ≡ issued_by (settings_in old) past (tick now)) × StandsFor new (past_after (settings_in old) past (tick now))
ticked old new past now effect p issued before after stands fit passes plans prepared talks continues answered count leads wanted keeps stopping =
    let s = settings_in old in
    let w = words_in old in
    let is : effect ≡ effect_of s past (tick now) = plans past stands.environments stands.stopping ∙ tick_effect_is s past now in
    let same_command : effect.command ≡ command_of s past (tick now) = ap (λ e. e.command) is in
    let unrefused = tick_unrefused old past now effect before stands fit passes is in
    let history : new.issuer.stands (past.history ++ option_list effect.command) =
    subst (λ c. new.issuer.stands (past.history ++ option_list c)) prepared.command (continues.stands past.history stands.history) in
    let point : issued_in new.issuer ≡ length (past.history ++ option_list effect.command) = (after.each (past.history ++ option_list effect.command) history).issued_is in
    let told = told_to_polls past (answered_to past.made effect.made) in
    let kept = keeps w past.slots stands.slots told (prepared.replies past stands.environments ∙ polls_are_told w past (answered_to past.made effect.made)) in
    let keep : KeepFor w new.slots (past.slots ++ slot_events past (tick now) effect (length (past.history ++ option_list effect.command))) =
    rw (tick_events past now effect (length (past.history ++ option_list effect.command)), ← point) kept in
    let stops_so : new.stops ≡ list_any asks_stop (past.slots ++ slot_events past (tick now) effect (length (past.history ++ option_list effect.command))) =
    stopping ∙ stands.stopping
    ∙ sym (ap (list_any asks_stop) (tick_events past now effect (length (past.history ++ option_list effect.command)))
    ∙ list_any-append asks_stop past.slots (replied_at (length (past.history ++ option_list effect.command)) told)
    ∙ ap (λ b. is_stopping past || b) (none_asks (length (past.history ++ option_list effect.command)) told) ∙ or_false (is_stopping past)) in (
      answered ∙ told_with (issued_in old.issuer) (length past.history) p.command (command_of s past (tick now)) ((before.each past.history stands.history).issued_is) (prepared.command ∙ same_command),
      stands_after old new past (tick now) effect stands is unrefused after continues.settings talks history count (leads effect.made prepared.leads past.wanted past.made stands.environments.hold) wanted keep stops_so,
    )

-- ## A tick that has no command

module _ (x : Scene) (ready : Option ℕ) where
  abbrev IsQuiet : Effect → Type 0
  IsQuiet effect = effect.command ≡ None → effect ≡ nothing

  kind_is_quiet : (id : List ℕ) (kind : Option Kind) → IsQuiet (moves_by x ready id kind)
  kind_is_quiet id None quiet = refl
  kind_is_quiet id (Some kind) quiet = absurd (none-some _ (sym quiet ∙ command_by_kind x ready id kind))

  move_is_quiet : (event : Option Event) → IsQuiet (moves x ready event)
  move_is_quiet None quiet = refl
  move_is_quiet (Some event) quiet = kind_is_quiet event.1 (move_of x.settings x.past.history x.now (is_some ready) event.1) quiet

  interrupt_is_quiet : (event : Option Event) → IsQuiet (interrupts_or_moves x ready event)
  interrupt_is_quiet None quiet = move_is_quiet (first_moving x.settings x.past.history x.now (is_some ready)) quiet
  interrupt_is_quiet (Some event) quiet = absurd (none-some _ (sym quiet))

-- a tick of a broker that stops, or of one that does not
abbrev tick_by : Scene → Bool → Effect
tick_by x stopping = cond stopping nothing (interrupts_or_moves x (ready_in x.settings x.past) (first_unheld x.settings x.past))

tick_is_quiet : (x : Scene) → (effect_of_tick x).command ≡ None → effect_of_tick x ≡ nothing
tick_is_quiet x quiet = either (is_stopping x.past) refl
  where
    either : (b : Bool) → is_stopping x.past ≡ b → effect_of_tick x ≡ nothing
    either true stopping = ap (tick_by x) stopping
    either false moving =
        ap (tick_by x) moving
        ∙ interrupt_is_quiet x (ready_in x.settings x.past) (first_unheld x.settings x.past) (sym (ap (λ b. (tick_by x b).command) moving) ∙ quiet)

-- a tick without a command does nothing
idle_is : (s : Settings) (past : Past) (now : ℕ) (effect : Effect) → effect ≡ effect_of_tick (scene s past now) → effect.command ≡ None
    → nothing ≡ effect_of s past (tick now)
idle_is s past now effect planned quiet =
    sym (tick_is_quiet (scene s past now) (sym (ap (λ (e : Effect). e.command) planned) ∙ quiet)) ∙ tick_effect_is s past now

-- and answers no poll
pub idle_answers_none : (old : HallView) (past : Past) (now : ℕ) (effect : Effect) → StandsFor old past
    → PlansTick (state_in old.issuer) old.environments old.stops now effect → effect.command ≡ None
    → [] ≡ polls_answered (settings_in old) past (tick now)
idle_answers_none old past now effect stands plans quiet =
    answered_is (settings_in old) past (tick now) nothing
    (idle_is (settings_in old) past now effect (plans past stands.environments stands.stopping) quiet)

pub idle : (old : HallView) (past : Past) (now : ℕ) (effect : Effect) → IsIssuer old.issuer → StandsFor old past → IsFit (settings_in old) (tick now)
    → refusal_of_moving old (is_some effect.command) ≡ None → PlansTick (state_in old.issuer) old.environments old.stops now effect → effect.command ≡ None
    → (None ≡ issued_by (settings_in old) past (tick now)) × StandsFor old (past_after (settings_in old) past (tick now))
idle old past now effect laws stands fit passes plans quiet =
    let s = settings_in old in
    let planned : effect ≡ effect_of_tick (scene s past now) = plans past stands.environments stands.stopping in
    let is : effect ≡ effect_of s past (tick now) = planned ∙ tick_effect_is s past now in
    let none : None ≡ command_of s past (tick now) = sym quiet ∙ ap (λ (e : Effect). e.command) is in
    let does_nothing : nothing ≡ effect_of s past (tick now) = idle_is s past now effect planned quiet in
    let unrefused = tick_unrefused old past now effect laws stands fit passes is in (
      told_with (length past.history) (length past.history) None (command_of s past (tick now)) refl none,
      stands_after old old past (tick now) nothing stands does_nothing unrefused laws refl refl
          (rw (append-nil past.history) stands.history)
          refl
          (rw (append-nil past.made) stands.environments.hold)
          refl
          (rw (append-nil past.slots) stands.slots)
          (stands.stopping ∙ sym (ap (list_any asks_stop) (append-nil past.slots))),
    )

-- nothing was issued
pub issues_none : (issuer : IssuerView) → IssuesAtMostOne issuer issuer None
issues_none issuer = record {
  command = None;
  continues = record {
    legal = tt;
    settings = refl;
    table = refl;
    issued = omega arith;
    pending = sym (append-nil issuer.pending);
    durable = refl;
    broken = refl;
    stands = λ history stands. rw (append-nil history) stands;
  };
  answered = refl;
}

-- ## A take and a forget

take_is_unrefused : (s : Settings) (past : Past) (slot : ℕ) → IsUnrefused s past (take_slot slot)
unfolding why_refused
take_is_unrefused s past slot = record { fit = tt; broken = false; durable = 0; unrefused = refl }

forget_is_unrefused : (s : Settings) (past : Past) (slot : ℕ) → IsUnrefused s past (forget_slot slot)
unfolding why_refused
forget_is_unrefused s past slot = record { fit = tt; broken = false; durable = 0; unrefused = refl }

take_does_nothing : (s : Settings) (past : Past) (slot : ℕ) → nothing ≡ effect_of s past (take_slot slot)
unfolding effect_of
take_does_nothing s past slot = refl

forget_does_nothing : (s : Settings) (past : Past) (slot : ℕ) → nothing ≡ effect_of s past (forget_slot slot)
unfolding effect_of
forget_does_nothing s past slot = refl

one_event_more : (old new : HallView) (past : Past) (call : HallCall) (event : SlotEvent)
    → StandsFor old past → nothing ≡ effect_of (settings_in old) past call → IsUnrefused (settings_in old) past call → IsIssuer new.issuer
    → new.issuer ≡ old.issuer → new.environments ≡ old.environments → new.wanted ≡ old.wanted → new.stops ≡ old.stops → new.dialect ≡ old.dialect
    → slot_events past call nothing (length (past.history ++ [])) ≡ event ∷ [] → asks_stop event ≡ false
    → KeepFor (words_in old) new.slots (past.slots ++ event ∷ []) → StandsFor new (past_after (settings_in old) past call)
one_event_more old new past call event stands is unrefused laws issuer environments wanted stops talks events asks keep =
    stands_after old new past call nothing stands is unrefused laws (ap (λ i. i.settings) issuer) talks
    (rw (issuer, append-nil past.history) stands.history)
    (ap length environments)
    (rw (environments, append-nil past.made) stands.environments.hold)
    wanted
    (rw events keep)
    (stops ∙ stands.stopping ∙ sym (ap (λ l. list_any asks_stop (past.slots ++ l)) events ∙ list_any-append asks_stop past.slots (event ∷ []) ∙ ap (λ b. is_stopping past || (b || false)) asks ∙ or_false (is_stopping past)))

pub taken_from : (old new : HallView) (past : Past) (slot : ℕ) → StandsFor old past → IsIssuer new.issuer
    → new.issuer ≡ old.issuer → new.environments ≡ old.environments → new.wanted ≡ old.wanted → new.stops ≡ old.stops → new.dialect ≡ old.dialect
    → KeepFor (words_in old) new.slots (past.slots ++ taken slot ∷ []) → StandsFor new (past_after (settings_in old) past (take_slot slot))
taken_from old new past slot stands laws issuer environments wanted stops talks keep =
    one_event_more old new past (take_slot slot) (taken slot) stands (take_does_nothing (settings_in old) past slot) (take_is_unrefused (settings_in old) past slot) laws issuer environments wanted stops talks refl refl keep

pub forgotten_in : (old new : HallView) (past : Past) (slot : ℕ) → StandsFor old past → IsIssuer new.issuer
    → new.issuer ≡ old.issuer → new.environments ≡ old.environments → new.wanted ≡ old.wanted → new.stops ≡ old.stops → new.dialect ≡ old.dialect
    → KeepFor (words_in old) new.slots (past.slots ++ forgotten slot ∷ []) → StandsFor new (past_after (settings_in old) past (forget_slot slot))
forgotten_in old new past slot stands laws issuer environments wanted stops talks keep =
    one_event_more old new past (forget_slot slot) (forgotten slot) stands (forget_does_nothing (settings_in old) past slot) (forget_is_unrefused (settings_in old) past slot) laws issuer environments wanted stops talks refl refl keep

-- ## What a take gives

abbrev pub as_released : ℕ → Text × ℕ → Released
as_released slot told = record { reply = told.0; receipt = told.1; slot = slot }

same_release : (s : Words) (slot : ℕ) (o : Option Reply) → option_map (as_released slot) (option_map (told_in s) o) ≡ option_map (released_to s slot) o
same_release s slot None = refl
same_release s slot (Some reply) = refl

released_is : (broken : Bool) (durable : ℕ) (past : Past) (slot : ℕ) → released_in broken durable past.slots slot ≡ released broken durable past slot
unfolding released
released_is broken durable past slot = refl

pub gives_for : (s : Words) (events : List SlotEvent) (slot : ℕ) (b c : Bool) (r d : ℕ) (result : Option (Text × ℕ))
    → result ≡ option_map (told_in s) (released_in b r events slot) → b ≡ c → r ≡ d
    → option_map (as_released slot) result ≡ option_map (released_to s slot) (released_in c d events slot)
gives_for s events slot b c r d result is broken durable =
    ap (option_map (as_released slot)) is ∙ same_release s slot (released_in b r events slot)
    ∙ ap (option_map (released_to s slot)) (ap (λ x. released_in x r events slot) broken ∙ ap (λ n. released_in c n events slot) durable)

pub gives : (s : Words) (past : Past) (slot : ℕ) (b c : Bool) (r d : ℕ) (result : Option (Text × ℕ))
    → result ≡ option_map (told_in s) (released_in b r past.slots slot) → b ≡ c → r ≡ d
    → option_map (as_released slot) result ≡ option_map (released_to s slot) (released c d past slot)
gives s past slot b c r d result is broken durable =
    gives_for s past.slots slot b c r d result is broken durable ∙ ap (option_map (released_to s slot)) (released_is c d past slot)
