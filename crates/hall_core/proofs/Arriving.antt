-- Lemmas: what a hall that makes a call stands for afterwards, and why it refuses one.
use Rattle.std.proofs.Common.{◌≡◌, ℕ, ◌+◌, ◌-◌, ◌<◌, ◌^◌, List, [], ◌∷◌, ◌++◌, length, map, Bool, true, false, ◌&&◌, ◌||◌, refl, sym, ap, subst, ◌∙◌, arith, append_assoc, Option, Some, None}
use Rattle.std.specs.Prelude.{is_some, nat_le, option_map, flat_map}
use Rattle.std.specs.List.{list_any}
use Rattle.std.proofs.lemmas.Option.{none-some}
use Rattle.std.proofs.lemmas.Bool.{leb-false}
use Rattle.env_phase.specs.Polls.{answered_by}
use Rattle.std.proofs.lemmas.List.Folds.{list_any-append}
use Rattle.retry_rules.specs.declared.settings.Settings.{Settings}
use Rattle.invoke_records.specs.declared.command.Command.{Command}
use Rattle.env_phase.specs.declared.call.EnvCall.{EnvCall}
use Rattle.env_phase.specs.declared.answer.PollAnswer.{PollAnswer}
use Rattle.api_core.specs.declared.call.Call.{Call}
use Rattle.api_core.specs.Replies.{Told, Words, reply_in}
use Rattle.broker_core.specs.Issuer.{IsIssuer, issued_in, state_in, Fails}
use Rattle.hall_plans.specs.declared.error.HallError.TheVariants as error
use Rattle.hall_plans.specs.Past.{HallCall, arrive, Past, asked, replied, calls_in, calls_of, call_stops, asks_stop, is_stopping}
use Rattle.hall_plans.specs.Effects.{Effect, scene, effect_of_request, effect_of, command_of}
use Rattle.hall_plans.specs.Run.{option_list, reply_to_poll, replies_to_polls, own_reply, slot_events, past_by, past_after, issued_by, slots_of, polls_answered}
use Rattle.hall_plans.specs.Slots.{open_slots, open_among}
use Rattle.hall_plans.specs.Refusals.{first_failed, why_refused}
use Rattle.hall_plans.specs.Agreement.{IsFit, IsUnrefused, IsKept}
use Rattle.hall_plans.specs.declared.error.HallError.{HallError}
use Rattle.async_core.specs.declared.illegal.Illegal.{Illegal}
use Rattle.async_core.specs.Rules.{refusal_at}
use Rattle.async_core.specs.History.{table_of, refusal_of}
use Rattle.async_core.specs.laws.Tables.{refusal-of_table}
use Rattle.hall_plans.specs.laws.Sound.{step, command_is_legal, call_is_accepted}
use Rattle.hall_plans.specs.laws.Statuses.{open_slots_are}
use Rattle.hall_plans.specs.Environments.{HoldFor}
use Rattle.hall_plans.specs.Plans.{PlansRequest, drawn_by}
use Rattle.hall_core.specs.OpenSlots.{KeepFor, has_open, open_count, unavailable_in}
use Rattle.hall_plans.specs.Answering.{polls_told}
use Rattle.hall_plans.specs.Changes.{Leads, answered_to, IsUncalled}
use Rattle.hall_plans.specs.Settling.{replies_told, replied_at, own_at}
use Rattle.hall_core.specs.Issuing.{HasPlaceFor, Continues, IsAnswered, IsWanting, told_of}
use Rattle.hall_core.specs.Hall.{HallView, StandsFor, settings_in, words_in, pending_in, is_slot_open, open_slot_count, refusal_of_arrival, Passes, request}
use Rattle.hall_core.proofs.OpenCount.{all_are_open}
use Rattle.std.specs.Prelude.{slice_index}
use Rattle.api_core.specs.declared.reply.Reply.{Reply}
use Rattle.hall_plans.specs.declared.preparing.Prepared.{Prepared}
use Rattle.hall_plans.specs.declared.issued.Issued.{Issued}
use Rattle.hall_plans.specs.Prepared.{IsPreparedFor}
use Rattle.hall_core.specs.Doing.{KeepRequest, Tells}

-- ## Refusals

same_refusal : (b st st2 w w2 o o2 p p2 : Bool) → st ≡ st2 → w ≡ w2 → (b ≡ false → o ≡ o2) → p ≡ p2
    → first_failed ((b, error.Broken) ∷ (st, error.Stopping) ∷ (w, error.WornOut) ∷ (o, error.Backlog) ∷ (p, error.Backlog) ∷ [])
    ≡ first_failed ((b, error.Broken) ∷ (st2, error.Stopping) ∷ (w2, error.WornOut) ∷ (o2, error.Backlog) ∷ (p2, error.Backlog) ∷ [])
same_refusal true st st2 w w2 o o2 p p2 hs hw ho hp = refl
same_refusal false st st2 w w2 o o2 p p2 hs hw ho hp = rw (hs, hw, ho refl, hp) refl

-- what the hall finds is what the definitions say
pub refusal_is : (hall : HallView) (past : Past) (slot : ℕ) (call : Call) (now : ℕ) (words : ℕ × ℕ) → IsIssuer hall.issuer → StandsFor hall past
    → why_refused hall.issuer.broken hall.issuer.durable (settings_in hall) past (arrive slot call now words)
    ≡ refusal_of_arrival hall (is_some (command_of (settings_in hall) past (arrive slot call now words)))
unfolding why_refused
refusal_is hall past slot call now words laws stands =
    let issued : issued_in hall.issuer ≡ length past.history = (laws.each past.history stands.history).issued_is in
    let has = is_some (command_of (settings_in hall) past (arrive slot call now words)) in
    same_refusal hall.issuer.broken (is_stopping past) hall.stops
    (has && nat_le (2 ^ 62) (length past.history)) (has && nat_le (2 ^ 62) (issued_in hall.issuer))
    (nat_le 1024 (length (open_slots hall.issuer.broken past))) (nat_le 1024 (open_slot_count hall))
    (has && nat_le 256 (length past.history - hall.issuer.durable)) (has && nat_le 256 (pending_in hall.issuer))
    (sym stands.stopping)
    (ap (λ n. has && nat_le (2 ^ 62) n) (sym issued))
    (λ sound. ap (nat_le 1024) (ap length (open_slots_are hall.issuer.broken past) ∙ ap (λ b. length (open_among b past.slots)) sound ∙ sym stands.slots.count
    ∙ sym (all_are_open hall.slots) ∙ ap (λ b. open_count b hall.slots) (sym sound)))
    (ap (λ n. has && nat_le 256 (n - hall.issuer.durable)) (sym issued))

-- a command that is not refused finds its place
pub below : (m n : ℕ) → nat_le m n ≡ false → n < m
below m n h = omega (arith, leb-false m n h)

passes_all : (b st w o p : Bool) → first_failed ((b, error.Broken) ∷ (st, error.Stopping) ∷ (w, error.WornOut) ∷ (o, error.Backlog) ∷ (p, error.Backlog) ∷ []) ≡ None
    → (b ≡ false) × (w ≡ false) × (p ≡ false)
passes_all false false false false false h = (refl, refl, refl)
passes_all true st w o p h = absurd (none-some error.Broken (sym h))
passes_all false true w o p h = absurd (none-some error.Stopping (sym h))
passes_all false false true o p h = absurd (none-some error.WornOut (sym h))
passes_all false false false true p h = absurd (none-some error.Backlog (sym h))
passes_all false false false false true h = absurd (none-some error.Backlog (sym h))

-- a request that passes comes with a slot of which nothing is kept
pub is_free : (hall : HallView) (has : Bool) (slot : ℕ) → refusal_of_arrival hall has ≡ None → is_slot_open hall slot ≡ false → has_open false hall.slots slot ≡ false
is_free hall has slot passes free =
    ap (λ b. has_open b hall.slots slot) (sym (passes_all hall.issuer.broken hall.stops _ _ _ passes).0) ∙ free

pub finds_place : (hall : HallView) (command : Option Command) → IsIssuer hall.issuer → refusal_of_arrival hall (is_some command) ≡ None → HasPlaceFor hall.issuer command
finds_place hall None laws h = tt
finds_place hall (Some c) laws h =
    let all = passes_all hall.issuer.broken hall.stops _ _ _ h in
    (all.0, below (2 ^ 62) (issued_in hall.issuer) all.1, omega (arith, below 256 (pending_in hall.issuer) all.2, laws.counted))

-- ## What was done

abbrev pub told_to_polls : Past → List (ℕ × PollAnswer) → List (ℕ × Told)
told_to_polls past polls = map (λ (poll : ℕ × PollAnswer). (poll.0, reply_to_poll past.history poll.1)) polls

one_told : (past : Past) (point : ℕ) (polls : List (ℕ × PollAnswer))
    → map (λ (poll : ℕ × PollAnswer). replied poll.0 (reply_to_poll past.history poll.1) point) polls ≡ replied_at point (told_to_polls past polls)
one_told past point [] = refl
one_told past point (poll ∷ polls) = ap (λ l. replied poll.0 (reply_to_poll past.history poll.1) point ∷ l) (one_told past point polls)

told_both : (past : Past) (point : ℕ) (a b : List (ℕ × PollAnswer)) → replied_at point (told_to_polls past (a ++ b)) ≡ replied_at point (told_to_polls past a) ++ replied_at point (told_to_polls past b)
told_both past point [] b = refl
told_both past point (poll ∷ a) b = ap (λ l. replied poll.0 (reply_to_poll past.history poll.1) point ∷ l) (told_both past point a b)

-- the polls that are answered have these replies
pub made_told : (past : Past) (point : ℕ) (made : List (ℕ × EnvCall))
    → flat_map (replies_to_polls past point) made ≡ replied_at point (told_to_polls past (answered_to past.made made))
unfolding calls_of
made_told past point [] = refl
made_told past point (m ∷ made) =
    ap (λ l. l ++ flat_map (replies_to_polls past point) made) (one_told past point (answered_by (calls_in m.0 past.made) m.1))
    ∙ ap (λ l. replied_at point (told_to_polls past (answered_by (calls_in m.0 past.made) m.1)) ++ l) (made_told past point made)
    ∙ sym (told_both past point (answered_by (calls_in m.0 past.made) m.1) (answered_to past.made made))

pub polls_are_told : (w : Words) (past : Past) (polls : List (ℕ × PollAnswer)) → polls_told w past.history polls ≡ replies_told w (told_to_polls past polls)
polls_are_told w past [] = refl
polls_are_told w past (poll ∷ polls) = ap (λ l. (poll.0, reply_in w (reply_to_poll past.history poll.1)) ∷ l) (polls_are_told w past polls)

own_told : (slot point : ℕ) (call : Call) (now : ℕ) (words : ℕ × ℕ) (own : Option Told) → own_reply point (arrive slot call now words) own ≡ own_at slot point own
own_told slot point call now words None = refl
own_told slot point call now words (Some told) = refl

-- what a request says of slots
pub request_events : (past : Past) (slot : ℕ) (call : Call) (now : ℕ) (words : ℕ × ℕ) (effect : Effect) (point : ℕ)
    → past.slots ++ slot_events past (arrive slot call now words) effect point
    ≡ past.slots ++ asked slot call ∷ [] ++ replied_at point (told_to_polls past (answered_to past.made effect.made)) ++ own_at slot point effect.reply
request_events past slot call now words effect point =
    let told = replied_at point (told_to_polls past (answered_to past.made effect.made)) in
    ap (λ l. past.slots ++ (asked slot call ∷ [] ++ l ++ own_reply point (arrive slot call now words) effect.reply)) (made_told past point effect.made)
    ∙ ap (λ l. past.slots ++ (asked slot call ∷ [] ++ told ++ l)) (own_told slot point call now words effect.reply)
    ∙ sym (append_assoc past.slots (asked slot call ∷ [] ++ told) (own_at slot point effect.reply))
    ∙ ap (λ l. l ++ own_at slot point effect.reply) (sym (append_assoc past.slots (asked slot call ∷ []) told))

-- ## Stopping

pub none_asks : (point : ℕ) (told : List (ℕ × Told)) → list_any asks_stop (replied_at point told) ≡ false
none_asks point [] = refl
none_asks point (t ∷ told) = none_asks point told

own_asks_not : (slot point : ℕ) (own : Option Told) → list_any asks_stop (own_at slot point own) ≡ false
own_asks_not slot point None = refl
own_asks_not slot point (Some told) = refl

pub or_false : (b : Bool) → (b || false) ≡ b
or_false true = refl
or_false false = refl

pub request_stops : (past : Past) (slot : ℕ) (call : Call) (now : ℕ) (words : ℕ × ℕ) (effect : Effect) (point : ℕ)
    → list_any asks_stop (past.slots ++ slot_events past (arrive slot call now words) effect point) ≡ (is_stopping past || call_stops call)
request_stops past slot call now words effect point =
    let told = replied_at point (told_to_polls past (answered_to past.made effect.made)) in
    let own = own_at slot point effect.reply in
    ap (list_any asks_stop) (request_events past slot call now words effect point)
    ∙ list_any-append asks_stop ((past.slots ++ asked slot call ∷ []) ++ told) own
    ∙ ap (λ b. list_any asks_stop ((past.slots ++ asked slot call ∷ []) ++ told) || b) (own_asks_not slot point effect.reply)
    ∙ or_false _
    ∙ list_any-append asks_stop (past.slots ++ asked slot call ∷ []) told
    ∙ ap (λ b. list_any asks_stop (past.slots ++ asked slot call ∷ []) || b) (none_asks point (told_to_polls past (answered_to past.made effect.made)))
    ∙ or_false _
    ∙ list_any-append asks_stop past.slots (asked slot call ∷ [])
    ∙ ap (λ b. is_stopping past || b) (or_false (call_stops call))

-- ## After a call

pub stands_after : (old new : HallView) (past : Past) (call : HallCall) (effect : Effect)
    → StandsFor old past → effect ≡ effect_of (settings_in old) past call → IsUnrefused (settings_in old) past call → IsIssuer new.issuer
    → new.issuer.settings ≡ old.issuer.settings → new.dialect ≡ old.dialect
    → new.issuer.stands (past.history ++ option_list effect.command)
    → length new.environments ≡ length old.environments
    → HoldFor past.wanted new.environments (past.made ++ effect.made)
    → new.wanted ≡ old.wanted
    → KeepFor (words_in old) new.slots (past.slots ++ slot_events past call effect (length (past.history ++ option_list effect.command)))
    → new.stops ≡ list_any asks_stop (past.slots ++ slot_events past call effect (length (past.history ++ option_list effect.command)))
    → StandsFor new (past_after (settings_in old) past call)
unfolding past_after
stands_after old new past call effect stands is unrefused laws same talks history count hold wanted keep stops =
    subst (λ e. StandsFor new (past_by past call e)) is (record {
      history = history;
      environments = record {
        good = rw same stands.environments.good;
        table_is = (laws.each (past.history ++ option_list effect.command) history).table_is;
        count = rw (count, same) stands.environments.count;
        hold = hold;
        kept = rw same (subst (λ e. IsKept (settings_in old) (past_by past call e)) (sym is) (step (settings_in old) past call stands.environments.kept unrefused));
      };
      waits = wanted ∙ stands.waits;
      slots = rw (same, talks) keep;
      stopping = stops;
    })

-- ## A request

pub effect_is : (s : Settings) (past : Past) (slot : ℕ) (call : Call) (now : ℕ) (words : List ℕ)
    → effect_of_request (scene s past now) slot (drawn_by words) call ≡ effect_of s past (request slot call now words)
unfolding effect_of drawn_by
effect_is s past slot call now words = refl

-- the polls that are answered by this effect are those that the call answers
pub answered_is : (s : Settings) (past : Past) (call : HallCall) (effect : Effect) → effect ≡ effect_of s past call
    → slots_of (answered_to past.made effect.made) ≡ polls_answered s past call
unfolding polls_answered calls_of
answered_is s past call effect is = ap (λ (e : Effect). slots_of (answered_to past.made e.made)) is

pub told_with : (n m : ℕ) (c d : Option Command) → n ≡ m → c ≡ d
    → option_map (told_of n) c ≡ option_map (λ (c : Command). record { number = m + 1; kind = c.kind; id = c.id; time = c.time }) d
told_with n m c d is same = rw (is, same) refl

-- why a request is refused that was planned
pub refused_by : (old : HallView) (past : Past) (slot : ℕ) (call : Call) (now : ℕ) (words : List ℕ) (effect : Effect)
    → IsIssuer old.issuer → StandsFor old past → PlansRequest (state_in old.issuer) old.environments slot call now words effect
    → why_refused old.issuer.broken old.issuer.durable (settings_in old) past (request slot call now words) ≡ refusal_of_arrival old (is_some effect.command)
refused_by old past slot call now words effect laws stands plans =
    let is : effect ≡ effect_of (settings_in old) past (request slot call now words) = plans past stands.environments ∙ effect_is (settings_in old) past slot call now words in
    refusal_is old past slot call now (slice_index words 0, slice_index words 1) laws stands ∙ ap (λ e. refusal_of_arrival old (is_some e.command)) (sym is)

-- what is told is a command where there is one
pub told_some : (n : ℕ) (command : Option Command) → is_some (option_map (told_of n) command) ≡ is_some command
told_some n None = refl
told_some n (Some c) = refl

-- a request that is answered passed each check
pub arrival_passes : (old : HallView) (slot : ℕ) (call : Call) (now : ℕ) (words : List ℕ) (effect : Effect) (command : Option Command) (issued : Option Issued)
    → IsIssuer old.issuer → PlansRequest (state_in old.issuer) old.environments slot call now words effect → refusal_of_arrival old (is_some effect.command) ≡ None
    → command ≡ effect.command → IsAnswered old.issuer command issued → Passes old (request slot call now words) issued
arrival_passes old slot call now words effect command issued laws plans none is answered = record {
  by_parts =
      ap (λ (o : Option Issued). refusal_of_arrival old (is_some o)) answered
      ∙ ap (refusal_of_arrival old) (told_some (issued_in old.issuer) command)
      ∙ ap (λ (o : Option Command). refusal_of_arrival old (is_some o)) is
      ∙ none;
  by_past = λ past stands. refused_by old past slot call now words effect laws stands plans ∙ none;
}

-- a request that passes is not refused
pub planned_unrefused : (old : HallView) (past : Past) (slot : ℕ) (call : Call) (now : ℕ) (words : List ℕ) (effect : Effect)
    → IsIssuer old.issuer → StandsFor old past → IsFit (settings_in old) (request slot call now words)
    → refusal_of_arrival old (is_some effect.command) ≡ None
    → effect ≡ effect_of (settings_in old) past (request slot call now words)
    → IsUnrefused (settings_in old) past (request slot call now words)
planned_unrefused old past slot call now words effect before stands fit passes is = record {
  fit = fit;
  broken = old.issuer.broken;
  durable = old.issuer.durable;
  unrefused = refusal_is old past slot call now (slice_index words 0, slice_index words 1) before stands
      ∙ ap (λ (e : Effect). refusal_of_arrival old (is_some e.command)) (sym is) ∙ passes;
}

-- ## What is never refused

-- after a past, an environment accepts what a call makes of it: it is not called for want of memory alone
pub called_but_for_memory : (old : HallView) (past : Past) (call : HallCall) (effect : Effect) (why : HallError) → StandsFor old past
    → effect ≡ effect_of (settings_in old) past call → IsUnrefused (settings_in old) past call → IsUncalled old.environments effect.made why
    → why ≡ error.OutOfMemory
unfolding calls_of
called_but_for_memory old past call effect error.OutOfMemory stands is made uncalled = refl
called_but_for_memory old past call effect error.NoHistory stands is made uncalled =
    let one = uncalled past.wanted past.made stands.environments.hold in
    let accepted = call_is_accepted (settings_in old) past call one.environment one.call stands.environments.kept made (sym (ap (λ (e : Effect). e.made) is) ∙ one.only) in
    absurd (none-some one.why (sym accepted ∙ one.refused))
called_but_for_memory old past call effect error.Broken stands is made uncalled = absurd uncalled
called_but_for_memory old past call effect error.Stopping stands is made uncalled = absurd uncalled
called_but_for_memory old past call effect error.WornOut stands is made uncalled = absurd uncalled
called_but_for_memory old past call effect error.Backlog stands is made uncalled = absurd uncalled
called_but_for_memory old past call effect error.BadKind stands is made uncalled = absurd uncalled
called_but_for_memory old past call effect error.Fault stands is made uncalled = absurd uncalled
called_but_for_memory old past call effect error.OtherHalf stands is made uncalled = absurd uncalled
called_but_for_memory old past call effect (error.Mismatch told found) stands is made uncalled = absurd uncalled
called_but_for_memory old past call effect error.Unfit stands is made uncalled = absurd uncalled
called_but_for_memory old past call effect error.Lent stands is made uncalled = absurd uncalled

not_illegal : (old : HallView) (past : Past) (call : HallCall) (c : Command) (why : Illegal) → StandsFor old past → IsUnrefused (settings_in old) past call
    → Some c ≡ command_of (settings_in old) past call → Fails old.issuer c why → ⊥
not_illegal old past call c why stands made is fails =
    let kept = stands.environments.kept in
    let s = settings_in old in
    let legal : refusal_of s past.history c ≡ None = command_is_legal s past call c kept made (sym is) in
    let by_row : refusal_at s (table_of s past.history) c ≡ Some why = subst (λ t. refusal_at s t c ≡ Some why) stands.environments.table_is fails in
    none-some why (sym legal ∙ sym (refusal-of_table s past.history c stands.environments.good kept.all.legal) ∙ by_row)

-- after a past, the command of a call is legal: it is not issued for want of memory alone
pub issued_but_for_memory : (old : HallView) (past : Past) (call : HallCall) (command : Option Command) (why : HallError) → StandsFor old past
    → IsUnrefused (settings_in old) past call → command ≡ command_of (settings_in old) past call → IsWanting old.issuer command why
    → why ≡ error.OutOfMemory
issued_but_for_memory old past call command error.OutOfMemory stands made is wanting = refl
issued_but_for_memory old past call None error.NoHistory stands made is wanting = absurd wanting
issued_but_for_memory old past call (Some c) error.NoHistory stands made is wanting = absurd (not_illegal old past call c wanting.0 stands made is wanting.1)
issued_but_for_memory old past call command error.Broken stands made is wanting = absurd wanting
issued_but_for_memory old past call command error.Stopping stands made is wanting = absurd wanting
issued_but_for_memory old past call command error.WornOut stands made is wanting = absurd wanting
issued_but_for_memory old past call command error.Backlog stands made is wanting = absurd wanting
issued_but_for_memory old past call command error.BadKind stands made is wanting = absurd wanting
issued_but_for_memory old past call command error.Fault stands made is wanting = absurd wanting
issued_but_for_memory old past call command error.Lent stands made is wanting = absurd wanting
issued_but_for_memory old past call command error.OtherHalf stands made is wanting = absurd wanting
issued_but_for_memory old past call command (error.Mismatch told found) stands made is wanting = absurd wanting
issued_but_for_memory old past call command error.Unfit stands made is wanting = absurd wanting

pub arrived : (old new : HallView) (past : Past) (slot : ℕ) (call : Call) (now : ℕ) (words : List ℕ) (effect : Effect) (p : Prepared) (stops : Bool) (unavailable : Reply) (issued : Option Issued)
    → IsIssuer old.issuer → IsIssuer new.issuer → StandsFor old past → IsFit (settings_in old) (request slot call now words)
    → refusal_of_arrival old (is_some effect.command) ≡ None
    → PlansRequest (state_in old.issuer) old.environments slot call now words effect
    → IsPreparedFor old.dialect (state_in old.issuer) old.environments effect p → new.dialect ≡ old.dialect
    → Continues old.issuer new.issuer p.command → IsAnswered old.issuer p.command issued
    → length new.environments ≡ length old.environments → Leads old.environments p.changes new.environments → new.wanted ≡ old.wanted
    → KeepRequest old.slots new.slots slot unavailable p (issued_in new.issuer) → unavailable ≡ unavailable_in (words_in old)
    → new.stops ≡ (old.stops || stops) → stops ≡ call_stops call
    → (issued ≡ issued_by (settings_in old) past (request slot call now words)) × StandsFor new (past_after (settings_in old) past (request slot call now words))
arrived old new past slot call now words effect p stops unavailable issued before after stands fit passes plans prepared talks continues answered count leads wanted keeps told_503 stopping asks =
    let s = settings_in old in
    let w = words_in old in
    let req = request slot call now words in
    let is : effect ≡ effect_of s past req = plans past stands.environments ∙ effect_is s past slot call now words in
    let same_command : effect.command ≡ command_of s past req = ap (λ e. e.command) is in
    let unrefused = planned_unrefused old past slot call now words effect before stands fit passes is in
    let history : new.issuer.stands (past.history ++ option_list effect.command) =
    subst (λ c. new.issuer.stands (past.history ++ option_list c)) prepared.command (continues.stands past.history stands.history) in
    let point : issued_in new.issuer ≡ length (past.history ++ option_list effect.command) = (after.each (past.history ++ option_list effect.command) history).issued_is in
    let told = told_to_polls past (answered_to past.made effect.made) in
    let tells : Tells w p told effect.reply = (prepared.replies past stands.environments ∙ polls_are_told w past (answered_to past.made effect.made), prepared.own) in
    let kept = keeps w past.slots stands.slots told_503 told effect.reply tells call in
    let keep : KeepFor w new.slots (past.slots ++ slot_events past req effect (length (past.history ++ option_list effect.command))) =
    rw (request_events past slot call now (slice_index words 0, slice_index words 1) effect (length (past.history ++ option_list effect.command)), ← point) kept in
    let stops_so : new.stops ≡ list_any asks_stop (past.slots ++ slot_events past req effect (length (past.history ++ option_list effect.command))) =
    stopping ∙ ap (λ b. b || stops) stands.stopping ∙ ap (λ b. is_stopping past || b) asks
    ∙ sym (request_stops past slot call now (slice_index words 0, slice_index words 1) effect (length (past.history ++ option_list effect.command))) in (
      answered ∙ told_with (issued_in old.issuer) (length past.history) p.command (command_of s past req) ((before.each past.history stands.history).issued_is) (prepared.command ∙ same_command),
      stands_after old new past req effect stands is unrefused after continues.settings talks history count (leads effect.made prepared.leads past.wanted past.made stands.environments.hold) wanted keep stops_so,
    )
