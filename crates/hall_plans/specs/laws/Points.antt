-- Laws: what the reply of a slot waits for, by where the slot stands, and that only calls that speak of the slot change it.
use Rattle.std.proofs.Common.{◌≡◌, ℕ, List, [], ◌∷◌, ◌++◌, length, Bool, true, false, not, ◌||◌, ◌==◌, cond, refl, sym, ap, ◌∙◌, Option, Some, None, option_map}
use Rattle.std.specs.Prelude.{map, flat_map}
use Rattle.std.specs.List.{list_any}
use Rattle.std.proofs.lemmas.List.{append_assoc, append-nil}
use Rattle.std.proofs.lemmas.List.Folds.{list_any-append}
use Rattle.std.proofs.lemmas.Bool.{or_parts}
use Rattle.retry_rules.specs.declared.settings.Settings.{Settings}
use Rattle.env_phase.specs.declared.answer.PollAnswer.{PollAnswer}
use Rattle.env_phase.specs.declared.call.EnvCall.{EnvCall}
use Rattle.env_phase.specs.Polls.{answered_by}
use Rattle.api_core.specs.Replies.{Told}
use Rattle.hall_plans.specs.Past.{HallCall, arrive, tick, take_slot, forget_slot, SlotEvent, replied, Past, calls_of}
use Rattle.hall_plans.specs.Effects.{Effect, effect_of}
use Rattle.hall_plans.specs.Run.{option_list, reply_to_poll, replies_to_polls, own_reply, own_event, slot_events, slots_of, polls_answered, past_after}
use Rattle.hall_plans.specs.Slots.{Reply, is_wanted_in, reply_in, point_in, point_of}
use Rattle.hall_plans.specs.Status.{Status, status_of, slot_of, changed_by, is_wanted_by}
use Rattle.hall_plans.specs.Promises.{names, LeavesAlone}
use Rattle.hall_plans.specs.laws.Statuses.{status_snoc, wanted_by_status, reply_by_status}

-- ## By where a slot stands

-- the points of replies
abbrev pub points : Option Reply → Option ℕ
points reply = option_map (λ (r : Reply). r.1) reply

abbrev pub point_by_status : Option Status → Option ℕ
point_by_status None = None
point_by_status (Some status) = cond status.is_forgotten None (points status.reply)

unforgotten : (forgotten : Bool) (point : Option ℕ) → cond (not forgotten) point None ≡ cond forgotten None point
unforgotten true point = refl
unforgotten false point = refl

point_where : (status : Option Status) (wanted : Bool) (reply : Option Reply) → wanted ≡ is_wanted_by status
    → ((one : Status) → status ≡ Some one → reply ≡ one.reply)
    → cond wanted (points reply) None ≡ point_by_status status
point_where None wanted reply is of = ap (λ b. cond b (points reply) None) is
point_where (Some status) wanted reply is of =
    ap (λ b. cond b (points reply) None) is
    ∙ ap (λ r. cond (not status.is_forgotten) (points r) None) (of status refl)
    ∙ unforgotten status.is_forgotten (points status.reply)

pub point_in_status : (events : List SlotEvent) (slot : ℕ) → point_in events slot ≡ point_by_status (status_of events slot)
point_in_status events slot =
    point_where (status_of events slot) (is_wanted_in events slot) (reply_in events slot) (wanted_by_status events slot) (reply_by_status events slot)

-- ## Events of other slots

abbrev is_of : ℕ → SlotEvent → Bool
is_of slot event = slot == slot_of event

abbrev is_among : ℕ → List ℕ → Bool
is_among slot others = list_any (λ other. slot == other) others

still : (slot : ℕ) (events more : List SlotEvent) → list_any (is_of slot) more ≡ false → status_of (events ++ more) slot ≡ status_of events slot
still slot events [] none = ap (λ l. status_of l slot) (append-nil events)
still slot events (e ∷ more) none =
    let parts = or_parts (is_of slot e) (list_any (is_of slot) more) none in
    ap (λ l. status_of l slot) (sym (append_assoc events (e ∷ []) more))
    ∙ still slot (events ++ e ∷ []) more parts.1
    ∙ status_snoc events slot e
    ∙ ap (λ b. cond b (changed_by e (status_of events slot)) (status_of events slot)) parts.0

both_false : (a b : Bool) → a ≡ false → b ≡ false → (a || b) ≡ false
both_false a b p q = rw (p, q) refl

of_one : (slot point : ℕ) (past : Past) (polls : List (ℕ × PollAnswer))
    → list_any (is_of slot) (map (λ (poll : ℕ × PollAnswer). replied poll.0 (reply_to_poll past.history poll.1) point) polls) ≡ is_among slot (slots_of polls)
of_one slot point past [] = refl
of_one slot point past (poll ∷ polls) = ap (λ b. (slot == poll.0) || b) (of_one slot point past polls)

slots_of_both : (a b : List (ℕ × PollAnswer)) → slots_of (a ++ b) ≡ slots_of a ++ slots_of b
slots_of_both [] b = refl
slots_of_both (poll ∷ a) b = ap (λ l. poll.0 ∷ l) (slots_of_both a b)

abbrev answered : Past → List (ℕ × EnvCall) → List (ℕ × PollAnswer)
answered past made = flat_map (λ (m : ℕ × EnvCall). answered_by (calls_of past m.0) m.1) made

of_polls : (slot point : ℕ) (past : Past) (made : List (ℕ × EnvCall))
    → list_any (is_of slot) (flat_map (replies_to_polls past point) made) ≡ is_among slot (slots_of (answered past made))
of_polls slot point past [] = refl
of_polls slot point past (m ∷ made) =
    list_any-append (is_of slot) (replies_to_polls past point m) (flat_map (replies_to_polls past point) made)
    ∙ ap (λ b. b || list_any (is_of slot) (flat_map (replies_to_polls past point) made)) (of_one slot point past (answered_by (calls_of past m.0) m.1))
    ∙ ap (λ b. is_among slot (slots_of (answered_by (calls_of past m.0) m.1)) || b) (of_polls slot point past made)
    ∙ sym (ap (is_among slot) (slots_of_both (answered_by (calls_of past m.0) m.1) (answered past made))
    ∙ list_any-append (λ other. slot == other) (slots_of (answered_by (calls_of past m.0) m.1)) (slots_of (answered past made)))

own_event_of : (slot : ℕ) (call : HallCall) → names slot call ≡ false → list_any (is_of slot) (own_event call) ≡ false
own_event_of slot (arrive other call now words) apart = both_false _ _ apart refl
own_event_of slot (tick now) apart = refl
own_event_of slot (take_slot other) apart = both_false _ _ apart refl
own_event_of slot (forget_slot other) apart = both_false _ _ apart refl

own_reply_of : (slot point : ℕ) (call : HallCall) (reply : Option Told) → names slot call ≡ false → list_any (is_of slot) (own_reply point call reply) ≡ false
own_reply_of slot point (arrive other call now words) None apart = refl
own_reply_of slot point (arrive other call now words) (Some told) apart = both_false _ _ apart refl
own_reply_of slot point (tick now) reply apart = refl
own_reply_of slot point (take_slot other) reply apart = refl
own_reply_of slot point (forget_slot other) reply apart = refl

none_of : (slot point : ℕ) (past : Past) (call : HallCall) (effect : Effect) → names slot call ≡ false
    → is_among slot (slots_of (answered past effect.made)) ≡ false → list_any (is_of slot) (slot_events past call effect point) ≡ false
none_of slot point past call effect apart unanswered =
    list_any-append (is_of slot) (own_event call ++ flat_map (replies_to_polls past point) effect.made) (own_reply point call effect.reply)
    ∙ both_false _ _
    (list_any-append (is_of slot) (own_event call) (flat_map (replies_to_polls past point) effect.made)
    ∙ both_false _ _ (own_event_of slot call apart) (of_polls slot point past effect.made ∙ unanswered))
    (own_reply_of slot point call effect.reply apart)

-- what a reply waits for changes only by a call that names its slot or answers its poll
pub point_stays : (s : Settings) (past : Past) (call : HallCall) (slot : ℕ) → LeavesAlone s past call slot
    → point_of (past_after s past call) slot ≡ point_of past slot
unfolding point_of past_after polls_answered
point_stays s past call slot (apart, unanswered) =
    let effect = effect_of s past call in
    let point = length (past.history ++ option_list effect.command) in
    point_in_status (past.slots ++ slot_events past call effect point) slot
    ∙ ap point_by_status (still slot past.slots (slot_events past call effect point) (none_of slot point past call effect apart unanswered))
    ∙ sym (point_in_status past.slots slot)
