-- Laws: a reply that was computed stays.
use Rattle.std.proofs.Common.{◌≡◌, ℕ, List, [], ◌∷◌, ◌++◌, length, Bool, false, ◌||◌, cond, refl, sym, ap, ◌∙◌, Option, Some, None}
use Rattle.std.specs.Prelude.{slice_get, flat_map, map}
use Rattle.std.specs.List.{filter_map, list_any, after_last}
use Rattle.std.proofs.lemmas.List.{append_assoc, append-nil}
use Rattle.std.proofs.lemmas.List.Folds.{list_any-append}
use Rattle.std.proofs.lemmas.Bool.{or_parts}
use Rattle.std.proofs.lemmas.Option.{none-some}
use Rattle.std.proofs.lemmas.List.Elements.{filter_map-append}
use Rattle.retry_rules.specs.declared.settings.Settings.{Settings}
use Rattle.async_core.specs.laws.Lives.{after_last-snoc}
use Rattle.env_phase.specs.declared.answer.PollAnswer.{PollAnswer}
use Rattle.env_phase.specs.declared.call.EnvCall.{EnvCall}
use Rattle.env_phase.specs.Polls.{answered_by}
use Rattle.api_core.specs.Replies.{Told}
use Rattle.hall_plans.specs.Past.{HallCall, arrive, tick, take_slot, forget_slot, SlotEvent, replied, Past, calls_of}
use Rattle.hall_plans.specs.Effects.{Effect, effect_of}
use Rattle.hall_plans.specs.Run.{option_list, reply_to_poll, replies_to_polls, own_reply, own_event, slot_events, past_after}
use Rattle.hall_plans.specs.Slots.{Reply, asks, reply_by, since_asked, reply_of}

-- ## Replies

pub since_append : {A : Type 0} (p : A → Bool) (xs ys : List A) → list_any p ys ≡ false → after_last p (xs ++ ys) ≡ after_last p xs ++ ys
since_append p xs [] none = ap (after_last p) (append-nil xs) ∙ sym (append-nil (after_last p xs))
since_append p xs (y ∷ ys) none =
    let parts = or_parts (p y) (list_any p ys) none in
    ap (after_last p) (sym (append_assoc xs (y ∷ []) ys))
    ∙ since_append p (xs ++ y ∷ []) ys parts.1
    ∙ ap (λ l. l ++ ys) (after_last-snoc p xs y ∙ ap (λ b. cond b [] (after_last p xs ++ y ∷ [])) parts.0)
    ∙ append_assoc (after_last p xs) (y ∷ []) ys

both_false : (a b : Bool) → a ≡ false → b ≡ false → (a || b) ≡ false
both_false a b p q = rw (p, q) refl

none_asks : (slot : ℕ) (past : Past) (point : ℕ) (polls : List (ℕ × PollAnswer))
    → list_any (asks slot) (map (λ (poll : ℕ × PollAnswer). replied poll.0 (reply_to_poll past.history poll.1) point) polls) ≡ false
none_asks slot past point [] = refl
none_asks slot past point (poll ∷ polls) = none_asks slot past point polls

no_poll_asks : (slot : ℕ) (past : Past) (point : ℕ) (made : List (ℕ × EnvCall)) → list_any (asks slot) (flat_map (replies_to_polls past point) made) ≡ false
no_poll_asks slot past point [] = refl
no_poll_asks slot past point (m ∷ made) =
    list_any-append (asks slot) (replies_to_polls past point m) (flat_map (replies_to_polls past point) made)
    ∙ both_false _ _ (none_asks slot past point (answered_by (calls_of past m.0) m.1)) (no_poll_asks slot past point made)

no_reply_asks : (slot point : ℕ) (call : HallCall) (answered : Option Told) → list_any (asks slot) (own_reply point call answered) ≡ false
no_reply_asks slot point (arrive other call now words) None = refl
no_reply_asks slot point (arrive other call now words) (Some answered) = refl
no_reply_asks slot point (tick now) answered = refl
no_reply_asks slot point (take_slot other) answered = refl
no_reply_asks slot point (forget_slot other) answered = refl

first_stays : {A : Type 0} (xs ys : List A) (x : A) → slice_get xs 0 ≡ Some x → slice_get (xs ++ ys) 0 ≡ Some x
first_stays [] ys x is = absurd (none-some x is)
first_stays (y ∷ xs) ys x is = is

no_event_asks : (slot : ℕ) (past : Past) (call : HallCall) (effect : Effect) (point : ℕ) → list_any (asks slot) (own_event call) ≡ false
    → list_any (asks slot) (slot_events past call effect point) ≡ false
no_event_asks slot past call effect point unasked =
    list_any-append (asks slot) (own_event call ++ flat_map (replies_to_polls past point) effect.made) (own_reply point call effect.reply)
    ∙ both_false _ _
    (list_any-append (asks slot) (own_event call) (flat_map (replies_to_polls past point) effect.made) ∙ both_false _ _ unasked (no_poll_asks slot past point effect.made))
    (no_reply_asks slot point call effect.reply)

reply_stays : (slot : ℕ) (slots more : List SlotEvent) (told : Reply) → list_any (asks slot) more ≡ false
    → slice_get (filter_map (reply_by slot) (after_last (asks slot) slots)) 0 ≡ Some told
    → slice_get (filter_map (reply_by slot) (after_last (asks slot) (slots ++ more))) 0 ≡ Some told
reply_stays slot slots more told none is =
    ap (λ l. slice_get (filter_map (reply_by slot) l) 0) (since_append (asks slot) slots more none)
    ∙ ap (λ l. slice_get l 0) (filter_map-append (reply_by slot) (after_last (asks slot) slots) more)
    ∙ first_stays (filter_map (reply_by slot) (after_last (asks slot) slots)) (filter_map (reply_by slot) more) told is

-- a reply that was computed stays, whatever is called then, until another request comes with its slot
pub replies_stay : (s : Settings) (past : Past) (call : HallCall) (slot : ℕ) (told : Reply) → list_any (asks slot) (own_event call) ≡ false
    → reply_of past slot ≡ Some told → reply_of (past_after s past call) slot ≡ Some told
unfolding reply_of since_asked past_after
replies_stay s past call slot told unasked is =
    reply_stays slot past.slots (slot_events past call (effect_of s past call) (length (past.history ++ option_list (effect_of s past call).command))) told
    (no_event_asks slot past call (effect_of s past call) (length (past.history ++ option_list (effect_of s past call).command)) unasked) is
