-- Laws: an environment stays in init until as many extensions are registered as it waits for.
use Rattle.std.proofs.Common.{◌≡◌, ℕ, ◌<◌, ◌≤◌, List, [], ◌∷◌, ◌++◌, Bool, true, false, not, ◌&&◌, ◌||◌, refl, sym, ap, ◌∙◌, arith, length, length-append, None, ◌⊎◌, inl, inr}
use Rattle.std.specs.Prelude.{is_none, nat_le}
use Rattle.std.specs.List.{list_any, list_all}
use Rattle.std.proofs.Math.Dec.{leb-zero}
use Rattle.std.proofs.lemmas.Bool.{true≢false, leb-true, leb-false}
use Rattle.std.proofs.lemmas.Option.{none-some}
use Rattle.std.proofs.lemmas.List.Folds.{list_any-append}
use Rattle.env_phase.specs.declared.call.EnvCall.{EnvCall}
use Rattle.env_phase.specs.declared.call.EnvCall.TheVariants.{Register}
use Rattle.env_phase.specs.declared.refusal.Refusal.{Refusal}
use Rattle.env_phase.specs.declared.refusal.Refusal.TheVariants as refusal
use Rattle.env_phase.specs.Calls.{is_reset, is_shutdown, clears, extension, registration, is_known}
use Rattle.env_phase.specs.Environment.{era, registered, parties, is_parked, unanswered, is_met, was_met, phase_of, phase_is_init, init, is_ready, knows}
use Rattle.env_phase.specs.Polls.{first_failed, refusal_of, IsLegal, IsWaiting}
use Rattle.env_phase.specs.laws.Calls.{more, era-snoc, registered_snoc}
use Rattle.env_phase.specs.laws.Eras.{is_met_era, none_was_met, was_met_snoc}
use Rattle.env_phase.specs.laws.Accepted.{legally}
use Rattle.env_phase.specs.laws.Running.{met_has_enough, ready_has_enough}
use Rattle.env_phase.specs.laws.States.{registered_more}

either : (b : Bool) → (b ≡ true) ⊎ (b ≡ false)
either true = inl refl
either false = inr refl

-- neither of two
neither : (a b : Bool) → (a || b) ≡ false → (a ≡ false) × (b ≡ false)
neither true b h = absurd (true≢false h)
neither false b h = (refl, h)

one_of : (a b : Bool) → (a || b) ≡ true → (a ≡ true) ⊎ (b ≡ true)
one_of true b h = inl refl
one_of false b h = inr h

-- ## Where the era was met enough are registered

abbrev EnoughWhereMet : ℕ → List EnvCall → Type 0
EnoughWhereMet wanted calls = list_any is_shutdown calls ≡ false → was_met wanted calls ≡ true → wanted ≤ length (registered calls)

none_at_first : (wanted : ℕ) → EnoughWhereMet wanted []
none_at_first wanted unshut met = absurd (true≢false (sym met ∙ none_was_met wanted))

met_enough : (wanted : ℕ) (calls : List EnvCall) → is_met wanted calls ≡ true → wanted ≤ length (registered calls)
met_enough wanted calls met = leb-true wanted (length (registered calls)) (met_has_enough wanted calls met)

-- a call that clears nothing leaves those that are registered
still_enough : (wanted : ℕ) (calls : List EnvCall) (c : EnvCall) → clears c ≡ false → wanted ≤ length (registered calls) → wanted ≤ length (registered (calls ++ c ∷ []))
still_enough wanted calls c stays enough =
    omega (arith, enough, ap length (registered_more calls c stays), length-append (registered calls) (more (registration c)))

by_this_or_before : (wanted : ℕ) (calls : List EnvCall) (c : EnvCall) → is_reset c ≡ false → clears c ≡ false → (was_met wanted calls ≡ true → wanted ≤ length (registered calls))
    → (was_met wanted calls ≡ true) ⊎ (is_met wanted (era calls ++ c ∷ []) ≡ true) → wanted ≤ length (registered (calls ++ c ∷ []))
by_this_or_before wanted calls c no_reset stays before (inl met) = still_enough wanted calls c stays (before met)
by_this_or_before wanted calls c no_reset stays before (inr met) =
    let whole : era (calls ++ c ∷ []) ≡ era calls ++ c ∷ [] = era-snoc calls c ∙ rw no_reset refl in
    met_enough wanted (calls ++ c ∷ []) (sym (is_met_era wanted (calls ++ c ∷ [])) ∙ ap (is_met wanted) whole ∙ met)

in_era : (wanted : ℕ) (calls : List EnvCall) (c : EnvCall) → EnoughWhereMet wanted calls → list_any is_shutdown calls ≡ false → is_shutdown c ≡ false
    → was_met wanted (calls ++ c ∷ []) ≡ true → (is_reset c ≡ true) ⊎ (is_reset c ≡ false) → wanted ≤ length (registered (calls ++ c ∷ []))
in_era wanted calls c before unshut no_end met (inl reset) =
    let anew : was_met wanted (calls ++ c ∷ []) ≡ false = was_met_snoc wanted calls c ∙ rw reset refl in
    absurd (true≢false (sym met ∙ anew))
in_era wanted calls c before unshut no_end met (inr no_reset) =
    let met_by : (was_met wanted calls || is_met wanted (era calls ++ c ∷ [])) ≡ true = sym (was_met_snoc wanted calls c ∙ rw no_reset refl) ∙ met in
    by_this_or_before wanted calls c no_reset (rw (no_reset, no_end) refl) (before unshut)
    (one_of (was_met wanted calls) (is_met wanted (era calls ++ c ∷ [])) met_by)

enough_step : (wanted : ℕ) (calls : List EnvCall) (c : EnvCall) → refusal_of wanted calls c ≡ None → EnoughWhereMet wanted calls → EnoughWhereMet wanted (calls ++ c ∷ [])
enough_step wanted calls c ok before unshut met =
    let parts = neither (list_any is_shutdown calls) (list_any is_shutdown (c ∷ [])) (sym (list_any-append is_shutdown calls (c ∷ [])) ∙ unshut) in
    in_era wanted calls c before parts.0 (neither (is_shutdown c) false parts.1).0 met (either (is_reset c))

-- in an environment that is not shut down
enough_where_met : (wanted : ℕ) (calls : List EnvCall) → IsLegal wanted calls → EnoughWhereMet wanted calls
enough_where_met wanted calls legal = legally wanted (EnoughWhereMet wanted) (none_at_first wanted) (enough_step wanted) calls legal

-- ## So it is in init while fewer are

not_true : (b : Bool) → (b ≡ true → ⊥) → b ≡ false
not_true true h = absurd (h refl)
not_true false h = refl

few_are_not_met : (wanted : ℕ) (calls : List EnvCall) → length (registered calls) < wanted → is_met wanted calls ≡ false
few_are_not_met wanted calls few =
    not_true (is_met wanted calls) (λ met. let enough : wanted ≤ length (registered calls) = met_enough wanted calls met in omega (arith, few, enough))

few_were_not_met : (wanted : ℕ) (calls : List EnvCall) → IsWaiting wanted calls → was_met wanted calls ≡ false
few_were_not_met wanted calls waits =
    not_true (was_met wanted calls)
    (λ met. let enough : wanted ≤ length (registered calls) = enough_where_met wanted calls waits.0 waits.1 met in omega (arith, waits.2, enough))

pub waiting_is_in_init : (wanted : ℕ) (calls : List EnvCall) → IsWaiting wanted calls → phase_of wanted calls ≡ init
unfolding phase_of
waiting_is_in_init wanted calls waits =
    rw (waits.1, is_met_era wanted calls, few_are_not_met wanted calls waits.2, few_were_not_met wanted calls waits) refl

-- so an extension may register

has_room : (most n : ℕ) → n < most → nat_le most n ≡ false
has_room most n few = not_true (nat_le most n) (λ full. let le : most ≤ n = leb-true most n full in omega (arith, few, le))

pub waiting_registers : (wanted : ℕ) (calls : List EnvCall) (identifier : List ℕ) (events end : Bool) → IsWaiting wanted calls → wanted ≤ 10
    → is_known identifier (registered calls) ≡ false → refusal_of wanted calls (Register identifier events end) ≡ None
unfolding refusal_of
waiting_registers wanted calls identifier events end waits most unknown =
    rw (waiting_is_in_init wanted calls waits, has_room 10 (length (registered calls)) (omega (arith, waits.2, most)), unknown) refl

-- ## Where it is ready

pub ready_enough : (wanted : ℕ) (calls : List EnvCall) → is_ready wanted calls ≡ true → wanted ≤ length (registered calls)
ready_enough wanted calls h = leb-true wanted (length (registered calls)) (ready_has_enough wanted calls h)

-- ## More than ten

room_for_one : (a b c : Bool) (why other last : Refusal) → first_failed ((a, why) ∷ (b, other) ∷ (c, last) ∷ []) ≡ None → b ≡ false
room_for_one true b c why other last h = absurd (none-some why (sym h))
room_for_one false true c why other last h = absurd (none-some other (sym h))
room_for_one false false c why other last h = refl

one_had_room : (wanted : ℕ) (calls : List EnvCall) (identifier : List ℕ) (events end : Bool) → refusal_of wanted calls (Register identifier events end) ≡ None
    → length (registered calls) < 10
unfolding refusal_of
one_had_room wanted calls identifier events end ok =
    leb-false 10 (length (registered calls))
    (room_for_one (not (phase_is_init (phase_of wanted calls))) (nat_le 10 (length (registered calls))) (knows calls identifier)
    refusal.RegistrationClosed refusal.TooManyExtensions refusal.InUse ok)

abbrev AreAtMostTen : List EnvCall → Type 0
AreAtMostTen calls = length (registered calls) ≤ 10

nobody_at_first : AreAtMostTen []
unfolding registered
nobody_at_first = omega arith

one_more_of_ten : (wanted : ℕ) (calls : List EnvCall) (c : EnvCall) → refusal_of wanted calls c ≡ None → AreAtMostTen calls → AreAtMostTen (calls ++ c ∷ [])
one_more_of_ten wanted calls (Register identifier events end) ok few =
    omega (
      arith,
      one_had_room wanted calls identifier events end ok,
      ap length (registered_more calls (Register identifier events end) refl),
      length-append (registered calls) (extension identifier events end ∷ []),
    )
one_more_of_ten wanted calls c ok few = omega (arith, few, ap length (registered_snoc calls c), length-append (registered calls) [])

at_most_ten : (wanted : ℕ) (calls : List EnvCall) → IsLegal wanted calls → AreAtMostTen calls
at_most_ten wanted calls legal = legally wanted AreAtMostTen nobody_at_first (one_more_of_ten wanted) calls legal

-- an environment that waits for more is never ready
pub more_are_never_ready : (wanted : ℕ) (calls : List EnvCall) → IsLegal wanted calls → 10 < wanted → is_ready wanted calls ≡ false
more_are_never_ready wanted calls legal more_than =
    not_true (is_ready wanted calls)
    (λ ready.
    let enough : wanted ≤ length (registered calls) = ready_enough wanted calls ready in
    let few : length (registered calls) ≤ 10 = at_most_ten wanted calls legal in
    omega (arith, enough, few, more_than))

-- ## Where it waits for none

and_one : (a b : Bool) → (a && true && b) ≡ (a && b)
and_one true b = refl
and_one false b = refl

pub is_met_zero : (calls : List EnvCall) → is_met 0 calls ≡ (is_none (unanswered calls) && list_all (is_parked calls) (parties calls))
unfolding is_met
is_met_zero calls = rw (leb-zero (length (registered calls))) (and_one (is_none (unanswered calls)) (list_all (is_parked calls) (parties calls)))
