-- Laws: what runs makes an environment busy, and what is ready or in init runs nothing.
use Rattle.std.proofs.Common.{◌≡◌, ℕ, List, [], ◌∷◌, ◌++◌, map, Bool, true, false, not, ◌&&◌, ◌||◌, refl, sym, ap, ◌∙◌, Option, Some, None}
use Rattle.std.specs.Prelude.{is_some, is_none}
use Rattle.std.specs.List.{list_any, list_all}
use Rattle.std.proofs.lemmas.Option.{none-some}
use Rattle.std.proofs.lemmas.Bool.{true≢false, or_right, and_parts}
use Rattle.std.proofs.lemmas.Slice.Eq.{bytes_eq-Decides}
use Rattle.env_phase.specs.declared.call.EnvCall.{EnvCall}
use Rattle.env_phase.specs.declared.call.EnvCall.TheVariants.{RuntimeNext, Register, ExtensionNext, Give, Answer, InitError, ExtensionError, Timeout, Shutdown}
use Rattle.env_phase.specs.declared.refusal.Refusal.{Refusal}
use Rattle.env_phase.specs.Calls.{is_reset, is_shutdown, given_by, ends_event}
use Rattle.env_phase.specs.Environment.{era, unanswered, is_parked, parties, has_enough, is_met, was_met, prefixes, phase_of, phase_by, phase_is_init, phase_is_ready, is_ready, busy, knows}
use Rattle.env_phase.specs.Polls.{first_failed, refusal_of, IsLegal}
use Rattle.env_phase.specs.laws.Calls.{unanswered_snoc}
use Rattle.env_phase.specs.laws.Eras.{is_met_era, was_met_snoc}
use Rattle.env_phase.specs.laws.Accepted.{legally}

-- ## What runs makes the environment busy

any_mapped : {A B : Type 0} (p : B → Bool) (f : A → B) (xs : List A) → list_any p (map f xs) ≡ list_any (λ x. p (f x)) xs
any_mapped p f [] = refl
any_mapped p f (x ∷ xs) = ap (λ b. p (f x) || b) (any_mapped p f xs)

in_prefixes : {A : Type 0} (p : List A → Bool) (xs : List A) → p xs ≡ true → list_any p (prefixes xs) ≡ true
in_prefixes p [] h = rw h refl
in_prefixes p (x ∷ xs) h =
    or_right (p []) (list_any p (map (λ rest. x ∷ rest) (prefixes xs)))
    (any_mapped p (λ rest. x ∷ rest) (prefixes xs) ∙ in_prefixes (λ rest. p (x ∷ rest)) xs h)

ready_is_met : (closed met was : Bool) → phase_is_ready (phase_by closed met was) ≡ true → met ≡ true
ready_is_met true met was h = absurd (true≢false (sym h))
ready_is_met false true was h = refl
ready_is_met false false true h = absurd (true≢false (sym h))
ready_is_met false false false h = absurd (true≢false (sym h))

passes : (b : Bool) (why : Refusal) → first_failed ((not b, why) ∷ []) ≡ None → b ≡ true
passes true why h = refl
passes false why h = absurd (none-some why (sym h))

give_when_met : (wanted : ℕ) (calls : List EnvCall) (id : List ℕ) (deadline : ℕ) → refusal_of wanted calls (Give id deadline) ≡ None → was_met wanted calls ≡ true
unfolding refusal_of phase_of
give_when_met wanted calls id deadline h =
    in_prefixes (is_met wanted) (era calls)
    (ready_is_met (list_any is_shutdown calls) (is_met wanted (era calls)) (was_met wanted calls) (passes (is_ready wanted calls) _ h))

abbrev RunsWhereMet : ℕ → List EnvCall → Type 0
RunsWhereMet wanted calls = is_some (unanswered calls) ≡ true → was_met wanted calls ≡ true

or_left : (a b : Bool) → a ≡ true → (a || b) ≡ true
or_left a b h = rw h refl

-- a call that is neither a reset nor an answer nor a give
other_call : (wanted : ℕ) (calls : List EnvCall) (c : EnvCall) → is_reset c ≡ false → ends_event c ≡ false → given_by c ≡ None → RunsWhereMet wanted calls → RunsWhereMet wanted (calls ++ c ∷ [])
other_call wanted calls c no_reset no_end not_given was some =
    let same : unanswered (calls ++ c ∷ []) ≡ unanswered calls = unanswered_snoc calls c ∙ rw (no_end, not_given) refl in
    let before : is_some (unanswered calls) ≡ true = ap is_some (sym same) ∙ some in
    was_met_snoc wanted calls c ∙ rw no_reset (or_left (was_met wanted calls) (is_met wanted (era calls ++ c ∷ [])) (was before))

-- a reset or an answer
ending_call : (wanted : ℕ) (calls : List EnvCall) (c : EnvCall) → ends_event c ≡ true → RunsWhereMet wanted (calls ++ c ∷ [])
ending_call wanted calls c ends some =
    let gone : unanswered (calls ++ c ∷ []) ≡ None = unanswered_snoc calls c ∙ rw ends refl in
    absurd (true≢false (sym (ap is_some (sym gone) ∙ some)))

runs_step : (wanted : ℕ) (calls : List EnvCall) (c : EnvCall) → refusal_of wanted calls c ≡ None → RunsWhereMet wanted calls → RunsWhereMet wanted (calls ++ c ∷ [])
runs_step wanted calls (RuntimeNext slot) ok was = other_call wanted calls (RuntimeNext slot) refl refl refl was
runs_step wanted calls (Register identifier events end) ok was = other_call wanted calls (Register identifier events end) refl refl refl was
runs_step wanted calls (ExtensionNext identifier slot) ok was = other_call wanted calls (ExtensionNext identifier slot) refl refl refl was
runs_step wanted calls (Give id deadline) ok was = λ some.
    was_met_snoc wanted calls (Give id deadline) ∙ or_left (was_met wanted calls) (is_met wanted (era calls ++ Give id deadline ∷ [])) (give_when_met wanted calls id deadline ok)
runs_step wanted calls (Answer id) ok was = ending_call wanted calls (Answer id) refl
runs_step wanted calls (InitError now) ok was = ending_call wanted calls (InitError now) refl
runs_step wanted calls (ExtensionError identifier in_init now) ok was = ending_call wanted calls (ExtensionError identifier in_init now) refl
runs_step wanted calls (Timeout now) ok was = ending_call wanted calls (Timeout now) refl
runs_step wanted calls (Shutdown now) ok was = other_call wanted calls (Shutdown now) refl refl refl was

none_at_first : (wanted : ℕ) → RunsWhereMet wanted []
unfolding unanswered
none_at_first wanted some = absurd (true≢false (sym some))

-- where an event is unanswered the era was met
pub runs_where_met : (wanted : ℕ) (calls : List EnvCall) → IsLegal wanted calls → is_some (unanswered calls) ≡ true → was_met wanted calls ≡ true
runs_where_met wanted calls legal = legally wanted (RunsWhereMet wanted) (none_at_first wanted) (runs_step wanted) calls legal

not_met_while : (wanted : ℕ) (calls : List EnvCall) (id : List ℕ) → unanswered calls ≡ Some id → is_met wanted calls ≡ false
unfolding is_met
not_met_while wanted calls id runs_it = rw runs_it refl

-- an environment that is not shut down is busy while an event runs
pub busy_while_running : (wanted : ℕ) (calls : List EnvCall) (id : List ℕ) → IsLegal wanted calls → list_any is_shutdown calls ≡ false → unanswered calls ≡ Some id → phase_of wanted calls ≡ busy
unfolding phase_of
busy_while_running wanted calls id legal unshut running_is =
    rw (unshut, is_met_era wanted calls, not_met_while wanted calls id running_is, runs_where_met wanted calls legal (ap is_some running_is)) refl

-- so it accepts the answer to that event, and its timeout
pub answer_is_accepted : (wanted : ℕ) (calls : List EnvCall) (id : List ℕ) → IsLegal wanted calls → list_any is_shutdown calls ≡ false → unanswered calls ≡ Some id → refusal_of wanted calls (Answer id) ≡ None
unfolding refusal_of
answer_is_accepted wanted calls id legal unshut running_is =
    rw (busy_while_running wanted calls id legal unshut running_is, running_is, (bytes_eq-Decides id id).1 refl) refl

pub timeout_is_accepted : (wanted : ℕ) (calls : List EnvCall) (id : List ℕ) (now : ℕ) → IsLegal wanted calls → list_any is_shutdown calls ≡ false → unanswered calls ≡ Some id → refusal_of wanted calls (Timeout now) ≡ None
unfolding refusal_of
timeout_is_accepted wanted calls id now legal unshut running_is =
    rw (busy_while_running wanted calls id legal unshut running_is, running_is) refl

-- ## A give and a shutdown

nothing_unanswered : (o : Option (List ℕ)) → is_none o ≡ true → o ≡ None
nothing_unanswered None h = refl
nothing_unanswered (Some id) h = absurd (true≢false (sym h))

-- what is said of calls that are met
record IsMet (wanted : ℕ) (calls : List EnvCall) : Type 0 where
  runs_nothing : is_none (unanswered calls) ≡ true
  enough : has_enough wanted calls ≡ true
  all_wait : list_all (is_parked calls) (parties calls) ≡ true

met_parts : (wanted : ℕ) (calls : List EnvCall) → is_met wanted calls ≡ true → IsMet wanted calls
unfolding is_met
met_parts wanted calls met =
    let halves = and_parts (is_none (unanswered calls) && has_enough wanted calls) (list_all (is_parked calls) (parties calls)) met in
    let first = and_parts (is_none (unanswered calls)) (has_enough wanted calls) halves.0 in
    record { runs_nothing = first.0; enough = first.1; all_wait = halves.1 }

ready_parts : (wanted : ℕ) (calls : List EnvCall) → is_ready wanted calls ≡ true → IsMet wanted calls
unfolding phase_of
ready_parts wanted calls h =
    met_parts wanted calls
    (sym (is_met_era wanted calls) ∙ ready_is_met (list_any is_shutdown calls) (is_met wanted (era calls)) (was_met wanted calls) h)

-- an environment that is ready runs nothing
pub ready_runs_nothing : (wanted : ℕ) (calls : List EnvCall) → is_ready wanted calls ≡ true → unanswered calls ≡ None
ready_runs_nothing wanted calls h = nothing_unanswered (unanswered calls) (ready_parts wanted calls h).runs_nothing

pub give_is_accepted : (wanted : ℕ) (calls : List EnvCall) (id : List ℕ) (deadline : ℕ) → is_ready wanted calls ≡ true → refusal_of wanted calls (Give id deadline) ≡ None
unfolding refusal_of
give_is_accepted wanted calls id deadline h = rw h refl

pub shutdown_is_accepted : (wanted : ℕ) (calls : List EnvCall) (now : ℕ) → refusal_of wanted calls (Shutdown now) ≡ None
unfolding refusal_of
shutdown_is_accepted wanted calls now = refl

init_is_not_met : (closed met was : Bool) → phase_is_init (phase_by closed met was) ≡ true → was ≡ false
init_is_not_met true met was h = absurd (true≢false (sym h))
init_is_not_met false true was h = absurd (true≢false (sym h))
init_is_not_met false false true h = absurd (true≢false (sym h))
init_is_not_met false false false h = refl

not_some : (o : Option (List ℕ)) → (is_some o ≡ true → ⊥) → o ≡ None
not_some None h = refl
not_some (Some id) h = absurd (h refl)

-- an environment in init runs nothing
pub init_runs_nothing : (wanted : ℕ) (calls : List EnvCall) → IsLegal wanted calls → phase_is_init (phase_of wanted calls) ≡ true → unanswered calls ≡ None
unfolding phase_of
init_runs_nothing wanted calls legal h =
    not_some (unanswered calls)
    (λ some. true≢false (sym (runs_where_met wanted calls legal some) ∙ init_is_not_met (list_any is_shutdown calls) (is_met wanted (era calls)) (was_met wanted calls) h))

-- so what an accepted error during init ends is nothing
pub init_error_ends_nothing : (wanted : ℕ) (calls : List EnvCall) (now : ℕ) → IsLegal wanted calls → refusal_of wanted calls (InitError now) ≡ None → unanswered calls ≡ None
unfolding refusal_of
init_error_ends_nothing wanted calls now legal h = init_runs_nothing wanted calls legal (passes (phase_is_init (phase_of wanted calls)) _ h)

second_passes : (a b : Bool) (why other : Refusal) → first_failed ((a, why) ∷ (not b, other) ∷ []) ≡ None → b ≡ true
second_passes true b why other h = absurd (none-some why (sym h))
second_passes false true why other h = refl
second_passes false false why other h = absurd (none-some other (sym h))

pub extension_init_error_ends_nothing : (wanted : ℕ) (calls : List EnvCall) (identifier : List ℕ) (now : ℕ) → IsLegal wanted calls → refusal_of wanted calls (ExtensionError identifier true now) ≡ None → unanswered calls ≡ None
unfolding refusal_of
extension_init_error_ends_nothing wanted calls identifier now legal h = init_runs_nothing wanted calls legal (second_passes (not (knows calls identifier)) (phase_is_init (phase_of wanted calls)) _ _ h)

-- where one is ready the runtime and each registered extension wait
pub ready_all_wait : (wanted : ℕ) (calls : List EnvCall) → is_ready wanted calls ≡ true → list_all (is_parked calls) (parties calls) ≡ true
ready_all_wait wanted calls h = (ready_parts wanted calls h).all_wait

pub met_has_enough : (wanted : ℕ) (calls : List EnvCall) → is_met wanted calls ≡ true → has_enough wanted calls ≡ true
met_has_enough wanted calls met = (met_parts wanted calls met).enough

-- and they are as many as are waited for
pub ready_has_enough : (wanted : ℕ) (calls : List EnvCall) → is_ready wanted calls ≡ true → has_enough wanted calls ≡ true
ready_has_enough wanted calls h = (ready_parts wanted calls h).enough
