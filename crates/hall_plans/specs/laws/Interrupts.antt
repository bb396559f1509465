-- Laws: interrupts are for exactly the events that run by the history and that no environment holds.
use Rattle.std.proofs.Common.{◌≡◌, ℕ, ◌<◌, List, [], ◌∷◌, Bool, Option, true, false, refl, sym, ap, ◌∙◌, arith, Some, None, inl, inr}
use Rattle.std.specs.Str.{bytes_eq}
use Rattle.std.proofs.lemmas.Bool.{true≢false}
use Rattle.std.proofs.lemmas.Option.{none-some}
use Rattle.retry_rules.specs.declared.settings.Settings.{Settings}
use Rattle.invoke_records.specs.declared.command.Command.{Command}
use Rattle.invoke_records.specs.declared.command.Kind.TheVariants.{Interrupt}
use Rattle.async_core.specs.Lives.{life}
use Rattle.async_core.specs.Standings.{is_running}
use Rattle.async_core.specs.History.{held, standing_in, IsLegal}
use Rattle.async_core.specs.laws.Held.{times_held, size, is_nil, bytes_eq-true, unknown-nil, held_once}
use Rattle.async_core.specs.Choice.{IsFree}
use Rattle.async_core.specs.laws.Rows.{times_held-cons}
use Rattle.env_phase.specs.Environment.{running}
use Rattle.hall_plans.specs.Past.{tick, Past, calls_of, holder, ready_in, is_stopping, moment}
use Rattle.hall_plans.specs.Firsts.{Event, first_unheld}
use Rattle.hall_plans.specs.Effects.{command_for, effect_of, command_of}
use Rattle.hall_plans.specs.Agreement.{AllAgree, IsUnheld}
use Rattle.hall_plans.specs.laws.Ranks.{IsIn}
use Rattle.hall_plans.specs.laws.Legal.{known_running}
use Rattle.hall_plans.specs.laws.Choosing.{all_held, holder_runs, ready_is, ready_is_free}

-- ## An event that runs is held

held_here : (id : List ℕ) (e : Event) (events : List Event) (b : Bool) → bytes_eq id e.1 ≡ b → 0 < times_held id (e ∷ events)
    → (0 < times_held id events → (event : Event) × IsIn event events × (event.1 ≡ id)) → (event : Event) × IsIn event (e ∷ events) × (event.1 ≡ id)
held_here id e events true same more rest = (e, inl refl, sym (bytes_eq-true id e.1 same))
held_here id e events false other more rest =
    let found = rest (omega (arith, times_held-cons id e events false other)) in
    (found.0, inr found.1, found.2)

held_among : (id : List ℕ) (events : List Event) → 0 < times_held id events → (event : Event) × IsIn event events × (event.1 ≡ id)
held_among id [] more = absurd (omega arith)
held_among id (e ∷ events) more = held_here id e events (bytes_eq id e.1) refl more (λ more. held_among id events more)

one_command : (l : List Command) → is_nil l ≡ false → size l ≡ 1
one_command [] h = absurd (true≢false h)
one_command (c ∷ l) h = refl

running_is_held : (s : Settings) (h : List Command) (id : List ℕ) → IsLegal s h → is_running (standing_in s h id) ≡ true → (event : Event) × IsIn event (held h) × (event.1 ≡ id)
running_is_held s h id legal runs =
    let known : is_nil (life id h) ≡ false = sym (unknown-nil s h id) ∙ known_running (standing_in s h id) runs in
    let once : times_held id (held h) ≡ 1 = held_once s h legal id ∙ one_command (life id h) known in
    held_among id (held h) (omega arith)

-- ## Where nothing is to be interrupted

held_by_one : (s : Settings) (past : Past) (id : List ℕ) → IsLegal s past.history → first_unheld s past ≡ None → is_running (standing_in s past.history id) ≡ true
    → (environment : ℕ) × (holder s past id ≡ Some environment)
held_by_one s past id legal none runs =
    let found = running_is_held s past.history id legal runs in
    let at = all_held s past found.0 none found.1 (ap (λ v. is_running (standing_in s past.history v)) found.2 ∙ runs) in
    (at.0, ap (holder s past) (sym found.2) ∙ at.1)

-- a tick that interrupts nothing finds no such event
pub none_unheld : (s : Settings) (past : Past) (id : List ℕ) → IsLegal s past.history → first_unheld s past ≡ None → IsUnheld s past id → ⊥
none_unheld s past id legal none u =
    let at = held_by_one s past id legal none u.stands in
    none-some at.0 (sym u.alone ∙ at.1)

-- then what runs by the history runs in an environment
pub runs_somewhere : (s : Settings) (past : Past) (id : List ℕ) → AllAgree s past.wanted past.history (calls_of past) → first_unheld s past ≡ None → is_running (standing_in s past.history id) ≡ true
    → (environment : ℕ) × (running (calls_of past environment) ≡ Some id)
runs_somewhere s past id all none runs =
    let at = held_by_one s past id all.legal none runs in
    (at.0, holder_runs s past all id at.0 at.1)

free_at : (s : Settings) (past : Past) → AllAgree s past.wanted past.history (calls_of past) → first_unheld s past ≡ None → (ready : Option ℕ) → ready_in s past ≡ ready → IsFree s past.history ready
free_at s past all none None is = tt
free_at s past all none (Some environment) is =
    let chosen = ready_is s past environment is in
    (chosen.0.0, chosen.0.1, ready_is_free s past all none environment chosen.1)

-- and the environment that is ready, if one is, is one of the settings that runs nothing by the history
pub ready_is_free_in : (s : Settings) (past : Past) → AllAgree s past.wanted past.history (calls_of past) → first_unheld s past ≡ None → IsFree s past.history (ready_in s past)
ready_is_free_in s past all none = free_at s past all none (ready_in s past) refl

-- ## Where something is

-- a tick interrupts the first such event
pub tick_interrupts : (s : Settings) (past : Past) (now : ℕ) (event : Event) → is_stopping past ≡ false → first_unheld s past ≡ Some event
    → command_of s past (tick now) ≡ Some (command_for Interrupt event.1 (moment past now) [])
unfolding effect_of
tick_interrupts s past now event runs_on first = rw (runs_on, first) refl
