-- Laws: the phase that is shown, and how many are parked, by what a body keeps.
use Rattle.std.proofs.Common.{◌≡◌, ℕ, ◌+◌, List, [], ◌∷◌, map, cond, refl, sym, ap, ◌∙◌}
use Rattle.std.specs.Prelude.{count_by, is_some}
use Rattle.std.proofs.lemmas.List.Sums.{sum_by-cons}
use Rattle.env_phase.specs.declared.call.Party.{Party}
use Rattle.env_phase.specs.declared.call.Waiter.{Waiter}
use Rattle.env_phase.specs.declared.call.EnvCall.{EnvCall}
use Rattle.env_phase.specs.Calls.{runtime}
use Rattle.env_phase.specs.Environment.{registered, parties, is_parked, phase_of}
use Rattle.env_phase.specs.Polls.{waiter_of}
use Rattle.env_phase.specs.State.{EnvState, state_of, StandsFor}
use Rattle.env_phase.specs.Steps.{is_parked_at, phase_in}
use Rattle.env_phase.specs.laws.States.{phase_kept}

pub phase_in_kept : (e : EnvState) (calls : List EnvCall) → StandsFor e calls → phase_in e ≡ phase_of e.wanted calls
phase_in_kept e calls stands = ap phase_in stands.1 ∙ phase_kept e.wanted e.number calls

-- how many parties are parked, by what is kept of them
abbrev pub parked_in : EnvState → ℕ
parked_in e = cond (is_some e.runtime_slot) 1 0 + count_by is_parked_at e.extensions

count_kept : (calls : List EnvCall) (ps : List Party) → count_by is_parked_at (map (waiter_of calls) ps) ≡ count_by (is_parked calls) ps
count_kept calls [] = refl
count_kept calls (p ∷ ps) =
    sum_by-cons (λ (w : Waiter). cond (is_parked_at w) 1 0) (waiter_of calls p) (map (waiter_of calls) ps)
    ∙ ap (λ n. cond (is_parked calls p) 1 0 + n) (count_kept calls ps)
    ∙ sym (sum_by-cons (λ (q : Party). cond (is_parked calls q) 1 0) p ps)

count_of_state : (wanted number : ℕ) (calls : List EnvCall) → parked_in (state_of wanted number calls) ≡ count_by (is_parked calls) (parties calls)
unfolding state_of
count_of_state wanted number calls =
    ap (λ n. cond (is_parked calls runtime) 1 0 + n) (count_kept calls (registered calls))
    ∙ sym (sum_by-cons (λ (q : Party). cond (is_parked calls q) 1 0) runtime (registered calls))

pub parked_kept : (e : EnvState) (calls : List EnvCall) → StandsFor e calls → parked_in e ≡ count_by (is_parked calls) (parties calls)
parked_kept e calls stands = ap parked_in stands.1 ∙ count_of_state e.wanted e.number calls
