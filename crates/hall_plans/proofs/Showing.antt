-- Lemmas: environments as they are shown, one more at a time.
use Rattle.std.proofs.Common.{◌≡◌, ℕ, ◌+◌, List, [], ◌∷◌, ◌++◌, refl, sym, ap, subst, ◌∙◌, arith, Some}
use Rattle.std.specs.Prelude.{slice_get}
use Rattle.std.specs.List.{range_with_len}
use Rattle.std.proofs.lemmas.List.{map_push}
use Rattle.std.proofs.lemmas.List.Elements.{All-push}
use Rattle.env_phase.specs.State.{EnvState, ForEachList}
use Rattle.hall_plans.specs.declared.environment_status.EnvironmentStatus.{EnvironmentStatus}
use Rattle.hall_plans.specs.Past.{calls_in}
use Rattle.hall_plans.specs.Environments.{AreNumbered, ForEachMade}
use Rattle.hall_plans.specs.Showing.{IsShownAfter, AreShownAfter, numbers_shown}
use Rattle.hall_plans.proofs.Places.{range_more}
use Rattle.hall_plans.proofs.Holding.{so_of_calls}

-- so many are shown: each with its number, and as its calls leave it
pub record ShownSoFar (envs : List EnvState) (statuses : List EnvironmentStatus) (so_far : ℕ) : Type 0 where
  pub numbers : numbers_shown statuses ≡ range_with_len 1 so_far
  pub each : ForEachMade envs (λ wanted made. AreShownAfter wanted (λ n. calls_in n made) statuses)

-- the next one is shown
pub one_more_shown : (envs : List EnvState) (statuses : List EnvironmentStatus) (i : ℕ) (env : EnvState) (status : EnvironmentStatus) → AreNumbered envs
    → slice_get envs i ≡ Some env → status.number ≡ env.number → ForEachList env (λ calls. IsShownAfter env.wanted calls status)
    → ShownSoFar envs statuses i → ShownSoFar envs (statuses ++ status ∷ []) (i + 1)
one_more_shown envs statuses i env status numbered here number shown before =
    let its : status.number ≡ i + 1 = number ∙ numbered i env here in
    record {
      numbers =
          map_push (λ (l : EnvironmentStatus). l.number) statuses status
          ∙ ap (λ ns. ns ++ status.number ∷ []) before.numbers
          ∙ ap (λ n. range_with_len 1 i ++ n ∷ []) its
          ∙ sym (range_more 1 i (i + 1) (omega arith));
      each = λ wanted made hold.
          All-push (λ (l : EnvironmentStatus). IsShownAfter wanted (calls_in l.number made) l) statuses status (before.each wanted made hold)
          (subst (λ n. IsShownAfter wanted (calls_in n made) status) (sym its)
          (so_of_calls envs i env (λ w calls. IsShownAfter w calls status) here shown wanted made hold));
    }
