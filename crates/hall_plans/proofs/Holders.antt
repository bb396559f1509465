-- Lemmas: the environment that holds an event is the one in which it runs by the history.
use Rattle.std.proofs.Common.{◌≡◌, ◌↔◌, IsTrue, ℕ, List, Bool, true, false, refl, sym, ap, subst, ◌∙◌, Option, Some, None}
use Rattle.std.proofs.lemmas.Bool.{true≢false}
use Rattle.std.proofs.lemmas.Option.{none-some, same_Some}
use Rattle.env_phase.specs.Environment.{running, runs}
use Rattle.async_core.specs.History.{standing_in}
use Rattle.retry_rules.specs.declared.settings.Settings.{Settings}
use Rattle.hall_plans.specs.Past.{Past, environments, calls_of, holder}
use Rattle.hall_plans.specs.Agreement.{IsOne, AllAgree}
use Rattle.hall_plans.specs.Steps.{environment_of}
use Rattle.hall_plans.specs.laws.Choosing.{find_none, runs_is, is_runs, one_in, holder_runs}
use Rattle.hall_plans.specs.laws.Keeping.{runs_in_one}

module _ (s : Settings) (past : Past) (all : AllAgree s past.wanted past.history (calls_of past)) (id : List ℕ) where
  abbrev Runs : ℕ → Type 0
  Runs environment = running (calls_of past environment) ≡ Some id

  same_holder : (environment : ℕ) → Runs environment → (o : Option ℕ) → holder s past id ≡ o → o ≡ Some environment
  same_holder environment runs_it None none =
      let one : IsOne s environment = ((all.each environment).runs id runs_it).one in
      absurd (true≢false (sym (is_runs (calls_of past environment) id runs_it) ∙ find_none (λ (e : ℕ). runs (calls_of past e) id) (environments s) environment none (one_in s environment one)))
  same_holder environment runs_it (Some other) is =
      ap (λ e. Some e) (runs_in_one s past.history (calls_of past) all other environment id (holder_runs s past all id other is) runs_it)

  -- an environment that runs the event is the one that holds it
  pub holder_is : (environment : ℕ) → Runs environment → holder s past id ≡ Some environment
  holder_is environment runs_it = same_holder environment runs_it (holder s past id) refl

  -- what holds the event is where it runs by the history, is one of the settings, and runs it
  abbrev IsHolder : ℕ → Type 0
  IsHolder environment = (environment_of (standing_in s past.history id) ≡ Some environment) × IsOne s environment × Runs environment

  is_holder : (environment : ℕ) → holder s past id ≡ Some environment → IsHolder environment
  is_holder environment is =
      let runs_it = holder_runs s past all id environment is in
      let there = (all.each environment).runs id runs_it in
      (ap environment_of there.stands, there.one, runs_it)

  no_holder : ((environment : ℕ) → IsHolder environment → ⊥) → (o : Option ℕ) → holder s past id ≡ o → o ≡ None
  no_holder never None is = refl
  no_holder never (Some environment) is = absurd (never environment (is_holder environment is))

  -- an event that runs nowhere by the history has no holder
  pub unplaced : environment_of (standing_in s past.history id) ≡ None → holder s past id ≡ None
  unplaced rests = no_holder (λ environment h. none-some environment (sym rests ∙ h.0)) (holder s past id) refl

  -- an event has no holder where its environment does not run it
  pub not_there : (environment : ℕ) → environment_of (standing_in s past.history id) ≡ Some environment → (IsOne s environment × Runs environment → ⊥) → holder s past id ≡ None
  not_there environment placed apart =
      no_holder
      (λ other h.
      let same : other ≡ environment = same_Some other environment (sym h.0 ∙ placed) in
      apart (subst (λ e. IsOne s e × Runs e) same (h.1, h.2))) (holder s past id) refl

-- whether an environment of the settings runs an event, as its table of calls says it
pub holds_is : (s : Settings) (past : Past) (environment : ℕ) (id : List ℕ) (b : Bool) → IsOne s environment → b ≡ runs (calls_of past environment) id
    → IsTrue b ↔ (IsOne s environment × (running (calls_of past environment) ≡ Some id))
holds_is s past environment id true one is = ((λ so. (one, runs_is (calls_of past environment) id (sym is))), (λ so. refl))
holds_is s past environment id false one is =
    ((λ so. absurd (true≢false (sym so))), (λ (one, runs_it). absurd (true≢false (sym (is_runs (calls_of past environment) id runs_it) ∙ sym is))))
