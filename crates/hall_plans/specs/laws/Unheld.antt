-- Laws: no call leaves an event running by the history that no environment holds, save those that were so before.
use Rattle.std.proofs.Common.{◌≡◌, ℕ, ◌+◌, List, [], ◌∷◌, ◌++◌, Bool, true, false, ◌&&◌, cond, refl, sym, subst, ap, ◌∙◌, Some, None, map, append_assoc, ◌==◌, nat_lt, if◌then◌else◌}
use Rattle.std.specs.Option.{option_or}
use Rattle.std.specs.Str.{bytes_eq}
use Rattle.std.proofs.lemmas.Bool.{true≢false}
use Rattle.std.proofs.lemmas.List.{append-nil}
use Rattle.std.proofs.lemmas.Option.{none-some}
use Rattle.retry_rules.specs.declared.settings.Settings.{Settings}
use Rattle.invoke_records.specs.declared.command.Command.{Command}
use Rattle.invoke_records.specs.declared.command.Kind.{Kind}
use Rattle.invoke_records.specs.declared.command.Kind.TheVariants.{Accept, Start, Succeed, Fail, Throttle, Interrupt, Expire, Collect, Configure}
use Rattle.invoke_records.specs.declared.row.Outcome.TheVariants.{RetriesExhausted}
use Rattle.invoke_records.specs.declared.row.Standing.TheVariants as standing
use Rattle.async_core.specs.Lives.{kind_is_start, kind_is_collect, kind_names, names, life, failures, push_backs}
use Rattle.async_core.specs.Standings.{Rules, standing_by, after_failure, is_running}
use Rattle.async_core.specs.History.{standing_in, standing_of, rules_of}
use Rattle.async_core.specs.laws.Lives.{life-snoc, last_or-snoc}
use Rattle.async_core.specs.laws.Held.{bytes_eq-refl, named_id, named_by}
use Rattle.env_phase.specs.declared.call.EnvCall.{EnvCall}
use Rattle.env_phase.specs.Environment.{running}
use Rattle.env_phase.specs.Calls.{given_by, ends_event}
use Rattle.env_phase.specs.declared.call.EnvCall.TheVariants as env
use Rattle.env_phase.specs.laws.Calls.{unanswered_snoc}
use Rattle.hall_plans.specs.Past.{calls_in}
use Rattle.hall_plans.specs.laws.Keeping.{stands_on, by_environment}

-- ## Which events

-- an event that runs by this history, and that no environment runs by these calls
pub record RunsAlone (s : Settings) (h : List Command) (calls : ℕ → List EnvCall) (id : List ℕ) : Type 0 where
  pub stands : is_running (standing_in s h id) ≡ true
  pub alone : (environment : ℕ) → running (calls environment) ≡ Some id → ⊥

-- ## Standings after a command

rests_by : (rules : Rules) (failures push_backs : ℕ) (c : Command) (k : Kind) → kind_is_start k ≡ false → is_running (standing_by rules failures push_backs c k) ≡ false
rests_by rules failures push_backs c Accept h = refl
rests_by rules failures push_backs c Start h = absurd (true≢false h)
rests_by rules failures push_backs c Succeed h = refl
rests_by rules failures push_backs c (Fail cause) h = failed_by (nat_lt rules.retries failures)
  where
    failed_by : (b : Bool) → is_running (if b then standing.Ended RetriesExhausted c.time else standing.DueAgain (c.time + after_failure failures)) ≡ false
    failed_by true = refl
    failed_by false = refl
rests_by rules failures push_backs c Throttle h = refl
rests_by rules failures push_backs c Interrupt h = refl
rests_by rules failures push_backs c Expire h = refl
rests_by rules failures push_backs c Collect h = refl
rests_by rules failures push_backs c (Configure policy) h = refl

rests_life : (rules : Rules) (collecting named : Bool) (l : List Command) (c : Command) → named ≡ true → kind_is_start c.kind ≡ false
    → is_running (standing_of rules (cond (collecting && named) [] (l ++ cond named (c ∷ []) []))) ≡ false
rests_life rules true true l c e h = refl
rests_life rules collecting false l c e h = absurd (true≢false (sym e))
rests_life rules false true l c e h =
    rw (last_or-snoc None l c) (rests_by rules (failures (l ++ c ∷ [])) (push_backs (l ++ c ∷ [])) c c.kind h)

-- the event of a command that is no Start does not run after it
pub rests_after : (s : Settings) (h : List Command) (c : Command) (id : List ℕ) → names id c ≡ true → kind_is_start c.kind ≡ false → is_running (standing_in s (h ++ c ∷ []) id) ≡ false
unfolding standing_in
rests_after s h c id named no_start =
    let rules = rules_of s (h ++ c ∷ []) id in
    ap (λ l. is_running (standing_of rules l)) (life-snoc id h c) ∙ rests_life rules (kind_is_collect c.kind) (names id c) (life id h) c named no_start

-- an event that runs after such a command ran before it, and is not the one that it names
ran_before : (s : Settings) (h : List Command) (c : Command) (id : List ℕ) → kind_is_start c.kind ≡ false → is_running (standing_in s (h ++ c ∷ []) id) ≡ true
    → (b : Bool) → names id c ≡ b → (is_running (standing_in s h id) ≡ true) × (names id c ≡ false)
ran_before s h c id no_start runs true named = absurd (true≢false (sym runs ∙ rests_after s h c id named no_start))
ran_before s h c id no_start runs false other = (ap is_running (sym (stands_on s h c id other)) ∙ runs, other)

not_named : (id : List ℕ) (c : Command) → kind_names c.kind ≡ true → names id c ≡ false → id ≡ c.id → ⊥
not_named id c event other is = true≢false (sym (named_by id c event (ap (λ v. bytes_eq v c.id) is ∙ bytes_eq-refl c.id)) ∙ other)

same_id : (a b : List ℕ) → Some a ≡ Some b → a ≡ b
same_id a b h = cc

-- ## Calls of environments

-- what an environment ran it still runs
abbrev StillRuns : List ℕ → (ℕ → List EnvCall) → ℕ → List EnvCall → Type 0
StillRuns id calls environment l = running (calls environment) ≡ Some id → running l ≡ Some id

runs_on : (calls : List EnvCall) (c : EnvCall) (id : List ℕ) (b : Bool) → ends_event c ≡ b → given_by c ≡ None → (ends_event c ≡ true → running calls ≡ None) → running calls ≡ Some id
    → running (calls ++ c ∷ []) ≡ Some id
runs_on calls c id true ends gives_none idle runs = absurd (none-some id (sym (idle ends) ∙ runs))
runs_on calls c id false ends gives_none idle runs =
    unanswered_snoc calls c ∙ ap (λ b. cond b None (option_or (given_by c) (running calls))) ends ∙ ap (λ o. option_or o (running calls)) gives_none ∙ runs

module _ (s : Settings) (h : List Command) (calls : ℕ → List EnvCall) (id : List ℕ) where
  pub alone_nothing : RunsAlone s (h ++ []) (λ environment. calls environment ++ []) id → RunsAlone s h calls id
  alone_nothing u = record {
    stands = ap (λ l. is_running (standing_in s l id)) (sym (append-nil h)) ∙ u.stands;
    alone = λ environment runs. u.alone environment (ap running (append-nil (calls environment)) ∙ runs);
  }

  -- a command alone that is no Start
  pub alone_command : (c : Command) → kind_is_start c.kind ≡ false → RunsAlone s (h ++ c ∷ []) (λ environment. calls environment ++ []) id → RunsAlone s h calls id
  alone_command c no_start u = record {
    stands = (ran_before s h c id no_start u.stands (names id c) refl).0;
    alone = λ environment runs. u.alone environment (ap running (append-nil (calls environment)) ∙ runs);
  }

  -- a call alone that gives nothing, and ends nothing that runs
  pub alone_call : (at : ℕ) (c : EnvCall) → given_by c ≡ None → (ends_event c ≡ true → running (calls at) ≡ None)
      → RunsAlone s (h ++ []) (λ environment. calls environment ++ calls_in environment ((at, c) ∷ [])) id → RunsAlone s h calls id
  alone_call at c gives_none idle u = record {
    stands = ap (λ l. is_running (standing_in s l id)) (sym (append-nil h)) ∙ u.stands;
    alone = λ environment runs.
        u.alone environment
        (by_environment (StillRuns id calls) at c calls (runs_on (calls at) c id (ends_event c) refl gives_none idle) (λ environment apart runs. runs) environment runs);
  }

  -- a command and a call for the event that the environment runs
  pub alone_end : (c : Command) (at : ℕ) (call : EnvCall) → kind_names c.kind ≡ true → kind_is_start c.kind ≡ false → running (calls at) ≡ Some c.id
      → RunsAlone s (h ++ c ∷ []) (λ environment. calls environment ++ calls_in environment ((at, call) ∷ [])) id → RunsAlone s h calls id
  alone_end c at call event no_start runs_it u =
      let before = ran_before s h c id no_start u.stands (names id c) refl in
      record {
        stands = before.0;
        alone = λ environment runs.
            u.alone environment
            (by_environment (StillRuns id calls) at call calls (λ here. absurd (not_named id c event before.1 (same_id id c.id (sym here ∙ runs_it)))) (λ environment apart runs. runs) environment runs);
      }

  started_other : (c : Command) (at deadline : ℕ) → running (calls at) ≡ None
      → RunsAlone s (h ++ c ∷ []) (λ environment. calls environment ++ calls_in environment ((at, env.Give c.id deadline) ∷ [])) id
      → (b : Bool) → names id c ≡ b → RunsAlone s h calls id
  started_other c at deadline idle u true named =
      absurd (u.alone at
      (by_environment (λ environment l. at ≡ environment → running l ≡ Some id) at (env.Give c.id deadline) calls
      (λ same. unanswered_snoc (calls at) (env.Give c.id deadline) ∙ ap (λ v. Some v) (sym (named_id id c named)))
      (λ environment apart same. absurd (apart same)) at refl))
  started_other c at deadline idle u false other = record {
    stands = ap is_running (sym (stands_on s h c id other)) ∙ u.stands;
    alone = λ environment runs.
        u.alone environment
        (by_environment (StillRuns id calls) at (env.Give c.id deadline) calls (λ here. absurd (none-some id (sym idle ∙ here))) (λ environment apart runs. runs) environment runs);
  }

  -- a command and the give of its event to an environment that runs nothing
  pub alone_start : (c : Command) (at deadline : ℕ) → running (calls at) ≡ None
      → RunsAlone s (h ++ c ∷ []) (λ environment. calls environment ++ calls_in environment ((at, env.Give c.id deadline) ∷ [])) id → RunsAlone s h calls id
  alone_start c at deadline idle u = started_other c at deadline idle u (names id c) refl

  abbrev shutdowns : ℕ → List ℕ → List (ℕ × EnvCall)
  shutdowns now numbers = map (λ (number : ℕ). (number, env.Shutdown now)) numbers

  shut_one : (now environment number : ℕ) (numbers : List ℕ) (l : List EnvCall) (t : Bool) → (number == environment) ≡ t → running l ≡ Some id
      → ((l : List EnvCall) → running l ≡ Some id → running (l ++ calls_in environment (shutdowns now numbers)) ≡ Some id)
      → running (l ++ calls_in environment (shutdowns now (number ∷ numbers))) ≡ Some id
  shut_one now environment number numbers l true same runs rest =
      rw same
      (subst (λ l. running l ≡ Some id) (append_assoc l (env.Shutdown now ∷ []) (calls_in environment (shutdowns now numbers)))
      (rest (l ++ env.Shutdown now ∷ []) (unanswered_snoc l (env.Shutdown now) ∙ runs)))
  shut_one now environment number numbers l false apart runs rest = rw apart (rest l runs)

  shut : (now environment : ℕ) (numbers : List ℕ) (l : List EnvCall) → running l ≡ Some id → running (l ++ calls_in environment (shutdowns now numbers)) ≡ Some id
  shut now environment [] l runs = ap running (append-nil l) ∙ runs
  shut now environment (number ∷ numbers) l runs = shut_one now environment number numbers l (number == environment) refl runs (λ l runs. shut now environment numbers l runs)

  pub alone_shutdown : (now : ℕ) (numbers : List ℕ)
      → RunsAlone s (h ++ []) (λ environment. calls environment ++ calls_in environment (map (λ (number : ℕ). (number, env.Shutdown now)) numbers)) id → RunsAlone s h calls id
  alone_shutdown now numbers u = record {
    stands = ap (λ l. is_running (standing_in s l id)) (sym (append-nil h)) ∙ u.stands;
    alone = λ environment runs. u.alone environment (shut now environment numbers (calls environment) runs);
  }
