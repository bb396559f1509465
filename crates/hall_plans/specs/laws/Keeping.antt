-- Laws: which commands and calls of environments, made together, keep what environments hold in step with a history.
use Rattle.std.proofs.Common.{◌≡◌, ℕ, ◌+◌, ◌*◌, List, [], ◌∷◌, ◌++◌, Bool, true, false, ◌&&◌, cond, refl, sym, subst, ap, ◌∙◌, Option, Some, None, map, append_assoc, ◌==◌}
use Rattle.std.specs.Option.{option_or}
use Rattle.std.specs.Str.{bytes_eq}
use Rattle.std.proofs.lemmas.Bool.{true≢false, eqb-true, eqb-false}
use Rattle.std.proofs.lemmas.List.{append-nil}
use Rattle.std.proofs.lemmas.Option.{none-some}
use Rattle.retry_rules.specs.declared.settings.Settings.{Settings}
use Rattle.invoke_records.specs.declared.command.Command.{Command}
use Rattle.invoke_records.specs.declared.command.Kind.TheVariants.{Start}
use Rattle.invoke_records.specs.declared.row.Standing.TheVariants as standing
use Rattle.async_core.specs.Lives.{kind_is_collect, kind_names, names, life}
use Rattle.async_core.specs.Standings.{Rules, rules_with}
use Rattle.async_core.specs.History.{standing_in, standing_of, rules_of, refusal_of, IsLegal}
use Rattle.async_core.specs.laws.Lives.{life-snoc, last_or-snoc}
use Rattle.async_core.specs.laws.Held.{bytes_eq-true, bytes_eq-refl, unnamed, named_by}
use Rattle.async_core.specs.laws.Rows.{judged_kept}
use Rattle.async_core.specs.laws.Tables.{IsLegal-more}
use Rattle.env_phase.specs.declared.call.EnvCall.{EnvCall}
use Rattle.env_phase.specs.Environment.{running, deadline_of}
use Rattle.env_phase.specs.Calls.{given_by, ends_event, deadline_by}
use Rattle.env_phase.specs.declared.call.EnvCall.TheVariants as env
use Rattle.env_phase.specs.Polls.{refusal_of as env_refusal_of}
use Rattle.hall_plans.specs.Past.{calls_in}
use Rattle.hall_plans.specs.Agreement.{IsOne, RunsThere, Agrees, AllAgree}
use Rattle.env_phase.specs.laws.Calls.{unanswered_snoc, deadline_snoc}
use Rattle.env_phase.specs.laws.Accepted.{legal_more}
use Rattle.env_phase.specs.laws.Running.{shutdown_is_accepted}

-- ## Standings after one command more

kept_life : (collecting named : Bool) (l : List Command) (c : Command) → named ≡ false → cond (collecting && named) [] (l ++ cond named (c ∷ []) []) ≡ l
kept_life true true l c e = absurd (true≢false e)
kept_life true false l c e = append-nil l
kept_life false true l c e = absurd (true≢false e)
kept_life false false l c e = append-nil l

-- an event that a command does not name stands where it stood
pub stands_on : (s : Settings) (h : List Command) (c : Command) (id : List ℕ) → names id c ≡ false → standing_in s (h ++ c ∷ []) id ≡ standing_in s h id
unfolding standing_in
stands_on s h c id other =
    ap (λ p. standing_of (rules_with s p) (life id (h ++ c ∷ []))) (judged_kept s h c id other)
    ∙ ap (standing_of (rules_of s h id)) (life-snoc id h c ∙ kept_life (kind_is_collect c.kind) (names id c) (life id h) c other)

starts_life : (rules : Rules) (l : List Command) (c : Command) → c.kind ≡ Start → standing_of rules (l ++ c ∷ []) ≡ standing.Running c.environment (c.time + 1000 * rules.timeout)
starts_life rules l c start = rw (last_or-snoc None l c, start) refl

named_life : (id : List ℕ) (l : List Command) (c : Command) → names id c ≡ true → kind_is_collect c.kind ≡ false
    → cond (kind_is_collect c.kind && names id c) [] (l ++ cond (names id c) (c ∷ []) []) ≡ l ++ c ∷ []
named_life id l c named kept = rw (named, kept) refl

-- an event that a command starts runs from then on
pub runs_from : (s : Settings) (h : List Command) (c : Command) → c.kind ≡ Start → standing_in s (h ++ c ∷ []) c.id ≡ standing.Running c.environment (c.time + 1000 * s.timeout)
unfolding standing_in
runs_from s h c start =
    let rules = rules_of s (h ++ c ∷ []) c.id in
    ap (standing_of rules) (life-snoc c.id h c ∙ named_life c.id (life c.id h) c (named_by c.id c (ap kind_names start) (bytes_eq-refl c.id)) (ap kind_is_collect start))
    ∙ starts_life rules (life c.id h) c start

-- ## One environment

running_snoc : (calls : List EnvCall) (c : EnvCall) → running (calls ++ c ∷ []) ≡ cond (ends_event c) None (option_or (given_by c) (running calls))
running_snoc calls c = unanswered_snoc calls c

other_runs : (s : Settings) (h : List Command) (c : Command) (environment : ℕ) (calls : List EnvCall) (id : List ℕ) (b : Bool) → bytes_eq id c.id ≡ b
    → (running calls ≡ Some c.id → ⊥) → running calls ≡ Some id → RunsThere s h environment calls id → RunsThere s (h ++ c ∷ []) environment calls id
other_runs s h c environment calls id true same never runs there = absurd (never (runs ∙ ap (λ v. Some v) (bytes_eq-true id c.id same)))
other_runs s h c environment calls id false same never runs there = record {
  deadline = there.deadline;
  given = there.given;
  stands = stands_on s h c id (unnamed id c same) ∙ there.stands;
  one = there.one;
}

-- a command for an event that the environment does not run
pub agrees_after_command : (s : Settings) {wanted : ℕ} (h : List Command) (c : Command) (environment : ℕ) (calls : List EnvCall) → (running calls ≡ Some c.id → ⊥)
    → Agrees s wanted h environment calls → Agrees s wanted (h ++ c ∷ []) environment calls
agrees_after_command s h c environment calls never agreed = record {
  accepted = agreed.accepted;
  runs = λ id runs. other_runs s h c environment calls id (bytes_eq id c.id) refl never runs (agreed.runs id runs);
}

no_deadline : (c : EnvCall) → given_by c ≡ None → deadline_by c ≡ None
no_deadline (env.RuntimeNext slot) h = refl
no_deadline (env.Register identifier events end) h = refl
no_deadline (env.ExtensionNext identifier slot) h = refl
no_deadline (env.Give id deadline) h = absurd (none-some id (sym h))
no_deadline (env.Answer id) h = refl
no_deadline (env.InitError now) h = refl
no_deadline (env.ExtensionError identifier in_init now) h = refl
no_deadline (env.Timeout now) h = refl
no_deadline (env.Shutdown now) h = refl

ran_before : (ends : Bool) (before : Option (List ℕ)) (id : List ℕ) → cond ends None (option_or None before) ≡ Some id → before ≡ Some id
ran_before true before id h = absurd (none-some id h)
ran_before false before id h = h

-- a call that gives no event
pub agrees_after_call : (s : Settings) {wanted : ℕ} (h : List Command) (environment : ℕ) (calls : List EnvCall) (c : EnvCall) → env_refusal_of wanted calls c ≡ None → given_by c ≡ None
    → Agrees s wanted h environment calls → Agrees s wanted h environment (calls ++ c ∷ [])
agrees_after_call s {wanted = wanted} h environment calls c passes gives_none agreed = record {
  accepted = legal_more wanted calls c agreed.accepted passes;
  runs = λ id runs.
      let was : cond (ends_event c) None (option_or (given_by c) (running calls)) ≡ Some id = sym (running_snoc calls c) ∙ runs in
      let before : running calls ≡ Some id = ran_before (ends_event c) (running calls) id (rw gives_none at was) in
      let there = agreed.runs id before in
      record {
        deadline = there.deadline;
        given = deadline_snoc calls c ∙ ap (λ o. option_or o (deadline_of calls)) (no_deadline c gives_none) ∙ there.given;
        stands = there.stands;
        one = there.one;
      };
}

-- a call that ends what the environment runs, whatever the history is then
pub agrees_after_end : (s : Settings) {wanted : ℕ} (h later : List Command) (environment : ℕ) (calls : List EnvCall) (c : EnvCall) → env_refusal_of wanted calls c ≡ None → ends_event c ≡ true
    → Agrees s wanted h environment calls → Agrees s wanted later environment (calls ++ c ∷ [])
agrees_after_end s {wanted = wanted} h later environment calls c passes ends agreed = record {
  accepted = legal_more wanted calls c agreed.accepted passes;
  runs = λ id runs.
      let gone : running (calls ++ c ∷ []) ≡ None = running_snoc calls c ∙ ap (λ b. cond b None (option_or (given_by c) (running calls))) ends in
      absurd (none-some id (sym gone ∙ runs));
}

-- an event is given that runs there by the history
pub agrees_after_give : (s : Settings) {wanted : ℕ} (h later : List Command) (environment : ℕ) (calls : List EnvCall) (id : List ℕ) (deadline : ℕ)
    → env_refusal_of wanted calls (env.Give id deadline) ≡ None → IsOne s environment → standing_in s later id ≡ standing.Running environment deadline
    → Agrees s wanted h environment calls → Agrees s wanted later environment (calls ++ env.Give id deadline ∷ [])
agrees_after_give s {wanted = wanted} h later environment calls id deadline passes one stands agreed = record {
  accepted = legal_more wanted calls (env.Give id deadline) agreed.accepted passes;
  runs = λ other runs.
      let given_so : Some id ≡ Some other = sym (running_snoc calls (env.Give id deadline)) ∙ runs in
      let is : id ≡ other = cc in
      record {
        deadline = deadline;
        given = deadline_snoc calls (env.Give id deadline);
        stands = ap (standing_in s later) (sym is) ∙ stands;
        one = one;
      };
}

-- ## All environments

-- a call of one of them
pub by_environment : (P : ℕ → List EnvCall → Type 0) (at : ℕ) (c : EnvCall) (calls : ℕ → List EnvCall) → P at (calls at ++ c ∷ [])
    → ((environment : ℕ) → (at ≡ environment → ⊥) → P environment (calls environment)) → (environment : ℕ) → P environment (calls environment ++ calls_in environment ((at, c) ∷ []))
by_environment P at c calls here others environment = go (at == environment) refl
  where
    go : (t : Bool) → (at == environment) ≡ t → P environment (calls environment ++ map (λ (m : ℕ × EnvCall). m.1) (cond t ((at, c) ∷ []) []))
    go true same = subst (λ v. P v (calls v ++ c ∷ [])) (eqb-true at environment same) here
    go false apart = subst (P environment) (sym (append-nil (calls environment))) (others environment (eqb-false at environment apart))

module _ (s : Settings) {wanted : ℕ} (h : List Command) (calls : ℕ → List EnvCall) (all : AllAgree s wanted h calls) where
  -- nothing is done
  pub keeps_nothing : AllAgree s wanted (h ++ []) (λ environment. calls environment ++ [])
  keeps_nothing = record {
    legal = subst (IsLegal s) (sym (append-nil h)) all.legal;
    each = λ environment. rw (append-nil (calls environment), append-nil h) (all.each environment);
  }

  -- a command alone, for an event that no environment runs
  pub keeps_command : (c : Command) → refusal_of s h c ≡ None → ((environment : ℕ) → running (calls environment) ≡ Some c.id → ⊥)
      → AllAgree s wanted (h ++ c ∷ []) (λ environment. calls environment ++ [])
  keeps_command c passes never = record {
    legal = IsLegal-more s h c all.legal passes;
    each = λ environment. rw (append-nil (calls environment)) (agrees_after_command s h c environment (calls environment) (never environment) (all.each environment));
  }

  -- a call alone that gives no event
  pub keeps_call : (at : ℕ) (c : EnvCall) → env_refusal_of wanted (calls at) c ≡ None → given_by c ≡ None
      → AllAgree s wanted (h ++ []) (λ environment. calls environment ++ calls_in environment ((at, c) ∷ []))
  keeps_call at c passes gives_none = record {
    legal = subst (IsLegal s) (sym (append-nil h)) all.legal;
    each = by_environment (λ environment l. Agrees s wanted (h ++ []) environment l) at c calls
        (rw (append-nil h) (agrees_after_call s h at (calls at) c passes gives_none (all.each at)))
        (λ environment apart. rw (append-nil h) (all.each environment));
  }

  -- an event runs in one environment at most
  pub runs_in_one : (a b : ℕ) (id : List ℕ) → running (calls a) ≡ Some id → running (calls b) ≡ Some id → a ≡ b
  runs_in_one a b id at_a at_b =
      let x = (all.each a).runs id at_a in
      let y = (all.each b).runs id at_b in
      let same : standing.Running a x.deadline ≡ standing.Running b y.deadline = sym x.stands ∙ y.stands in
      cc

  -- a command and a call that ends the event that it names in the environment that runs it
  pub keeps_end : (c : Command) (at : ℕ) (call : EnvCall) → running (calls at) ≡ Some c.id → refusal_of s h c ≡ None → env_refusal_of wanted (calls at) call ≡ None → ends_event call ≡ true
      → AllAgree s wanted (h ++ c ∷ []) (λ environment. calls environment ++ calls_in environment ((at, call) ∷ []))
  keeps_end c at call runs passes accepted ends = record {
    legal = IsLegal-more s h c all.legal passes;
    each = by_environment (λ environment l. Agrees s wanted (h ++ c ∷ []) environment l) at call calls
        (agrees_after_end s h (h ++ c ∷ []) at (calls at) call accepted ends (all.each at))
        (λ environment apart.
        agrees_after_command s h c environment (calls environment) (λ too. apart (runs_in_one at environment c.id runs too)) (all.each environment));
  }

  -- a start and the give of its event, which no environment runs
  pub keeps_start : (c : Command) (deadline : ℕ) → c.kind ≡ Start → deadline ≡ c.time + 1000 * s.timeout → IsOne s c.environment → refusal_of s h c ≡ None
      → env_refusal_of wanted (calls c.environment) (env.Give c.id deadline) ≡ None → ((environment : ℕ) → running (calls environment) ≡ Some c.id → ⊥)
      → AllAgree s wanted (h ++ c ∷ []) (λ environment. calls environment ++ calls_in environment ((c.environment, env.Give c.id deadline) ∷ []))
  keeps_start c deadline start until one passes accepted never = record {
    legal = IsLegal-more s h c all.legal passes;
    each = by_environment (λ environment l. Agrees s wanted (h ++ c ∷ []) environment l) c.environment (env.Give c.id deadline) calls
        (agrees_after_give s h (h ++ c ∷ []) c.environment (calls c.environment) c.id deadline accepted one
        (runs_from s h c start ∙ ap (standing.Running c.environment) (sym until)) (all.each c.environment))
        (λ environment apart. agrees_after_command s h c environment (calls environment) (never environment) (all.each environment));
  }

  abbrev shutdowns : ℕ → List ℕ → List (ℕ × EnvCall)
  shutdowns now numbers = map (λ (number : ℕ). (number, env.Shutdown now)) numbers

  shut_one : (now environment number : ℕ) (numbers : List ℕ) (l : List EnvCall) (t : Bool) → (number == environment) ≡ t → Agrees s wanted h environment l
      → ((l : List EnvCall) → Agrees s wanted h environment l → Agrees s wanted h environment (l ++ calls_in environment (shutdowns now numbers)))
      → Agrees s wanted h environment (l ++ calls_in environment (shutdowns now (number ∷ numbers)))
  shut_one now environment number numbers l true same agreed rest =
      rw same
      (subst (Agrees s wanted h environment) (append_assoc l (env.Shutdown now ∷ []) (calls_in environment (shutdowns now numbers)))
      (rest (l ++ env.Shutdown now ∷ []) (agrees_after_call s h environment l (env.Shutdown now) (shutdown_is_accepted wanted l now) refl agreed)))
  shut_one now environment number numbers l false apart agreed rest = rw apart (rest l agreed)

  shut : (now environment : ℕ) (numbers : List ℕ) (l : List EnvCall) → Agrees s wanted h environment l → Agrees s wanted h environment (l ++ calls_in environment (shutdowns now numbers))
  shut now environment [] l agreed = rw (append-nil l) agreed
  shut now environment (number ∷ numbers) l agreed = shut_one now environment number numbers l (number == environment) refl agreed (λ l agreed. shut now environment numbers l agreed)

  -- a shutdown of each of these environments
  pub keeps_shutdown : (now : ℕ) (numbers : List ℕ)
      → AllAgree s wanted (h ++ []) (λ environment. calls environment ++ calls_in environment (map (λ (number : ℕ). (number, env.Shutdown now)) numbers))
  keeps_shutdown now numbers = record {
    legal = subst (IsLegal s) (sym (append-nil h)) all.legal;
    each = λ environment. rw (append-nil h) (shut now environment numbers (calls environment) (all.each environment));
  }
