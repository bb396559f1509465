-- Laws: what is known of the environment or the event that a hall chooses, and that where none is chosen none fits.
use Rattle.std.proofs.Common.{◌≡◌, ℕ, zero, suc, ◌+◌, ◌<◌, ◌≤◌, List, [], ◌∷◌, Bool, true, false, not, ◌&&◌, cond, refl, sym, subst, ap, ◌∙◌, arith, Option, Some, None, ◌⊎◌, inl, inr, if◌then◌else◌, ◌==◌}
use Rattle.std.specs.Prelude.{find, is_some, option_map}
use Rattle.std.specs.List.{AllByRecursion, cons_option, filter_map, list_any, range_with_len}
use Rattle.std.proofs.lemmas.Bool.{true≢false, false_from_ne_true, cases_lt, eqb-true}
use Rattle.std.proofs.lemmas.Option.{none-some}
use Rattle.retry_rules.specs.declared.settings.Settings.{Settings}
use Rattle.invoke_records.specs.declared.row.Standing.{Standing}
use Rattle.invoke_records.specs.declared.row.Standing.TheVariants as standing
use Rattle.async_core.specs.Standings.{is_running, runs_in}
use Rattle.async_core.specs.History.{held, standing_in, is_busy_in}
use Rattle.async_core.specs.laws.Held.{bytes_eq-true, bytes_eq-refl}
use Rattle.env_phase.specs.declared.call.EnvCall.{EnvCall}
use Rattle.env_phase.specs.Environment.{running, runs, is_ready}
use Rattle.env_phase.specs.Calls.{has_identifier}
use Rattle.env_phase.specs.laws.Running.{ready_runs_nothing}
use Rattle.hall_plans.specs.Past.{Past, environments, calls_of, holder, ready_in}
use Rattle.hall_plans.specs.Firsts.{Event, sooner, first_ranked, ranked, first_by, unheld_rank, first_unheld}
use Rattle.hall_plans.specs.Agreement.{IsUnheld, IsOne, AllAgree}
use Rattle.hall_plans.specs.laws.Ranks.{IsIn, Holds, first_has}

-- ## The first that passes

found_here : {A : Type 0} (p : A → Bool) (y x : A) (ys : List A) (t : Bool) → p y ≡ t → (find p ys ≡ Some x → (p x ≡ true) × IsIn x ys)
    → cond t (Some y) (find p ys) ≡ Some x → (p x ≡ true) × IsIn x (y ∷ ys)
found_here p y x ys true passes rest h = let is : y ≡ x = cc in (subst (λ z. p z ≡ true) is passes, inl is)
found_here p y x ys false passes rest h = let there = rest h in (there.0, inr there.1)

pub find_some : {A : Type 0} (p : A → Bool) (xs : List A) (x : A) → find p xs ≡ Some x → (p x ≡ true) × IsIn x xs
find_some p [] x h = absurd (none-some x h)
find_some p (y ∷ ys) x h = found_here p y x ys (p y) refl (find_some p ys x) h

none_here : {A : Type 0} (p : A → Bool) (y x : A) (ys : List A) (t : Bool) → p y ≡ t → (find p ys ≡ None → IsIn x ys → p x ≡ false)
    → cond t (Some y) (find p ys) ≡ None → IsIn x (y ∷ ys) → p x ≡ false
none_here p y x ys true passes rest h i = absurd (none-some y (sym h))
none_here p y x ys false passes rest h (inl e) = subst (λ z. p z ≡ false) e passes
none_here p y x ys false passes rest h (inr i) = rest h i

pub find_none : {A : Type 0} (p : A → Bool) (xs : List A) (x : A) → find p xs ≡ None → IsIn x xs → p x ≡ false
find_none p [] x h i = absurd i
find_none p (y ∷ ys) x h i = none_here p y x ys (p y) refl (λ h i. find_none p ys x h i) h i

pub range_is : (a n x : ℕ) → IsIn x (range_with_len a n) → (a ≤ x) × (x < a + n)
range_is a zero x i = absurd i
range_is a (suc n) x (inl e) = (omega arith, omega arith)
range_is a (suc n) x (inr i) = let rest = range_is (a + 1) n x i in (omega arith, omega arith)

pub range_has : (a n x : ℕ) → a ≤ x → x < a + n → IsIn x (range_with_len a n)
range_has a zero x le lt = absurd (omega arith)
range_has a (suc n) x le lt = elim (cases a x le) [ inl e ↦ inl e | inr more ↦ inr (range_has (a + 1) n x more (omega arith)) ]
  where
    cases : (a x : ℕ) → a ≤ x → (a ≡ x) ⊎ (a + 1 ≤ x)
    cases a x le = elim (cases_lt a x) [ inl lt ↦ inr (omega arith) | inr ge ↦ inl (omega arith) ]

-- ## The first by rank

module _ {A : Type 0} (rank : A → Option (ℕ × ℕ)) where
  rank_of_one : (z : A) (o : Option (ℕ × ℕ)) (ys : List ((ℕ × ℕ) × A)) → rank z ≡ o → AllByRecursion (λ (y : (ℕ × ℕ) × A). rank y.1 ≡ Some y.0) ys
      → AllByRecursion (λ (y : (ℕ × ℕ) × A). rank y.1 ≡ Some y.0) (cons_option (option_map (λ at. (at, z)) o) ys)
  rank_of_one z None ys is all = all
  rank_of_one z (Some k) ys is all = (is, all)

  ranks_are : (xs : List A) → AllByRecursion (λ (y : (ℕ × ℕ) × A). rank y.1 ≡ Some y.0) (filter_map (ranked rank) xs)
  ranks_are [] = tt
  ranks_are (z ∷ zs) = rank_of_one z (rank z) (filter_map (ranked rank) zs) refl (ranks_are zs)

  chosen : (o : Option ((ℕ × ℕ) × A)) (x : A) → Holds (λ (y : (ℕ × ℕ) × A). rank y.1 ≡ Some y.0) o → option_map (λ (y : (ℕ × ℕ) × A). y.1) o ≡ Some x → (k : ℕ × ℕ) × (rank x ≡ Some k)
  chosen None x holds h = absurd (none-some x h)
  chosen (Some y) x holds h = let is : y.1 ≡ x = cc in (y.0, subst (λ z. rank z ≡ Some y.0) is holds)

  -- the first has a rank
  pub first_by-some : (xs : List A) (x : A) → first_by rank xs ≡ Some x → (k : ℕ × ℕ) × (rank x ≡ Some k)
  first_by-some xs x h =
      chosen (first_ranked (filter_map (ranked rank) xs)) x (first_has (λ (y : (ℕ × ℕ) × A). rank y.1 ≡ Some y.0) (filter_map (ranked rank) xs) (ranks_are xs)) h

  either_some : (b : Bool) (x y : (ℕ × ℕ) × A) → (if b then Some y else Some x) ≡ None → ⊥
  either_some true x y h = none-some y (sym h)
  either_some false x y h = none-some x (sym h)

  sooner_some : (x : (ℕ × ℕ) × A) (o : Option ((ℕ × ℕ) × A)) → sooner x o ≡ None → ⊥
  sooner_some x None h = none-some x (sym h)
  sooner_some x (Some y) h = either_some _ x y h

  nothing_ranked : (ys : List ((ℕ × ℕ) × A)) → option_map (λ (y : (ℕ × ℕ) × A). y.1) (first_ranked ys) ≡ None → ys ≡ []
  nothing_ranked [] h = refl
  nothing_ranked (y ∷ ys) h = absurd (sooner_some y (first_ranked ys) (unmapped (first_ranked (y ∷ ys)) h))
    where
      unmapped : (o : Option ((ℕ × ℕ) × A)) → option_map (λ (y : (ℕ × ℕ) × A). y.1) o ≡ None → o ≡ None
      unmapped None h = refl
      unmapped (Some x) h = absurd (none-some x.1 (sym h))

  unranked_here : (z x : A) (zs : List A) (o : Option (ℕ × ℕ)) → rank z ≡ o → cons_option (option_map (λ at. (at, z)) o) (filter_map (ranked rank) zs) ≡ []
      → (filter_map (ranked rank) zs ≡ [] → IsIn x zs → rank x ≡ None) → IsIn x (z ∷ zs) → rank x ≡ None
  unranked_here z x zs None is h rest (inl e) = subst (λ v. rank v ≡ None) e is
  unranked_here z x zs None is h rest (inr i) = rest h i
  unranked_here z x zs (Some k) is h rest i = absurd (cc)

  unranked : (xs : List A) (x : A) → filter_map (ranked rank) xs ≡ [] → IsIn x xs → rank x ≡ None
  unranked [] x h i = absurd i
  unranked (z ∷ zs) x h i = unranked_here z x zs (rank z) refl h (λ h i. unranked zs x h i) i

  -- where none is first, none has a rank
  pub first_by-none_ranked : (xs : List A) (x : A) → first_by rank xs ≡ None → IsIn x xs → rank x ≡ None
  first_by-none_ranked xs x h i = unranked xs x (nothing_ranked (filter_map (ranked rank) xs) h) i

-- ## Environments

has_is : (id : List ℕ) (o : Option (List ℕ)) → has_identifier id o ≡ true → o ≡ Some id
has_is id None h = absurd (true≢false (sym h))
has_is id (Some other) h = ap (λ v. Some v) (sym (bytes_eq-true id other h))

pub runs_is : (calls : List EnvCall) (id : List ℕ) → runs calls id ≡ true → running calls ≡ Some id
runs_is calls id h = has_is id (running calls) h

pub is_runs : (calls : List EnvCall) (id : List ℕ) → running calls ≡ Some id → runs calls id ≡ true
is_runs calls id h = ap (has_identifier id) h ∙ bytes_eq-refl id

pub one_in : (s : Settings) (environment : ℕ) → IsOne s environment → IsIn environment (environments s)
one_in s environment one = range_has 1 s.environments environment one.0 (omega (arith, one.0, one.1))

pub in_one : (s : Settings) (environment : ℕ) → IsIn environment (environments s) → IsOne s environment
in_one s environment i = let r = range_is 1 s.environments environment i in (omega (arith, r.0), omega (arith, r.1))

-- the environment that is ready is one of the settings
pub ready_is : (s : Settings) (past : Past) (environment : ℕ) → ready_in s past ≡ Some environment → IsOne s environment × (is_ready past.wanted (calls_of past environment) ≡ true)
ready_is s past environment h =
    let found = find_some (λ (environment : ℕ). is_ready past.wanted (calls_of past environment)) (environments s) environment h in
    (in_one s environment found.1, found.0)

module _ (s : Settings) (past : Past) (all : AllAgree s past.wanted past.history (calls_of past)) where
  -- an event that does not run by the history is held by no environment
  pub idle_never : (id : List ℕ) → is_running (standing_in s past.history id) ≡ false → (environment : ℕ) → running (calls_of past environment) ≡ Some id → ⊥
  idle_never id rests environment runs =
      true≢false (sym (ap is_running ((all.each environment).runs id runs).stands) ∙ rests)

  -- the environment that holds an event runs it
  pub holder_runs : (id : List ℕ) (environment : ℕ) → holder s past id ≡ Some environment → running (calls_of past environment) ≡ Some id
  holder_runs id environment h =
      runs_is (calls_of past environment) id (find_some (λ (environment : ℕ). runs (calls_of past environment) id) (environments s) environment h).0

  -- where no environment of the settings holds it, none does
  pub unheld_never : (id : List ℕ) → holder s past id ≡ None → (environment : ℕ) → running (calls_of past environment) ≡ Some id → ⊥
  unheld_never id none environment runs_it =
      let one : IsOne s environment = ((all.each environment).runs id runs_it).one in
      let not_it : runs (calls_of past environment) id ≡ false = find_none (λ (environment : ℕ). runs (calls_of past environment) id) (environments s) environment none (one_in s environment one) in
      true≢false (sym (is_runs (calls_of past environment) id runs_it) ∙ not_it)

-- ## Events that no environment holds

abbrev rank_if : Bool → ℕ → Option (ℕ × ℕ)
rank_if b n = if b then Some (n, 0) else None

rank_parts : (a b : Bool) (n : ℕ) (k : ℕ × ℕ) → rank_if (a && b) n ≡ Some k → (a ≡ true) × (b ≡ true)
rank_parts true true n k h = (refl, refl)
rank_parts true false n k h = absurd (none-some k h)
rank_parts false b n k h = absurd (none-some k h)

rank_none : (a b : Bool) (n : ℕ) → rank_if (a && not b) n ≡ None → a ≡ true → b ≡ true
rank_none true true n h e = refl
rank_none true false n h e = absurd (cc)
rank_none false b n h e = absurd (true≢false (sym e))

not_some : {A : Type 0} (o : Option A) → not (is_some o) ≡ true → o ≡ None
not_some None h = refl
not_some (Some x) h = absurd (true≢false (sym h))

some_is : {A : Type 0} (o : Option A) → is_some o ≡ true → (x : A) × (o ≡ Some x)
some_is None h = absurd (true≢false (sym h))
some_is (Some x) h = (x, refl)

-- an event that a tick interrupts runs by the history, and no environment holds it
pub first_unheld_is : (s : Settings) (past : Past) (event : Event) → first_unheld s past ≡ Some event → IsUnheld s past event.1
unfolding first_unheld
first_unheld_is s past event h =
    let at = first_by-some (unheld_rank s past) (held past.history) event h in
    let parts = rank_parts (is_running (standing_in s past.history event.1)) (not (is_some (holder s past event.1))) event.0 at.0 at.1 in
    record { stands = parts.0; alone = not_some (holder s past event.1) parts.1 }

-- where a tick interrupts none, each event that is held and runs by the history has an environment that holds it
pub all_held : (s : Settings) (past : Past) (event : Event) → first_unheld s past ≡ None → IsIn event (held past.history) → is_running (standing_in s past.history event.1) ≡ true
    → (environment : ℕ) × (holder s past event.1 ≡ Some environment)
unfolding first_unheld
all_held s past event none i runs_so =
    let unranked_so = first_by-none_ranked (unheld_rank s past) (held past.history) event none i in
    some_is (holder s past event.1) (rank_none (is_running (standing_in s past.history event.1)) (is_some (holder s past event.1)) event.0 unranked_so runs_so)

none_passes : {A : Type 0} (p : A → Bool) (xs : List A) → ((x : A) → IsIn x xs → p x ≡ false) → list_any p xs ≡ false
none_passes p [] h = refl
none_passes p (x ∷ xs) h = rw (h x (inl refl)) (none_passes p xs (λ y i. h y (inr i)))

runs_in_is : (environment : ℕ) (st : Standing) → runs_in environment st ≡ true → is_running st ≡ true
runs_in_is environment standing.Unknown h = h
runs_in_is environment (standing.Waiting due) h = h
runs_in_is environment (standing.DueAgain due) h = h
runs_in_is environment (standing.Running e deadline) h = refl
runs_in_is environment (standing.Ended outcome at) h = h

-- then an environment that is ready runs nothing by the history either
pub ready_is_free : (s : Settings) (past : Past) → AllAgree s past.wanted past.history (calls_of past) → first_unheld s past ≡ None
    → (environment : ℕ) → is_ready past.wanted (calls_of past environment) ≡ true → is_busy_in s past.history environment ≡ false
ready_is_free s past all none environment ready =
    none_passes (λ (event : Event). runs_in environment (standing_in s past.history event.1)) (held past.history)
    (λ event i. false_from_ne_true (runs_in environment (standing_in s past.history event.1)) (λ here.
    let at = all_held s past event none i (runs_in_is environment (standing_in s past.history event.1) here) in
    let runs_it = holder_runs s past all event.1 at.0 at.1 in
    let there = (all.each at.0).runs event.1 runs_it in
    let same : (at.0 == environment) ≡ true = ap (runs_in environment) (sym there.stands) ∙ here in
    let idle : running (calls_of past environment) ≡ None = ready_runs_nothing past.wanted (calls_of past environment) ready in
    none-some event.1 (sym idle ∙ ap (λ e. running (calls_of past e)) (sym (eqb-true at.0 environment same)) ∙ runs_it)))
