-- Lemmas: the first running event that no environment holds, as a walk through the running events finds it.
use Rattle.std.proofs.Common.{◌≡◌, ℕ, ◌<◌, ◌≤◌, Bool, true, false, not, ◌&&◌, refl, sym, subst, ap, ◌∙◌, arith, Option, Some, None, inl, inr, if◌then◌else◌, nat_lt, All, Contains}
use Rattle.std.specs.Prelude.{is_some, option_map}
use Rattle.std.proofs.lemmas.Bool.{true≢false, cases_lt, ltb-false, lt-ltb, and_parts}
use Rattle.std.proofs.lemmas.Option.{none-some, same_Some}
use Rattle.std.proofs.lemmas.List.Elements.{recursion_from_All}
use Rattle.retry_rules.specs.declared.settings.Settings.{Settings}
use Rattle.async_core.specs.Standings.{is_running}
use Rattle.async_core.specs.History.{held, standing_in}
use Rattle.async_core.specs.Choice.{IsFirstRunning}
use Rattle.hall_plans.specs.Past.{Past, holder}
use Rattle.hall_plans.specs.Firsts.{Event, unheld_rank, first_unheld}
use Rattle.hall_plans.specs.laws.Ranks.{IsIn, in_from_contains, Behind, before, first_by-is, first_by-none, all_in, by_in}
use Rattle.hall_plans.specs.laws.Moving.{above, apart}

-- each running event that was accepted by this command or an earlier one is held by an environment
abbrev pub AreHeldUpTo : Settings → Past → ℕ → Type 0
AreHeldUpTo s past number =
    (event : Event) → IsIn event (held past.history) → is_running (standing_in s past.history event.1) ≡ true → event.0 ≤ number → is_some (holder s past event.1) ≡ true

module _ (s : Settings) (past : Past) where
  abbrev runs : Event → Bool
  runs e = is_running (standing_in s past.history e.1)

  abbrev has : Event → Bool
  has e = is_some (holder s past e.1)

  numbered : (e : Event) → IsIn e (held past.history) → 1 ≤ e.0
  unfolding held
  numbered e i = above 1 past.history e i

  one_of : (a b : Event) → IsIn a (held past.history) → IsIn b (held past.history) → a.0 ≡ b.0 → a ≡ b
  unfolding held
  one_of a b i j e = apart 1 past.history a b i j e

  pub held_at_first : AreHeldUpTo s past 0
  held_at_first e i runs_so le = let at : 1 ≤ e.0 = numbered e i in absurd (omega arith)

  both : (a b : Bool) → a ≡ true → b ≡ true → (a && b) ≡ true
  both true true p q = refl
  both true false p q = absurd (true≢false (sym q))
  both false b p q = absurd (true≢false (sym p))

  -- what the table says of the next one
  module _ (after : ℕ) (e : Event) (there : Contains (held past.history) e) (passes : (runs e && nat_lt after e.0) ≡ true)
      (first : All (λ (o : Event). (runs o && nat_lt after o.0) ≡ true → e.0 ≤ o.0) (held past.history)) where
    later : (o : Event) → IsIn o (held past.history) → runs o ≡ true → after < o.0 → e.0 ≤ o.0
    later o i runs_so lt =
        by_in (λ (o : Event). (runs o && nat_lt after o.0) ≡ true → e.0 ≤ o.0) (held past.history) o
        (recursion_from_All (λ (o : Event). (runs o && nat_lt after o.0) ≡ true → e.0 ≤ o.0) (held past.history) first) i
        (both (runs o) (nat_lt after o.0) runs_so (lt-ltb after o.0 lt))

    at_it : (o : Event) → IsIn o (held past.history) → runs o ≡ true → after < o.0 → o.0 ≤ e.0 → e ≡ o
    at_it o i runs_so lt le =
        let ge : e.0 ≤ o.0 = later o i runs_so lt in
        one_of e o (in_from_contains (held past.history) e there) i (omega arith)

    -- one more that is held
    pub held_further : AreHeldUpTo s past after → has e ≡ true → AreHeldUpTo s past e.0
    held_further before_it has_it o i runs_so le = elim (cases_lt after o.0) [
      | inl lt ↦ subst (λ (v : Event). has v ≡ true) (at_it o i runs_so lt le) has_it
      | inr ge ↦ before_it o i runs_so (omega arith)
    ]

    abbrev key : Event → ℕ × ℕ
    key o = (o.0, 0)

    behind : AreHeldUpTo s past after → (o : Event) → IsIn o (held past.history) → runs o ≡ true → has o ≡ false → Behind {A = Event} (key e, e) (key o, o)
    behind before_it o i runs_so free = elim (cases_lt after o.0) [
      | inr ge ↦ absurd (true≢false (sym (before_it o i runs_so (omega arith)) ∙ free))
      | inl lt ↦ elim (cases_lt e.0 o.0) [
        | inl less ↦ inr (before (key e) (key o) (inl less))
        | inr le ↦ inl (ap (λ (v : Event). (key v, v)) (sym (at_it o i runs_so lt (omega arith))))
      ]
    ]

    rank_parts : (a b : Bool) (k j : ℕ × ℕ) → (if a && not b then Some k else None) ≡ Some j → (a ≡ true) × (b ≡ false) × (k ≡ j)
    rank_parts true false k j h = (refl, refl, same_Some k j h)
    rank_parts true true k j h = absurd (none-some j h)
    rank_parts false b k j h = absurd (none-some j h)

    ranked : runs e ≡ true → has e ≡ false → unheld_rank s past e ≡ Some (key e)
    ranked runs_so free = rw (runs_so, free) refl

    -- it is the first where it is not held
    pub first_is : AreHeldUpTo s past after → has e ≡ false → first_unheld s past ≡ Some e
    unfolding first_unheld
    first_is before_it free =
        first_by-is (unheld_rank s past) e (key e) (held past.history) (ranked (and_parts (runs e) (nat_lt after e.0) passes).0 free) (in_from_contains (held past.history) e there)
        (all_in (λ (o : Event). (j : ℕ × ℕ) → unheld_rank s past o ≡ Some j → Behind {A = Event} (key e, e) (j, o)) (held past.history)
        (λ o i j ranked_so.
        let parts = rank_parts (runs o) (has o) (key o) j ranked_so in
        subst (λ v. Behind {A = Event} (key e, e) (v, o)) parts.2 (behind before_it o i parts.0 parts.1)))

  unranked : (after : ℕ) → AreHeldUpTo s past after → (o : Event) → IsIn o (held past.history) → (b : Bool) → runs o ≡ b → (b && nat_lt after o.0) ≡ false → unheld_rank s past o ≡ None
  unranked after before_it o i false rests passes = rw rests refl
  unranked after before_it o i true runs_so passes =
      let le : o.0 ≤ after = ltb-false after o.0 passes in
      rw (runs_so, before_it o i runs_so le) refl

  -- there is none where the walk ends
  pub first_none : (after : ℕ) → AreHeldUpTo s past after → All (λ (o : Event). (runs o && nat_lt after o.0) ≡ false) (held past.history) → first_unheld s past ≡ None
  unfolding first_unheld
  first_none after before_it all =
      first_by-none (unheld_rank s past) (held past.history)
      (all_in (λ (o : Event). unheld_rank s past o ≡ None) (held past.history)
      (λ o i.
      unranked after before_it o i (runs o) refl
      (by_in (λ (o : Event). (runs o && nat_lt after o.0) ≡ false) (held past.history) o (recursion_from_All (λ (o : Event). (runs o && nat_lt after o.0) ≡ false) (held past.history) all) i)))

  -- ## The walk

  module _ (after : ℕ) (before_it : AreHeldUpTo s past after) where
    module _ (next : Event) (h : Option ℕ) (chosen : IsFirstRunning s past.history after (Some next)) (is : h ≡ holder s past next.1) where
      pub found : is_some h ≡ false → Some next.1 ≡ option_map (λ (e : Event). e.1) (first_unheld s past)
      found none =
          let free : has chosen.0 ≡ false = sym (ap is_some (is ∙ ap (λ (e : Event). holder s past e.1) chosen.1)) ∙ none in
          rw (first_is after chosen.0 chosen.2 chosen.3 chosen.4 before_it free) (ap (λ (e : Event). Some e.1) chosen.1)

      pub goes_on : is_some h ≡ true → AreHeldUpTo s past next.0
      goes_on some =
          let has_it : has chosen.0 ≡ true = sym (ap is_some (is ∙ ap (λ (e : Event). holder s past e.1) chosen.1)) ∙ some in
          subst (λ (e : Event). AreHeldUpTo s past e.0) (sym chosen.1) (held_further after chosen.0 chosen.2 chosen.3 chosen.4 before_it has_it)

    pub ends : IsFirstRunning s past.history after None → None ≡ option_map (λ (e : Event). e.1) (first_unheld s past)
    ends none = rw (first_none after before_it none) refl
