-- What a legal history leaves, with a longer age for events that have not ended, is left by a legal history too: before each of its
-- commands stands a Configure that sets the age by which the next event is judged.
use Rattle.std.proofs.Common.{◌≡◌, ℕ, ◌+◌, ◌*◌, ◌≤◌, List, [], ◌∷◌, ◌++◌, length, length-append, Bool, true, false, refl, sym, ap, subst, ◌∙◌, arith, None, nat_lt}
use Rattle.std.specs.Prelude.{if◌then◌else◌}
use Rattle.std.proofs.lemmas.Bool.{ltb-false, le-ltb, or_parts, or_from}
use Rattle.retry_rules.specs.declared.settings.Settings.{Settings}
use Rattle.retry_rules.specs.declared.policy.RetryPolicy.{RetryPolicy}
use Rattle.retry_rules.specs.Settings.{bad_field, is_outside, is_bad_policy, policy_of}
use Rattle.invoke_records.specs.Spelling.{greatest_moment}
use Rattle.invoke_records.specs.declared.command.Command.{Command}
use Rattle.invoke_records.specs.declared.command.Kind.TheVariants.{Configure}
use Rattle.invoke_records.specs.declared.snapshot.Snapshot.{Snapshot}
use Rattle.async_core.specs.History.{IsLegal, table_of, refusal_of}
use Rattle.async_core.specs.Policies.{policy_by}
use Rattle.async_core.specs.Checks.{shape_checks, clock_check, state_checks, refusal_in}
use Rattle.async_core.specs.Rules.{situation_at, refusal_at, rows_after, table_after}
use Rattle.async_core.specs.laws.Held.{legally}
use Rattle.async_core.specs.laws.Rows.{in_force_good}
use Rattle.async_core.specs.laws.Refusals.{first_failed-none}
use Rattle.async_core.specs.laws.Tables.{refusal-of_table, table_of-more, table_of-nil, number-table_of, legal_time, applied-by_history, IsLegal-more, IsLegal-nil, in_force-by_history}
use Rattle.aged_copy.specs.Aging.{age_by, aged}
use Rattle.aged_copy.proofs.Rows.{rows_by, MayBe, choices, MayBe-choices, chosen-rows_by}
use Rattle.aged_copy.proofs.Steps.{policy_by_choice, table_by, Next, next}

-- ## A Configure

abbrev configure : RetryPolicy → ℕ → Command
configure policy time = record {
  kind = Configure policy;
  id = 0 ∷ 0 ∷ 0 ∷ 0 ∷ 0 ∷ 0 ∷ 0 ∷ 0 ∷ 0 ∷ 0 ∷ 0 ∷ 0 ∷ 0 ∷ 0 ∷ 0 ∷ 0 ∷ [];
  environment = 0;
  time = time;
  bytes = [];
}

configure_legal : (s : Settings) (table : Snapshot) (policy : RetryPolicy) → is_bad_policy policy ≡ false → table.last_moment ≤ greatest_moment → refusal_at s table (configure policy table.last_moment) ≡ None
unfolding refusal_at refusal_in
configure_legal s table policy good time =
    let x = situation_at s table (configure policy table.last_moment) in
    let c = configure policy table.last_moment in
    first_failed-none (shape_checks s c c.kind ++ clock_check x c ∷ state_checks s x c c.kind) (refl, (le-ltb greatest_moment table.last_moment time, (refl, (refl, (good, (le-ltb table.last_moment table.last_moment (omega arith), tt))))))

-- ## Policies

inside : (n : ℕ) → is_outside 60 21600 n ≡ false → (60 ≤ n) × (n ≤ 21600)
inside n good = let parts = or_parts (nat_lt n 60) (nat_lt 21600 n) good in (ltb-false n 60 parts.0, ltb-false 21600 n parts.1)

age_good : (longer : Bool) (age old : ℕ) → is_outside 60 21600 age ≡ false → is_outside 60 21600 old ≡ false → is_outside 60 21600 (age_by longer age old) ≡ false
age_good false age old good before = before
age_good true age old good before = greater (nat_lt old age) where
  greater : (less : Bool) → is_outside 60 21600 (if less then age else old) ≡ false
  greater true = good
  greater false = before

policy_good : (longer : Bool) (age : ℕ) (p : RetryPolicy) → is_outside 60 21600 age ≡ false → is_bad_policy p ≡ false → is_bad_policy (policy_by_choice longer age p) ≡ false
policy_good longer age p good before =
    let parts = or_parts (is_outside 0 2 p.retries) (is_outside 60 21600 p.age) before in
    or_from (is_outside 0 2 p.retries) (is_outside 60 21600 (age_by longer age p.age)) parts.0 (age_good longer age p.age good parts.1)

module _ (s : Settings) (good : bad_field s ≡ None) where
  passes_at : (h : List Command) (c : Command) → IsLegal s h → refusal_of s h c ≡ None → refusal_at s (table_of s h) c ≡ None
  passes_at h c legal passes = refusal-of_table s h c good legal ∙ passes

  last_moment-after : (table : Snapshot) (c : Command) → (table_after s table c).last_moment ≡ c.time
  unfolding table_after
  last_moment-after table c = refl

  last_moment-fits : (h : List Command) → IsLegal s h → (table_of s h).last_moment ≤ greatest_moment
  last_moment-fits h legal = legally s (λ h. (table_of s h).last_moment ≤ greatest_moment)
      (rw (table_of-nil s) (omega arith))
      (λ h c legal passes _. subst (λ n. n ≤ greatest_moment)
      (sym (last_moment-after (table_of s h) c) ∙ ap (λ (t : Snapshot). t.last_moment) (table_of-more s h c good legal passes))
      (legal_time s (table_of s h) c (passes_at h c legal passes))) h legal

  in_force-fits : (h : List Command) → IsLegal s h → is_bad_policy (table_of s h).policy ≡ false
  in_force-fits h legal = rw (in_force-by_history s (table_of s h) h refl) (in_force_good s h good legal)

  module _ (age : ℕ) (fits : is_outside 60 21600 age ≡ false) where
    -- a legal history leaves the table of this one by these choices
    pub record Leaves (h : List Command) (bs : List Bool) : Type 0 where
      pub other : List Command
      pub legal : IsLegal s other
      pub policy : RetryPolicy
      pub table : table_of s other ≡ table_by age bs (2 * length h) policy (table_of s h)

    leaves_nothing : (bs : List Bool) → Leaves [] bs
    leaves_nothing bs = record {
      other = [];
      legal = IsLegal-nil s;
      policy = policy_of s;
      table = rw (table_of-nil s) refl;
    }

    module _ (h : List Command) (c : Command) (legal : IsLegal s h) (passes : refusal_of s h c ≡ None) where
      after_is : table_after s (table_of s h) c ≡ table_of s (h ++ c ∷ [])
      after_is = table_of-more s h c good legal passes

      rows_are : (table_after s (table_of s h) c).rows ≡ rows_after s (table_of s h).policy ((table_of s h).number + 1) c c.kind (table_of s h).rows
      unfolding table_after
      rows_are = refl

      -- the choices before the command
      before : (bs : List Bool) → MayBe age bs (table_of s (h ++ c ∷ [])).rows → Next s age (table_of s h) c c.kind bs
      before bs may =
          next s age (table_of s h) c c.kind refl bs (passes_at h c legal passes)
          (subst (λ rows. MayBe age bs rows) rows_are (subst (λ (t : Snapshot). MayBe age bs t.rows) (sym after_is) may))

      -- a Configure leaves the policy by which the command's event is judged
      configured : (number : ℕ) (bs : List Bool) (old policy : RetryPolicy) → table_after s (table_by age bs number old (table_of s h)) (configure policy (table_of s h).last_moment)
          ≡ table_by age bs (number + 1) policy (table_of s h)
      unfolding table_after
      configured number bs old policy = refl

      commanded : (number : ℕ) (cs bs : List Bool) (policy : RetryPolicy) → number + 1 ≡ 2 * ((table_of s h).number + 1)
          → rows_after s policy (2 * ((table_of s h).number + 1)) c c.kind (rows_by age cs (table_of s h).rows)
          ≡ rows_by age bs (rows_after s (table_of s h).policy ((table_of s h).number + 1) c c.kind (table_of s h).rows)
          → table_after s (table_by age cs number policy (table_of s h)) c ≡ table_by age bs (2 * ((table_of s h).number + 1)) (policy_by policy c.kind) (table_after s (table_of s h) c)
      unfolding table_after
      commanded number cs bs policy is rows = λ i. record {
        number = is i;
        last_moment = c.time;
        policy = policy_by policy c.kind;
        rows = (ap (λ n. rows_after s policy n c c.kind (rows_by age cs (table_of s h).rows)) is ∙ rows) i;
      }

      twice : 2 * length h + 1 + 1 ≡ 2 * ((table_of s h).number + 1)
      twice = omega (arith, number-table_of s h)

      longer_length : 2 * ((table_of s h).number + 1) ≡ 2 * length (h ++ c ∷ [])
      longer_length = omega (arith, number-table_of s h, length-append h (c ∷ []))

      leaves_more : ((bs : List Bool) → MayBe age bs (table_of s h).rows → Leaves h bs) → (bs : List Bool) → MayBe age bs (table_of s (h ++ c ∷ [])).rows → Leaves (h ++ c ∷ []) bs
      leaves_more earlier bs may =
          let choice = before bs may in
          let front = earlier choice.before choice.may in
          let table = table_of s h in
          let policy = policy_by_choice choice.longer age table.policy in
          let first = table_by age choice.before (2 * length h) front.policy table in
          let set = configure policy table.last_moment in
          let set_legal : refusal_at s first set ≡ None = configure_legal s first policy (policy_good choice.longer age table.policy fits (in_force-fits h legal)) (last_moment-fits h legal) in
          let one = applied-by_history s first front.other set good front.legal (sym front.table) set_legal in
          let one_legal = IsLegal-more s front.other set front.legal one.0 in
          let second = table_by age choice.before (2 * length h + 1) policy table in
          let second_is : second ≡ table_of s (front.other ++ set ∷ []) = sym (configured (2 * length h) choice.before front.policy policy) ∙ one.1 in
          let two = applied-by_history s second (front.other ++ set ∷ []) c good one_legal second_is (choice.legal (2 * length h + 1) policy) in
          record {
            other = (front.other ++ set ∷ []) ++ c ∷ [];
            legal = IsLegal-more s (front.other ++ set ∷ []) c one_legal two.0;
            policy = policy_by policy c.kind;
            table =
                sym two.1
                ∙ commanded (2 * length h + 1) choice.before bs policy twice choice.rows
                ∙ (λ i. table_by age bs (longer_length i) (policy_by policy c.kind) (after_is i));
          }

    leaves : (h : List Command) → IsLegal s h → (bs : List Bool) → MayBe age bs (table_of s h).rows → Leaves h bs
    leaves h legal = legally s (λ h. (bs : List Bool) → MayBe age bs (table_of s h).rows → Leaves h bs)
        (λ bs may. leaves_nothing bs)
        (λ h c legal passes earlier. leaves_more h c legal passes earlier) h legal

    last_set : (table : Snapshot) (bs : List Bool) (old : RetryPolicy) → table_after s (table_by age bs (2 * table.number) old table) (configure table.policy table.last_moment)
        ≡ record { number = 2 * table.number + 1; last_moment = table.last_moment; policy = table.policy; rows = rows_by age bs table.rows }
    unfolding table_after
    last_set table bs old = refl

    aged_is : (table : Snapshot) → record { number = 2 * table.number + 1; last_moment = table.last_moment; policy = table.policy; rows = rows_by age (choices age table.rows) table.rows } ≡ aged age table
    unfolding aged
    aged_is table = λ i. record { number = 2 * table.number + 1; last_moment = table.last_moment; policy = table.policy; rows = chosen-rows_by age table.rows i }

    pub aged_history : (h : List Command) → IsLegal s h → (other : List Command) × IsLegal s other × (table_of s other ≡ aged age (table_of s h))
    aged_history h legal =
        let table = table_of s h in
        let bs = choices age table.rows in
        let front = leaves h legal bs (MayBe-choices age table.rows) in
        let twice : 2 * length h ≡ 2 * table.number = omega (arith, number-table_of s h) in
        let first = table_by age bs (2 * table.number) front.policy table in
        let first_is : first ≡ table_of s front.other = sym (front.table ∙ ap (λ n. table_by age bs n front.policy table) twice) in
        let set = configure table.policy table.last_moment in
        let set_legal : refusal_at s first set ≡ None = configure_legal s first table.policy (in_force-fits h legal) (last_moment-fits h legal) in
        let one = applied-by_history s first front.other set good front.legal first_is set_legal in
        (front.other ++ set ∷ [], IsLegal-more s front.other set front.legal one.0, sym one.1 ∙ last_set table bs front.policy ∙ aged_is table)
