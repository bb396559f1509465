-- One command after a table of which some rows have a longer age: it is legal there too, and leaves such a table.
use Rattle.std.proofs.Common.{◌≡◌, ℕ, ◌+◌, ◌*◌, ◌≤◌, ◌<◌, List, [], ◌∷◌, Bool, true, false, not, refl, sym, ap, subst, ◌∙◌, arith, None, nat_lt}
use Rattle.std.specs.Prelude.{find, ◌||◌}
use Rattle.std.proofs.lemmas.Bool.{true≢false, false≢true, le-ltb, lt-leb, leb-false, or_parts}
use Rattle.retry_rules.specs.declared.settings.Settings.{Settings}
use Rattle.retry_rules.specs.declared.policy.RetryPolicy.{RetryPolicy}
use Rattle.invoke_records.specs.declared.command.Command.{Command}
use Rattle.invoke_records.specs.declared.command.Kind.{Kind}
use Rattle.invoke_records.specs.declared.command.Kind.TheVariants.{Accept, Start, Succeed, Fail, Throttle, Interrupt, Expire, Collect, Configure}
use Rattle.invoke_records.specs.declared.command.Cause.TheVariants.{Reported, Timeout, Exited}
use Rattle.invoke_records.specs.declared.row.EventRow.{EventRow}
use Rattle.invoke_records.specs.declared.row.Standing.{Standing}
use Rattle.invoke_records.specs.declared.row.Standing.TheVariants as standing
use Rattle.invoke_records.specs.declared.snapshot.Snapshot.{Snapshot}
use Rattle.async_core.specs.declared.situation.Situation.{Situation}
use Rattle.async_core.specs.Standings.{is_ended, is_running, is_due}
use Rattle.async_core.specs.Checks.{shape_checks, clock_check, state_checks, refusal_in}
use Rattle.async_core.specs.Rules.{standing_or_unknown, too_old_or_zero, has_id, standing_at, situation_at, refusal_at, change_row, row_after, rows_after}
use Rattle.async_core.specs.laws.Refusals.{NoneFails, first_failed-none, judged_by_state, shape_passes, clock_passes, state_passes}
use Rattle.aged_copy.specs.Aging.{age_by, row_by}
use Rattle.aged_copy.proofs.Rows.{rows_by, MayBe, length-rows_by, running-rows_by, busy-rows_by, standing-rows_by, too_old-rows_by, too_old-same, MayBe-changed, changed-rows_by, removed-rows_by, last_choice, more-rows_by, MayBe-front}

-- ## A later end of its time

-- what a command meets where its event grows too old at another moment
abbrev with_end : ℕ → Situation → Situation
with_end too_old x = record x { too_old_from = too_old }

module _ (s : Settings) (x : Situation) (too_old : ℕ) (later : x.too_old_from ≤ too_old) where
  state_later : (c : Command) (k : Kind) → (k ≡ Expire → too_old ≡ x.too_old_from) → NoneFails (state_checks s x c k) → NoneFails (state_checks s (with_end too_old x) c k)
  state_later c Accept same passes = passes
  state_later c Start same passes =
      let before : c.time < x.too_old_from = leb-false x.too_old_from c.time passes.1.1.0 in
      (passes.0, (passes.1.0, (lt-leb too_old c.time (omega (arith, later, before)), passes.1.1.1)))
  state_later c Succeed same passes = passes
  state_later c (Fail Reported) same passes = passes
  state_later c (Fail Timeout) same passes = passes
  state_later c (Fail Exited) same passes = passes
  state_later c Throttle same passes =
      let before : c.time < x.too_old_from = leb-false x.too_old_from c.time passes.1.1.0 in
      (passes.0, (passes.1.0, (lt-leb too_old c.time (omega (arith, later, before)), passes.1.1.1)))
  state_later c Interrupt same passes = passes
  state_later c Expire same passes = subst (λ n. NoneFails (state_checks s (with_end n x) c Expire)) (sym (same refl)) passes
  state_later c Collect same passes = passes
  state_later c (Configure policy) same passes = passes

  -- it is legal still
  pub legal_later : (c : Command) → (c.kind ≡ Expire → too_old ≡ x.too_old_from) → refusal_in s x c ≡ None → refusal_in s (with_end too_old x) c ≡ None
  legal_later c same passes =
      let shape = first_failed-none (shape_checks s c c.kind) (shape_passes s x c passes) in
      let clock = first_failed-none (clock_check x c ∷ []) (le-ltb c.time x.last_moment (clock_passes s x c passes), tt) in
      let state = first_failed-none (state_checks s (with_end too_old x) c c.kind) (state_later c c.kind same (state_passes s x c passes)) in
      sym (judged_by_state s (with_end too_old x) c None (sym shape) (sym clock) (sym state))

-- ## An event that is changed has not ended

due-not_ended : (now : ℕ) (x : Standing) → not (is_due now x) ≡ false → is_ended x ≡ false
due-not_ended now (standing.Ended outcome at) due = absurd (true≢false due)
due-not_ended now (standing.Waiting at) due = refl
due-not_ended now (standing.DueAgain at) due = refl
due-not_ended now (standing.Running environment deadline) due = refl
due-not_ended now standing.Unknown due = refl

running-not_ended : (x : Standing) → not (is_running x) ≡ false → is_ended x ≡ false
running-not_ended (standing.Ended outcome at) runs = absurd (true≢false runs)
running-not_ended (standing.Waiting at) runs = refl
running-not_ended (standing.DueAgain at) runs = refl
running-not_ended (standing.Running environment deadline) runs = refl
running-not_ended standing.Unknown runs = refl

-- the kinds of commands that change the row of an event
abbrev changes : Kind → Bool
changes Accept = false
changes Collect = false
changes (Configure policy) = false
changes kind = true

module _ (s : Settings) (x : Situation) (c : Command) where
  not_ended : (k : Kind) → changes k ≡ true → NoneFails (state_checks s x c k) → is_ended x.standing ≡ false
  not_ended Accept is passes = absurd (false≢true is)
  not_ended Start is passes = due-not_ended c.time x.standing passes.1.0
  not_ended Succeed is passes = running-not_ended x.standing passes.1.0
  not_ended (Fail Reported) is passes = running-not_ended x.standing passes.1.0
  not_ended (Fail Timeout) is passes = running-not_ended x.standing passes.1.0
  not_ended (Fail Exited) is passes = running-not_ended x.standing passes.1.0
  not_ended Throttle is passes = due-not_ended c.time x.standing passes.1.0
  not_ended Interrupt is passes = running-not_ended x.standing passes.1.0
  not_ended Expire is passes = (or_parts (is_running x.standing) (is_ended x.standing) (or_parts (is_running x.standing || is_ended x.standing) (nat_lt c.time x.too_old_from) passes.1.0).0).1
  not_ended Collect is passes = absurd (false≢true is)
  not_ended (Configure policy) is passes = absurd (false≢true is)

-- ## The table by these choices

-- a policy whose age may be longer
abbrev pub policy_by_choice : Bool → ℕ → RetryPolicy → RetryPolicy
policy_by_choice longer age p = record { retries = p.retries; age = age_by longer age p.age }

abbrev pub table_by : ℕ → List Bool → ℕ → RetryPolicy → Snapshot → Snapshot
table_by age bs number policy table = record { number = number; last_moment = table.last_moment; policy = policy; rows = rows_by age bs table.rows }

module _ (s : Settings) (age : ℕ) (table : Snapshot) (c : Command) where
  abbrev too_old_in : List Bool → ℕ
  too_old_in bs = too_old_or_zero (find (has_id c.id) (rows_by age bs table.rows))

  situation_by : (bs : List Bool) (number : ℕ) (policy : RetryPolicy) → situation_at s (table_by age bs number policy table) c ≡ with_end (too_old_in bs) (situation_at s table c)
  unfolding standing_at
  situation_by bs number policy = λ i. record {
    last_moment = table.last_moment;
    held = length-rows_by age bs table.rows i;
    running = running-rows_by age bs table.rows i;
    is_busy = busy-rows_by age c.environment bs table.rows i;
    standing = standing-rows_by age c.id bs table.rows i;
    too_old_from = too_old_in bs;
  }

  legal_by : (bs : List Bool) (number : ℕ) (policy : RetryPolicy) → (c.kind ≡ Expire → too_old_in bs ≡ too_old_or_zero (find (has_id c.id) table.rows))
      → refusal_at s table c ≡ None → refusal_at s (table_by age bs number policy table) c ≡ None
  unfolding refusal_at
  legal_by bs number policy same passes =
      ap (λ x. refusal_in s x c) (situation_by bs number policy)
      ∙ legal_later s (situation_at s table c) (too_old_in bs) (too_old-rows_by age c.id bs table.rows) c same passes

  -- its row has not ended, where it is to be changed
  open_row : (k : Kind) → c.kind ≡ k → changes k ≡ true → refusal_at s table c ≡ None → is_ended (standing_or_unknown (find (has_id c.id) table.rows)) ≡ false
  unfolding refusal_at standing_at
  open_row k is changed passes =
      not_ended s (situation_at s table c) c k changed (subst (λ k. NoneFails (state_checks s (situation_at s table c) c k)) is (state_passes s (situation_at s table c) c passes))

  -- which choices, and which policy in force, lead to these choices by this command, which is legal there
  pub record Next (k : Kind) (bs : List Bool) : Type 0 where
    pub before : List Bool
    pub longer : Bool
    pub may : MayBe age before table.rows
    pub legal : (number : ℕ) (policy : RetryPolicy) → refusal_at s (table_by age before number policy table) c ≡ None
    pub rows : rows_after s (policy_by_choice longer age table.policy) (2 * (table.number + 1)) c k (rows_by age before table.rows)
        ≡ rows_by age bs (rows_after s table.policy (table.number + 1) c k table.rows)

  module _ (k : Kind) (is : c.kind ≡ k) (changed : changes k ≡ true)
      (ends : k ≡ Expire → (r : EventRow) → is_ended (row_after s (table.number + 1) c k r).standing ≡ true)
      (alike : (b : Bool) (r : EventRow) → row_after s (2 * (table.number + 1)) c k (row_by b age r) ≡ row_by b age (row_after s (table.number + 1) c k r)) where
    changed_may : (bs : List Bool) → refusal_at s table c ≡ None → MayBe age bs (change_row c.id (row_after s (table.number + 1) c k) table.rows) → MayBe age bs table.rows
    changed_may bs passes may = MayBe-changed age c.id (row_after s (table.number + 1) c k) bs table.rows (open_row k is changed passes) may

    changed_legal : (bs : List Bool) → refusal_at s table c ≡ None → MayBe age bs (change_row c.id (row_after s (table.number + 1) c k) table.rows)
        → (number : ℕ) (policy : RetryPolicy) → refusal_at s (table_by age bs number policy table) c ≡ None
    changed_legal bs passes may number policy =
        legal_by bs number policy (λ expires. too_old-same age c.id (row_after s (table.number + 1) c k) (ends (sym is ∙ expires)) bs table.rows may) passes

    changed_rows : (bs : List Bool) → change_row c.id (row_after s (2 * (table.number + 1)) c k) (rows_by age bs table.rows)
        ≡ rows_by age bs (change_row c.id (row_after s (table.number + 1) c k) table.rows)
    changed_rows bs = changed-rows_by age c.id (row_after s (table.number + 1) c k) (row_after s (2 * (table.number + 1)) c k) alike bs table.rows

  -- each command has such choices before it
  pub next : (k : Kind) → c.kind ≡ k → (bs : List Bool) → refusal_at s table c ≡ None
      → MayBe age bs (rows_after s table.policy (table.number + 1) c k table.rows) → Next k bs
  next Accept is bs passes may = record {
    before = bs;
    longer = last_choice age bs table.rows;
    may = MayBe-front age bs table.rows _ may;
    legal = λ number policy. legal_by bs number policy (λ expires. let no = sym is ∙ expires in cc) passes;
    rows = more-rows_by age bs table.rows _;
  }
  next Collect is bs passes may =
      let without = removed-rows_by age c.id table.rows bs may in
      record {
        before = without.0;
        longer = false;
        may = without.1;
        legal = λ number policy. legal_by without.0 number policy (λ expires. let no = sym is ∙ expires in cc) passes;
        rows = without.2;
      }
  next (Configure policy) is bs passes may = record {
    before = bs;
    longer = false;
    may = may;
    legal = λ number policy. legal_by bs number policy (λ expires. let no = sym is ∙ expires in cc) passes;
    rows = refl;
  }
  next Start is bs passes may = record {
    before = bs;
    longer = false;
    may = changed_may Start is refl (λ expires r. cc) (λ b r. refl) bs passes may;
    legal = changed_legal Start is refl (λ expires r. cc) (λ b r. refl) bs passes may;
    rows = changed_rows Start is refl (λ expires r. cc) (λ b r. refl) bs;
  }
  next Succeed is bs passes may = record {
    before = bs;
    longer = false;
    may = changed_may Succeed is refl (λ expires r. cc) (λ b r. refl) bs passes may;
    legal = changed_legal Succeed is refl (λ expires r. cc) (λ b r. refl) bs passes may;
    rows = changed_rows Succeed is refl (λ expires r. cc) (λ b r. refl) bs;
  }
  next (Fail cause) is bs passes may = record {
    before = bs;
    longer = false;
    may = changed_may (Fail cause) is refl (λ expires r. cc) (λ b r. refl) bs passes may;
    legal = changed_legal (Fail cause) is refl (λ expires r. cc) (λ b r. refl) bs passes may;
    rows = changed_rows (Fail cause) is refl (λ expires r. cc) (λ b r. refl) bs;
  }
  next Throttle is bs passes may = record {
    before = bs;
    longer = false;
    may = changed_may Throttle is refl (λ expires r. cc) (λ b r. refl) bs passes may;
    legal = changed_legal Throttle is refl (λ expires r. cc) (λ b r. refl) bs passes may;
    rows = changed_rows Throttle is refl (λ expires r. cc) (λ b r. refl) bs;
  }
  next Interrupt is bs passes may = record {
    before = bs;
    longer = false;
    may = changed_may Interrupt is refl (λ expires r. cc) (λ b r. refl) bs passes may;
    legal = changed_legal Interrupt is refl (λ expires r. cc) (λ b r. refl) bs passes may;
    rows = changed_rows Interrupt is refl (λ expires r. cc) (λ b r. refl) bs;
  }
  next Expire is bs passes may = record {
    before = bs;
    longer = false;
    may = changed_may Expire is refl (λ expires r. refl) (λ b r. refl) bs passes may;
    legal = changed_legal Expire is refl (λ expires r. refl) (λ b r. refl) bs passes may;
    rows = changed_rows Expire is refl (λ expires r. refl) (λ b r. refl) bs;
  }
