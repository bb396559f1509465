-- The numbers in a table that a history leaves are those of its commands.
use Rattle.std.proofs.Common.{◌≡◌, ℕ, ◌+◌, ◌≤◌, List, [], ◌∷◌, ◌++◌, length, Bool, true, false, refl, sym, subst, arith, None, nat_le}
use Rattle.std.specs.Prelude.{if◌then◌else◌}
use Rattle.std.specs.List.{list_all}
use Rattle.std.proofs.lemmas.Bool.{and_from, le-leb}
use Rattle.retry_rules.specs.declared.settings.Settings.{Settings}
use Rattle.retry_rules.specs.declared.policy.RetryPolicy.{RetryPolicy}
use Rattle.retry_rules.specs.Settings.{bad_field}
use Rattle.invoke_records.specs.Spelling.{greatest_number}
use Rattle.invoke_records.specs.declared.command.Command.{Command}
use Rattle.invoke_records.specs.declared.command.Kind.{Kind}
use Rattle.invoke_records.specs.declared.command.Kind.TheVariants.{Accept, Start, Succeed, Fail, Throttle, Interrupt, Expire, Collect, Configure}
use Rattle.invoke_records.specs.declared.row.EventRow.{EventRow}
use Rattle.invoke_records.specs.declared.snapshot.Snapshot.{Snapshot}
use Rattle.async_core.specs.History.{IsLegal, table_of, refusal_of}
use Rattle.async_core.specs.Rules.{has_id, change_row, remove_row, row_after, rows_after, table_after, accepted_row}
use Rattle.async_core.specs.laws.Held.{legally}
use Rattle.async_core.specs.laws.Tables.{table_of-more, table_of-nil, number-table_of}
use Rattle.aged_copy.specs.AgingSteps.{is_counted}
use Rattle.aged_copy.specs.Copying.{has_numbers}

-- both numbers of each row are up to this one
abbrev UpTo : ℕ → List EventRow → Type 0
UpTo n [] = Unit {0}
UpTo n (r ∷ rows) = (r.number ≤ n) × (r.last_number ≤ n) × UpTo n rows

later : (n : ℕ) (rows : List EventRow) → UpTo n rows → UpTo (n + 1) rows
later n [] all = tt
later n (r ∷ rows) all = (omega (arith, all.0), omega (arith, all.1), later n rows all.2)

more : (n : ℕ) (rows : List EventRow) (r : EventRow) → UpTo n rows → r.number ≤ n → r.last_number ≤ n → UpTo n (rows ++ r ∷ [])
more n [] r all number last = (number, last, tt)
more n (x ∷ rows) r all number last = (all.0, all.1, more n rows r all.2 number last)

module _ (n : ℕ) (id : List ℕ) where
  removed_here : (found : Bool) (r : EventRow) (rows : List EventRow) → UpTo n (r ∷ rows) → UpTo n (remove_row id rows) → UpTo n (if found then rows else r ∷ remove_row id rows)
  removed_here true r rows all rest = all.2
  removed_here false r rows all rest = (all.0, all.1, rest)

  removed : (rows : List EventRow) → UpTo n rows → UpTo n (remove_row id rows)
  removed [] all = tt
  removed (r ∷ rows) all = removed_here (has_id id r) r rows all (removed rows all.2)

  module _ (change : EventRow → EventRow) (number : (r : EventRow) → r.number ≤ n → (change r).number ≤ n) (last : (r : EventRow) → (change r).last_number ≤ n) where
    changed_here : (found : Bool) (r : EventRow) (rows : List EventRow) → UpTo n (r ∷ rows) → UpTo n (change_row id change rows) → UpTo n (if found then change r ∷ rows else r ∷ change_row id change rows)
    changed_here true r rows all rest = (number r all.0, last r, all.2)
    changed_here false r rows all rest = (all.0, all.1, rest)

    changed : (rows : List EventRow) → UpTo n rows → UpTo n (change_row id change rows)
    changed [] all = tt
    changed (r ∷ rows) all = changed_here (has_id id r) r rows all (changed rows all.2)

module _ (s : Settings) (policy : RetryPolicy) (n : ℕ) (c : Command) (rows : List EventRow) (all : UpTo n rows) where
  after_change : (k : Kind) → UpTo (n + 1) (change_row c.id (row_after s (n + 1) c k) rows)
  after_change k = changed (n + 1) c.id (row_after s (n + 1) c k) (λ r le. le) (λ r. omega arith) rows (later n rows all)

  after : (k : Kind) → UpTo (n + 1) (rows_after s policy (n + 1) c k rows)
  after Accept = more (n + 1) rows (accepted_row policy (n + 1) c) (later n rows all) (omega arith) (omega arith)
  after Collect = removed (n + 1) c.id rows (later n rows all)
  after (Configure next) = later n rows all
  after Start = after_change Start
  after Succeed = after_change Succeed
  after (Fail cause) = after_change (Fail cause)
  after Throttle = after_change Throttle
  after Interrupt = after_change Interrupt
  after Expire = after_change Expire

rows_after-is : (s : Settings) (table : Snapshot) (c : Command) → (table_after s table c).rows ≡ rows_after s table.policy (table.number + 1) c c.kind table.rows
unfolding table_after
rows_after-is s table c = refl

number_after-is : (s : Settings) (table : Snapshot) (c : Command) → (table_after s table c).number ≡ table.number + 1
unfolding table_after
number_after-is s table c = refl

module _ (s : Settings) (good : bad_field s ≡ None) where
  step : (h : List Command) (c : Command) → IsLegal s h → refusal_of s h c ≡ None → UpTo (table_of s h).number (table_of s h).rows → UpTo (table_of s (h ++ c ∷ [])).number (table_of s (h ++ c ∷ [])).rows
  step h c legal passes all =
      subst (λ (t : Snapshot). UpTo t.number t.rows) (table_of-more s h c good legal passes)
      (subst (λ rows. UpTo (table_after s (table_of s h) c).number rows) (sym (rows_after-is s (table_of s h) c))
      (subst (λ n. UpTo n (rows_after s (table_of s h).policy ((table_of s h).number + 1) c c.kind (table_of s h).rows)) (sym (number_after-is s (table_of s h) c))
      (after s (table_of s h).policy (table_of s h).number c (table_of s h).rows all c.kind)))

  up_to : (h : List Command) → IsLegal s h → UpTo (table_of s h).number (table_of s h).rows
  up_to h legal = legally s (λ h. UpTo (table_of s h).number (table_of s h).rows) (rw (table_of-nil s) tt) step h legal

counted : (n : ℕ) (rows : List EventRow) → n ≤ greatest_number → UpTo n rows → list_all is_counted rows ≡ true
counted n [] le all = refl
counted n (r ∷ rows) le all =
    and_from (is_counted r) (list_all is_counted rows)
    (and_from (nat_le r.number greatest_number) (nat_le r.last_number greatest_number) (le-leb r.number greatest_number (omega (arith, all.0))) (le-leb r.last_number greatest_number (omega (arith, all.1))))
    (counted n rows le all.2)

pub numbers_of : (s : Settings) (h : List Command) → bad_field s ≡ None → IsLegal s h → length h ≤ greatest_number → has_numbers (table_of s h) ≡ true
numbers_of s h good legal short =
    let table = table_of s h in
    let le : table.number ≤ greatest_number = omega (arith, number-table_of s h) in
    and_from (nat_le table.number greatest_number) (list_all is_counted table.rows) (le-leb table.number greatest_number le) (counted table.number table.rows le (up_to s good h legal))
