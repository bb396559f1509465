-- Laws: the table of a legal history has a spelling, and it is within the limits of its settings.
use Rattle.std.proofs.Common.{◌≡◌, ℕ, ◌+◌, ◌*◌, ◌^◌, ◌≤◌, ◌<◌, nat_le, nat_lt, List, [], ◌∷◌, ◌++◌, length, Bool, true, false, not, ◌&&◌, cond, refl, sym, ap, subst, ◌∙◌, arith, Option, Some, None, length-append, if◌then◌else◌}
use Rattle.std.specs.Prelude.{find}
use Rattle.std.specs.List.{list_all, AllByRecursion, flat_map}
use Rattle.std.proofs.Math.Nat.{mul-le-mul_right}
use Rattle.std.proofs.lemmas.Bool.{true≢false, and_parts, and_from, or_parts, not-false, not_from_false, lt-ltb, le-ltb, le-leb, ltb-true, ltb-false, leb-true, leb-false}
use Rattle.std.proofs.lemmas.List.Concat.{flat_map-cons}
use Rattle.retry_rules.specs.Settings.{bad_field, is_bad_policy}
use Rattle.retry_rules.specs.declared.policy.RetryPolicy.{RetryPolicy}
use Rattle.retry_rules.specs.declared.settings.Settings.{Settings}
use Rattle.invoke_records.specs.Spelling.{greatest_moment, greatest_number, environment_in, answer_bytes, is_unknown, breaks_rule, row_text, row_fault, snapshot_text, snapshot_fault, is_before, are_in_order, first_of_two, rows_fault, IsWithinWidth, IsSnapshot}
use Rattle.invoke_records.specs.laws.Rows.{is_sound_row, no_row_fault, row_length}
use Rattle.invoke_records.specs.laws.Snapshots.{is_sound_snapshot, no_snapshot_fault}
use Rattle.invoke_records.specs.declared.error.RecordError.{RecordError}
use Rattle.invoke_records.specs.declared.command.Command.{Command}
use Rattle.invoke_records.specs.declared.command.Kind.{Kind}
use Rattle.invoke_records.specs.declared.command.Kind.TheVariants.{Accept, Start, Succeed, Fail, Throttle, Interrupt, Expire, Collect, Configure}
use Rattle.invoke_records.specs.declared.command.Cause.TheVariants.{Reported}
use Rattle.invoke_records.specs.declared.row.Answer.{Answer}
use Rattle.invoke_records.specs.declared.row.EventRow.{EventRow}
use Rattle.invoke_records.specs.declared.row.Outcome.TheVariants.{RetriesExhausted}
use Rattle.invoke_records.specs.declared.row.Standing.{Standing}
use Rattle.invoke_records.specs.declared.row.Standing.TheVariants as standing
use Rattle.invoke_records.specs.declared.snapshot.Snapshot.{Snapshot}
use Rattle.async_core.specs.Lives.{kind_is_collect, kind_names, answer_by}
use Rattle.async_core.specs.Standings.{rules_with, standing_by}
use Rattle.async_core.specs.Policies.{policy_by}
use Rattle.async_core.specs.Checks.{shape_checks, state_checks}
use Rattle.async_core.specs.History.{IsLegal, table_of}
use Rattle.async_core.specs.Rules.{has_id, standing_or_unknown, standing_at, situation_at, refusal_at, accepted_row, row_after, change_row, remove_row, rows_after, table_after, empty_table}
use Rattle.async_core.specs.Limits.{is_row_within, is_within, most_snapshot}
use Rattle.async_core.specs.laws.Refusals.{NoneFails, shape_passes, state_passes}
use Rattle.async_core.specs.laws.Shapes.{Limits, limits}
use Rattle.async_core.specs.laws.Held.{bytes_eq-sym, legally}
use Rattle.async_core.specs.laws.Tables.{refusal-of_table, table_of-more, table_of-nil, number-table_of, legal_time}

-- ## What holds of each row, after one more, one fewer, or one changed

module _ (P : EventRow → Type 0) where
  all_more : (rows : List EventRow) (r : EventRow) → AllByRecursion P rows → P r → AllByRecursion P (rows ++ r ∷ [])
  all_more [] r all one = (one, tt)
  all_more (x ∷ rows) r all one = (all.0, all_more rows r all.1 one)

  fewer_here : (b : Bool) (r : EventRow) (rows fewer : List EventRow) → P r → AllByRecursion P rows → AllByRecursion P fewer → AllByRecursion P (cond b rows (r ∷ fewer))
  fewer_here true r rows fewer here all rest = all
  fewer_here false r rows fewer here all rest = (here, rest)

  all_fewer : (id : List ℕ) (rows : List EventRow) → AllByRecursion P rows → AllByRecursion P (remove_row id rows)
  all_fewer id [] all = tt
  all_fewer id (r ∷ rows) all = fewer_here (has_id id r) r rows (remove_row id rows) all.0 all.1 (all_fewer id rows all.1)

  module _ (id : List ℕ) (change : EventRow → EventRow) (keeps : (r : EventRow) → P r → P (change r)) where
    changed_here : (b : Bool) (r : EventRow) (rows changed : List EventRow) → P r → AllByRecursion P rows → AllByRecursion P changed → AllByRecursion P (cond b (change r ∷ rows) (r ∷ changed))
    changed_here true r rows changed here all rest = (keeps r here, all)
    changed_here false r rows changed here all rest = (here, rest)

    all_changed : (rows : List EventRow) → AllByRecursion P rows → AllByRecursion P (change_row id change rows)
    all_changed [] all = tt
    all_changed (r ∷ rows) all = changed_here (has_id id r) r rows (change_row id change rows) all.0 all.1 (all_changed rows all.1)

all_then : (P Q : EventRow → Type 0) → ((r : EventRow) → P r → Q r) → (rows : List EventRow) → AllByRecursion P rows → AllByRecursion Q rows
all_then P Q follows [] all = tt
all_then P Q follows (r ∷ rows) all = (follows r all.0, all_then P Q follows rows all.1)

all_pass : (test : EventRow → Bool) (rows : List EventRow) → list_all test rows ≡ true → AllByRecursion (λ r. test r ≡ true) rows
all_pass test [] all = tt
all_pass test (r ∷ rows) all = let parts = and_parts (test r) (list_all test rows) all in (parts.0, all_pass test rows parts.1)

list_all-pass : (test : EventRow → Bool) (rows : List EventRow) → AllByRecursion (λ r. test r ≡ true) rows → list_all test rows ≡ true
list_all-pass test [] all = refl
list_all-pass test (r ∷ rows) all = and_from (test r) (list_all test rows) all.0 (list_all-pass test rows all.1)

-- ## How many rows there are

fewer_long : (b : Bool) (r : EventRow) (rows fewer : List EventRow) → length fewer ≤ length rows → length (cond b rows (r ∷ fewer)) ≤ length (r ∷ rows)
fewer_long true r rows fewer le = omega arith
fewer_long false r rows fewer le = omega arith

length-fewer : (id : List ℕ) (rows : List EventRow) → length (remove_row id rows) ≤ length rows
length-fewer id [] = omega arith
length-fewer id (r ∷ rows) = fewer_long (has_id id r) r rows (remove_row id rows) (length-fewer id rows)

changed_long : (b : Bool) (r other : EventRow) (rows changed : List EventRow) → length changed ≡ length rows → length (cond b (other ∷ rows) (r ∷ changed)) ≡ length (r ∷ rows)
changed_long true r other rows changed same = refl
changed_long false r other rows changed same = omega arith

length-changed : (id : List ℕ) (change : EventRow → EventRow) (rows : List EventRow) → length (change_row id change rows) ≡ length rows
length-changed id change [] = refl
length-changed id change (r ∷ rows) = changed_long (has_id id r) r (change r) rows (change_row id change rows) (length-changed id change rows)

-- ## Rows in order

abbrev IsBefore : EventRow → EventRow → Type 0
IsBefore row later = is_before row later ≡ true

abbrev InOrder : List EventRow → Type 0
InOrder [] = Unit {0}
InOrder (r ∷ rows) = AllByRecursion (IsBefore r) rows × InOrder rows

in_order : (rows : List EventRow) → are_in_order rows ≡ true → InOrder rows
in_order [] order = tt
in_order (r ∷ rows) order =
    let parts = and_parts (list_all (is_before r) rows) (are_in_order rows) order in
    (all_pass (is_before r) rows parts.0, in_order rows parts.1)

are_in_order-from : (rows : List EventRow) → InOrder rows → are_in_order rows ≡ true
are_in_order-from [] order = refl
are_in_order-from (r ∷ rows) order =
    and_from (list_all (is_before r) rows) (are_in_order rows) (list_all-pass (is_before r) rows order.0) (are_in_order-from rows order.1)

order_more : (rows : List EventRow) (r : EventRow) → InOrder rows → AllByRecursion (λ row. IsBefore row r) rows → InOrder (rows ++ r ∷ [])
order_more [] r order before = (tt, tt)
order_more (x ∷ rows) r order before = (all_more (IsBefore x) rows r order.0 before.0, order_more rows r order.1 before.1)

order_fewer_here : (b : Bool) (r : EventRow) (rows fewer : List EventRow) → AllByRecursion (IsBefore r) fewer → InOrder rows → InOrder fewer → InOrder (cond b rows (r ∷ fewer))
order_fewer_here true r rows fewer before order rest = order
order_fewer_here false r rows fewer before order rest = (before, rest)

order_fewer : (id : List ℕ) (rows : List EventRow) → InOrder rows → InOrder (remove_row id rows)
order_fewer id [] order = tt
order_fewer id (r ∷ rows) order =
    order_fewer_here (has_id id r) r rows (remove_row id rows) (all_fewer (IsBefore r) id rows order.0) order.1 (order_fewer id rows order.1)

-- a change that leaves each row's place in the order
record KeepsPlace (change : EventRow → EventRow) : Type 0 where
  before : (r later : EventRow) → IsBefore r later → IsBefore (change r) later
  behind : (r later : EventRow) → IsBefore r later → IsBefore r (change later)

module _ (id : List ℕ) (change : EventRow → EventRow) (keeps : KeepsPlace change) where
  order_changed_here : (b : Bool) (r : EventRow) (rows changed : List EventRow) → AllByRecursion (IsBefore r) rows → AllByRecursion (IsBefore r) changed → InOrder rows → InOrder changed → InOrder (cond b (change r ∷ rows) (r ∷ changed))
  order_changed_here true r rows changed before later order rest = (all_then (IsBefore r) (IsBefore (change r)) (keeps.before r) rows before, order)
  order_changed_here false r rows changed before later order rest = (later, rest)

  order_changed : (rows : List EventRow) → InOrder rows → InOrder (change_row id change rows)
  order_changed [] order = tt
  order_changed (r ∷ rows) order =
      order_changed_here (has_id id r) r rows (change_row id change rows) order.0 (all_changed (IsBefore r) id change (keeps.behind r) rows order.0) order.1 (order_changed rows order.1)

-- ## Rows without a fault

no_fault : (rows : List EventRow) → rows_fault rows ≡ None → AllByRecursion (λ r. row_fault r ≡ None) rows
no_fault [] none = tt
no_fault (r ∷ rows) none = let parts = both_none (row_fault r) (rows_fault rows) none in (parts.0, no_fault rows parts.1)
  where
    both_none : (first second : Option RecordError) → first_of_two first second ≡ None → (first ≡ None) × (second ≡ None)
    both_none (Some e) second none = absurd (cc)
    both_none None second none = (refl, none)

rows_fault-none : (rows : List EventRow) → AllByRecursion (λ r. row_fault r ≡ None) rows → rows_fault rows ≡ None
rows_fault-none [] all = refl
rows_fault-none (r ∷ rows) all = rw all.0 (rows_fault-none rows all.1)

-- ## One row

-- a standing that a row may have under these settings
record Stands (s : Settings) (x : Standing) : Type 0 where
  known : is_unknown x ≡ false
  environment : environment_in x ≤ s.environments
  rule : breaks_rule x ≡ false

-- a row that may stand in a table after so many commands
record FitsRow (s : Settings) (n : ℕ) (r : EventRow) : Type 0 where
  accepted : r.accepted ≤ greatest_moment
  number : r.number ≤ n
  stands : Stands s r.standing
  policy : is_bad_policy r.policy ≡ false
  payload_least : 1 ≤ length r.payload
  payload_most : length r.payload ≤ s.payload
  answer_most : length (answer_bytes r.answer) ≤ s.response

-- the limits of a row one by one
within_parts : (s : Settings) (r : EventRow) → is_row_within s r ≡ true → (length r.payload ≤ s.payload) × (length (answer_bytes r.answer) ≤ s.response) × (environment_in r.standing ≤ s.environments)
within_parts s r within =
    let outer = and_parts (nat_le (length r.payload) s.payload && nat_le (length (answer_bytes r.answer)) s.response) (nat_le (environment_in r.standing) s.environments) within in
    let inner = and_parts (nat_le (length r.payload) s.payload) (nat_le (length (answer_bytes r.answer)) s.response) outer.0 in
    (leb-true _ _ inner.0, leb-true _ _ inner.1, leb-true _ _ outer.1)

fits_row : (s : Settings) (n : ℕ) (r : EventRow) → row_fault r ≡ None → is_row_within s r ≡ true → r.number ≤ n → FitsRow s n r
fits_row s n r none within number =
    let sound = is_sound_row r none in
    let limits = within_parts s r within in
    record {
      accepted = ltb-false _ _ sound.accepted;
      number = number;
      stands = record { known = sound.known; environment = limits.2; rule = sound.rule };
      policy = sound.policy;
      payload_least = sound.payload_least;
      payload_most = limits.0;
      answer_most = limits.1;
    }

row_fault-none : (s : Settings) (n : ℕ) → Limits s → (r : EventRow) → FitsRow s n r → row_fault r ≡ None
row_fault-none s n limits r fits =
    no_row_fault r (record {
      accepted = le-ltb _ _ fits.accepted;
      known = fits.stands.known;
      environment = le-ltb 16 (environment_in r.standing) (omega arith);
      policy = fits.policy;
      payload_most = omega arith;
      payload_least = fits.payload_least;
      answer_most = omega arith;
      rule = fits.stands.rule;
    })

row_within : (s : Settings) (n : ℕ) (r : EventRow) → FitsRow s n r → is_row_within s r ≡ true
row_within s n r fits =
    and_from _ _ (and_from _ _ (le-leb _ _ fits.payload_most) (le-leb _ _ fits.answer_most)) (le-leb _ _ fits.stands.environment)

-- ## The row of a command

module _ (s : Settings) (c : Command) (time : c.time ≤ greatest_moment) where
  ended_fits : nat_lt greatest_moment c.time ≡ false
  ended_fits = le-ltb greatest_moment c.time time

  failed_fits : (ends : Bool) (due : ℕ) → Stands s (if ends then standing.Ended RetriesExhausted c.time else standing.DueAgain due)
  failed_fits true due = record { known = refl; environment = omega arith; rule = ended_fits }
  failed_fits false due = record { known = refl; environment = omega arith; rule = refl }

  started_fits : NoneFails (shape_checks s c Start) → (deadline : ℕ) → Stands s (standing.Running c.environment deadline)
  started_fits shape deadline =
      let bounds = or_parts (not (nat_lt 0 c.environment)) (nat_lt s.environments c.environment) shape.0 in
      let some : 0 < c.environment = ltb-true 0 c.environment (not-false (nat_lt 0 c.environment) bounds.0) in
      record { known = refl; environment = ltb-false s.environments c.environment bounds.1; rule = le-ltb c.environment 1 (omega arith) }

  -- where an event stands after a command that leaves it in the table
  stands_after : (policy : RetryPolicy) (k : Kind) (failures push_backs : ℕ) → NoneFails (shape_checks s c k) → kind_names k ≡ true → kind_is_collect k ≡ false → Stands s (standing_by (rules_with s policy) failures push_backs c k)
  stands_after policy Accept failures push_backs shape event stays = record { known = refl; environment = omega arith; rule = refl }
  stands_after policy Start failures push_backs shape event stays = started_fits shape _
  stands_after policy Succeed failures push_backs shape event stays = record { known = refl; environment = omega arith; rule = ended_fits }
  stands_after policy (Fail cause) failures push_backs shape event stays = failed_fits (nat_lt policy.retries failures) _
  stands_after policy Throttle failures push_backs shape event stays = record { known = refl; environment = omega arith; rule = refl }
  stands_after policy Interrupt failures push_backs shape event stays = record { known = refl; environment = omega arith; rule = refl }
  stands_after policy Expire failures push_backs shape event stays = record { known = refl; environment = omega arith; rule = ended_fits }
  stands_after policy Collect failures push_backs shape event stays = absurd (true≢false stays)
  stands_after policy (Configure next) failures push_backs shape event stays = absurd (true≢false (sym event))

  answer_fits : (k : Kind) (before : Answer) → NoneFails (shape_checks s c k) → length (answer_bytes before) ≤ s.response → length (answer_bytes (answer_by before k c.bytes)) ≤ s.response
  answer_fits Succeed before shape le = ltb-false _ _ shape.1.1.0
  answer_fits (Fail Reported) before shape le = ltb-false _ _ shape.1.1.0
  answer_fits k before shape le = le

  row_after-fits : (n : ℕ) (k : Kind) → NoneFails (shape_checks s c k) → kind_names k ≡ true → kind_is_collect k ≡ false → (r : EventRow) → FitsRow s n r → FitsRow s n (row_after s (n + 1) c k r)
  row_after-fits n k shape event stays r fits = record {
    accepted = fits.accepted;
    number = fits.number;
    stands = stands_after r.policy k _ _ shape event stays;
    policy = fits.policy;
    payload_least = fits.payload_least;
    payload_most = fits.payload_most;
    answer_most = answer_fits k r.answer shape fits.answer_most;
  }

  accepted_row-fits : (policy : RetryPolicy) (n : ℕ) → is_bad_policy policy ≡ false → NoneFails (shape_checks s c Accept) → FitsRow s n (accepted_row policy n c)
  accepted_row-fits policy n good shape = record {
    accepted = time;
    number = omega arith;
    stands = record { known = refl; environment = omega arith; rule = refl };
    policy = good;
    payload_least = ltb-false _ _ shape.1.1.1.0;
    payload_most = ltb-false _ _ shape.1.1.0;
    answer_most = omega arith;
  }

later_row : (s : Settings) (n : ℕ) (r : EventRow) → FitsRow s n r → FitsRow s (n + 1) r
later_row s n r fits =
    record { accepted = fits.accepted; number = omega arith; stands = fits.stands; policy = fits.policy; payload_least = fits.payload_least; payload_most = fits.payload_most; answer_most = fits.answer_most }

-- ## The rows after a command

-- rows that may stand in a table after so many commands
record Fit (s : Settings) (n : ℕ) (rows : List EventRow) : Type 0 where
  count : length rows ≤ s.events
  each : AllByRecursion (FitsRow s n) rows
  order : InOrder rows

module _ (s : Settings) (policy : RetryPolicy) (n : ℕ) (c : Command) where
  before_here : (b : Bool) (r : EventRow) (rows : List EventRow) → has_id c.id r ≡ b → FitsRow s n r
      → (is_unknown (standing_or_unknown (find (has_id c.id) rows)) ≡ true → AllByRecursion (λ row. IsBefore row (accepted_row policy (n + 1) c)) rows)
      → is_unknown (standing_or_unknown (cond b (Some r) (find (has_id c.id) rows))) ≡ true → AllByRecursion (λ row. IsBefore row (accepted_row policy (n + 1) c)) (r ∷ rows)
  before_here true r rows same fits rest unknown = absurd (true≢false (sym unknown ∙ fits.stands.known))
  before_here false r rows same fits rest unknown =
      (and_from _ _ (lt-ltb r.number (n + 1) (omega arith)) (not_from_false _ (bytes_eq-sym r.id c.id ∙ same)), rest unknown)

  -- each row is before that of an event that is not held
  before_new : (rows : List EventRow) → AllByRecursion (FitsRow s n) rows → is_unknown (standing_or_unknown (find (has_id c.id) rows)) ≡ true → AllByRecursion (λ row. IsBefore row (accepted_row policy (n + 1) c)) rows
  before_new [] fit unknown = tt
  before_new (r ∷ rows) fit unknown = before_here (has_id c.id r) r rows refl fit.0 (before_new rows fit.1) unknown

module _ (s : Settings) (table : Snapshot) (c : Command) (time : c.time ≤ greatest_moment) (good : is_bad_policy table.policy ≡ false) (fit : Fit s table.number table.rows) where
  later_rows : (rows : List EventRow) → AllByRecursion (FitsRow s table.number) rows → AllByRecursion (FitsRow s (table.number + 1)) rows
  later_rows rows each = all_then (FitsRow s table.number) (FitsRow s (table.number + 1)) (later_row s table.number) rows each

  fit_accepted : NoneFails (shape_checks s c Accept) → NoneFails (state_checks s (situation_at s table c) c Accept) → Fit s (table.number + 1) (table.rows ++ accepted_row table.policy (table.number + 1) c ∷ [])
  unfolding standing_at
  fit_accepted shape state =
      let room : length table.rows < s.events = leb-false _ _ state.1.0 in
      record {
        count = omega (arith, length-append table.rows (accepted_row table.policy (table.number + 1) c ∷ []));
        each = all_more (FitsRow s (table.number + 1)) table.rows (accepted_row table.policy (table.number + 1) c) (later_rows table.rows fit.each) (accepted_row-fits s c time table.policy (table.number + 1) good shape);
        order = order_more table.rows (accepted_row table.policy (table.number + 1) c) fit.order (before_new s table.policy table.number c table.rows fit.each (not-false _ state.0));
      }

  fit_changed : (k : Kind) → NoneFails (shape_checks s c k) → kind_names k ≡ true → kind_is_collect k ≡ false → Fit s (table.number + 1) (change_row c.id (row_after s (table.number + 1) c k) table.rows)
  fit_changed k shape event stays =
      let change : EventRow → EventRow = row_after s (table.number + 1) c k in
      record {
        count = omega (arith, length-changed c.id change table.rows);
        each = later_rows (change_row c.id change table.rows) (all_changed (FitsRow s table.number) c.id change (row_after-fits s c time table.number k shape event stays) table.rows fit.each);
        order = order_changed c.id change (record { before = λ r later is. is; behind = λ r later is. is }) table.rows fit.order;
      }

  fit_collected : Fit s (table.number + 1) (remove_row c.id table.rows)
  fit_collected =
      record {
        count = omega (arith, length-fewer c.id table.rows);
        each = later_rows (remove_row c.id table.rows) (all_fewer (FitsRow s table.number) c.id table.rows fit.each);
        order = order_fewer c.id table.rows fit.order;
      }

  fit_left : Fit s (table.number + 1) table.rows
  fit_left = record { count = fit.count; each = later_rows table.rows fit.each; order = fit.order }

  fit_after : (k : Kind) → NoneFails (shape_checks s c k) → NoneFails (state_checks s (situation_at s table c) c k) → Fit s (table.number + 1) (rows_after s table.policy (table.number + 1) c k table.rows)
  fit_after Accept shape state = fit_accepted shape state
  fit_after Start shape state = fit_changed Start shape refl refl
  fit_after Succeed shape state = fit_changed Succeed shape refl refl
  fit_after (Fail cause) shape state = fit_changed (Fail cause) shape refl refl
  fit_after Throttle shape state = fit_changed Throttle shape refl refl
  fit_after Interrupt shape state = fit_changed Interrupt shape refl refl
  fit_after Expire shape state = fit_changed Expire shape refl refl
  fit_after Collect shape state = fit_collected
  fit_after (Configure next) shape state = fit_left

-- ## The laws

-- a table that can be written under these settings, and after further legal commands too
pub record IsFit (s : Settings) (table : Snapshot) : Type 0 where
  pub fault : snapshot_fault table ≡ None
  pub within : is_within s table ≡ true
  pub numbers : AllByRecursion (λ r. r.number ≤ table.number) table.rows

rows_fit : (s : Settings) (n : ℕ) (rows : List EventRow) → AllByRecursion (λ r. row_fault r ≡ None) rows → AllByRecursion (λ r. is_row_within s r ≡ true) rows → AllByRecursion (λ r. r.number ≤ n) rows → AllByRecursion (FitsRow s n) rows
rows_fit s n [] none within numbers = tt
rows_fit s n (r ∷ rows) none within numbers = (fits_row s n r none.0 within.0 numbers.0, rows_fit s n rows none.1 within.1 numbers.1)

-- of a table that is fit, its rows are
fit_rows : (s : Settings) (table : Snapshot) → IsFit s table → Fit s table.number table.rows
fit_rows s table fit =
    let sound = is_sound_snapshot table fit.fault in
    let within = and_parts (nat_le (length table.rows) s.events) (list_all (is_row_within s) table.rows) fit.within in
    record {
      count = leb-true _ _ within.0;
      each = rows_fit s table.number table.rows (no_fault table.rows sound.rows) (all_pass (is_row_within s) table.rows within.1) fit.numbers;
      order = in_order table.rows sound.order;
    }

fit_from : (s : Settings) (table : Snapshot) → Limits s → table.number ≤ greatest_number → table.last_moment ≤ greatest_moment → is_bad_policy table.policy ≡ false → Fit s table.number table.rows → IsFit s table
fit_from s table limits number last_moment policy fit =
    let n = table.number in
    record {
      fault = no_snapshot_fault table (record {
        number = le-ltb _ _ number;
        last_moment = le-ltb _ _ last_moment;
        policy = policy;
        count = omega arith;
        rows = rows_fault-none table.rows (all_then (FitsRow s n) (λ r. row_fault r ≡ None) (row_fault-none s n limits) table.rows fit.each);
        order = are_in_order-from table.rows fit.order;
      });
      within = and_from _ _ (le-leb _ _ fit.count) (list_all-pass (is_row_within s) table.rows (all_then (FitsRow s n) (λ r. is_row_within s r ≡ true) (row_within s n) table.rows fit.each));
      numbers = all_then (FitsRow s n) (λ r. r.number ≤ n) (λ r fits. fits.number) table.rows fit.each;
    }

pub empty_fit : (s : Settings) → bad_field s ≡ None → IsFit s (empty_table s)
empty_fit s good = record {
  fault = no_snapshot_fault (empty_table s) (record { number = refl; last_moment = refl; policy = (limits s good).policy; count = omega arith; rows = refl; order = refl });
  within = and_from _ _ (le-leb 0 s.events (omega arith)) refl;
  numbers = tt;
}

-- what is in force stays within its ranges
good_policy : (s : Settings) (c : Command) (policy : RetryPolicy) (k : Kind) → NoneFails (shape_checks s c k) → is_bad_policy policy ≡ false → is_bad_policy (policy_by policy k) ≡ false
good_policy s c policy Accept shape good = good
good_policy s c policy Start shape good = good
good_policy s c policy Succeed shape good = good
good_policy s c policy (Fail cause) shape good = good
good_policy s c policy Throttle shape good = good
good_policy s c policy Interrupt shape good = good
good_policy s c policy Expire shape good = good
good_policy s c policy Collect shape good = good
good_policy s c policy (Configure next) shape good = shape.1.1.1.1.0

-- a table stays fit under a command that is not refused
pub after_fit : (s : Settings) (table : Snapshot) (c : Command) → bad_field s ≡ None → table.number < 2 ^ 62 → IsFit s table → refusal_at s table c ≡ None → IsFit s (table_after s table c)
unfolding refusal_at table_after
after_fit s table c good below fit passes =
    let time : c.time ≤ greatest_moment = legal_time s table c passes in
    let x = situation_at s table c in
    let policy : is_bad_policy table.policy ≡ false = (is_sound_snapshot table fit.fault).policy in
    fit_from s (table_after s table c) (limits s good) (omega arith) time (good_policy s c table.policy c.kind (shape_passes s x c passes) policy)
    (fit_after s table c time policy (fit_rows s table fit) c.kind (shape_passes s x c passes) (state_passes s x c passes))

-- the table of a legal history is fit
pub history_fit : (s : Settings) (h : List Command) → bad_field s ≡ None → IsLegal s h → length h ≤ 2 ^ 62 → IsFit s (table_of s h)
history_fit s h good legal short =
    legally s (λ h. length h ≤ 2 ^ 62 → IsFit s (table_of s h))
    (λ _. subst (IsFit s) (sym (table_of-nil s)) (empty_fit s good))
    (λ h c legal passes fit short.
    let longer = length-append h (c ∷ []) in
    subst (IsFit s) (table_of-more s h c good legal passes)
    (after_fit s (table_of s h) c good (omega (arith, number-table_of s h)) (fit (omega arith)) (refusal-of_table s h c good legal ∙ passes)))
    h
    legal
    short

rows_length : (s : Settings) (rows : List EventRow) → AllByRecursion IsWithinWidth rows → AllByRecursion (λ r. is_row_within s r ≡ true) rows → length (flat_map row_text rows) ≤ length rows * (78 + s.payload + s.response)
rows_length s [] widths within = omega arith
rows_length s (r ∷ rows) widths within =
    let most = within_parts s r within.0 in
    omega (arith, ap length (flat_map-cons row_text r rows), length-append (row_text r) (flat_map row_text rows), row_length r widths.0.id, most.0, most.1, rows_length s rows widths.1 within.1)

-- a spelling within the limits has at most so many bytes
pub spelled_within : (s : Settings) (table : Snapshot) → is_within s table ≡ true → IsSnapshot table → length (snapshot_text table) ≤ most_snapshot s
unfolding snapshot_text
spelled_within s table within spelled =
    let parts = and_parts (nat_le (length table.rows) s.events) (list_all (is_row_within s) table.rows) within in
    let each = 78 + s.payload + s.response in
    omega (
      arith,
      rows_length s table.rows spelled.within (all_pass (is_row_within s) table.rows parts.1),
      mul-le-mul_right each (leb-true (length table.rows) s.events parts.0),
    )
