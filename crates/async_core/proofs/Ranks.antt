-- The first row of an index is the one that goes first.
use Rattle.std.proofs.Common.{◌≡◌, ℕ, ◌<◌, zero, suc, List, [], ◌∷◌, length, Bool, true, false, ◌||◌, ◌==◌, Option, Some, None, refl, sym, ap, ◌∙◌, subst, arith, All, get_or, nat_le, min, if◌then◌else◌}
use Rattle.std.specs.Prelude.{option_map, is_some}
use Rattle.std.specs.Borrow.{Bor}
use Rattle.std.specs.Option.{option_copied}
use Rattle.std.proofs.lemmas.Bool.{true≢false, leb-true, leb-false, le-leb, lt-leb}
use Rattle.std.proofs.lemmas.Bool.Decides.{nat_tests}
use Rattle.retry_rules.specs.declared.policy.RetryPolicy.{RetryPolicy}
use Rattle.retry_rules.specs.declared.settings.Settings.{Settings}
use Rattle.invoke_records.specs.declared.command.Command.{Command}
use Rattle.invoke_records.specs.declared.command.Kind.{Kind}
use Rattle.invoke_records.specs.declared.command.Kind.TheVariants.{Accept, Start, Succeed, Fail, Throttle, Interrupt, Expire, Collect, Configure}
use Rattle.invoke_records.specs.declared.row.EventRow.{EventRow}
use Rattle.invoke_records.specs.declared.row.Standing.{Standing}
use Rattle.invoke_records.specs.declared.row.Standing.TheVariants as standing
use Rattle.async_core.specs.declared.choice.Order.{Order}
use Rattle.async_core.specs.declared.choice.Order.TheVariants as order
use Rattle.async_core.specs.declared.keys.Index.TheVariants.{Ripe, Deadline, Environment}
use Rattle.async_core.specs.Standings.{runs_in}
use Rattle.async_core.specs.Rules.{rows_after, row_after, change_row, is_busy_at, too_old_at}
use Rattle.async_core.specs.Choice.{rank, NotBefore, IsChosen, start_or_throttle, move_when_due, move_by, ripe_by}
use Rattle.async_core.specs.Keys.{facts_of, key_within, row_key, IsFirstBy, ripe_key, deadline_key, environment_key, idle_key}
use Rattle.async_core.specs.Kept.{NoneExpired}

-- what a command of any other kind does
pub other_rows : (s : Settings) (policy : RetryPolicy) (n : ℕ) (c : Command) (rows : List EventRow) (k : Kind) → (k ≡ Accept → ⊥) → (k ≡ Collect → ⊥) → ((next : RetryPolicy) → k ≡ Configure next → ⊥) → change_row c.id (row_after s n c k) rows ≡ rows_after s policy n c k rows
other_rows s policy n c rows Accept accepts collects configures = absurd (accepts refl)
other_rows s policy n c rows Start accepts collects configures = refl
other_rows s policy n c rows Succeed accepts collects configures = refl
other_rows s policy n c rows (Fail cause) accepts collects configures = refl
other_rows s policy n c rows Throttle accepts collects configures = refl
other_rows s policy n c rows Interrupt accepts collects configures = refl
other_rows s policy n c rows Expire accepts collects configures = refl
other_rows s policy n c rows Collect accepts collects configures = absurd (collects refl)
other_rows s policy n c rows (Configure next) accepts collects configures = absurd (configures next refl)

-- ## Ranks that agree choose alike

chosen_by : (o : Order) (ranked : EventRow → Option (ℕ × ℕ)) (rows : List EventRow) (found : Option EventRow) → All (λ r. ranked r ≡ rank o r) rows → IsFirstBy ranked rows found → IsChosen o rows found
chosen_by o ranked rows None same none = λ k d lt. sym (same k d lt) ∙ none k d lt
chosen_by o ranked rows (Some row) same first = record {
  is_there = first.is_there;
  at = first.at;
  ranked = sym (subst (λ r. ranked r ≡ rank o r) first.is_there.2 (same first.is_there.0 row first.is_there.1)) ∙ first.has;
  least = λ k d lt. subst (NotBefore first.at) (same k d lt) (first.least k d lt);
}

-- ## Moves where as many run as may, or an environment is ready

some_move : (full ready : Bool) → (full || ready) ≡ true → (k : Kind) → (a : ℕ × ℕ) → option_map (λ (kind : Kind). a) (start_or_throttle full ready) ≡ Some a
some_move true ready h k a = refl
some_move false true h k a = refl
some_move false false h k a = absurd (true≢false (sym h))

due_rank : (full ready : Bool) → (full || ready) ≡ true → (too_old now due number : ℕ) (old is_due : Bool) → nat_le too_old now ≡ old → nat_le due now ≡ is_due
    → key_within 0 (Some now) (Some (min due too_old, number)) ≡ option_map (λ (kind : Kind). (min due too_old, number)) (move_when_due full ready too_old now due)
due_rank full ready free too_old now due number true is_due old_is due_is =
    let low : nat_le 0 (min due too_old) ≡ true = le-leb 0 (min due too_old) (omega arith) in
    let high : nat_le (min due too_old) now ≡ true = le-leb (min due too_old) now (omega (arith, leb-true too_old now old_is)) in
    rw (old_is, low, high) refl
due_rank full ready free too_old now due number false true old_is due_is =
    let low : nat_le 0 (min due too_old) ≡ true = le-leb 0 (min due too_old) (omega arith) in
    let high : nat_le (min due too_old) now ≡ true = le-leb (min due too_old) now (omega (arith, leb-true due now due_is)) in
    rw (old_is, due_is, low, high) (sym (some_move full ready free Start (min due too_old, number)))
due_rank full ready free too_old now due number false false old_is due_is =
    let low : nat_le 0 (min due too_old) ≡ true = le-leb 0 (min due too_old) (omega arith) in
    let high : nat_le (min due too_old) now ≡ false = lt-leb (min due too_old) now (omega (arith, leb-false due now due_is, leb-false too_old now old_is)) in
    rw (old_is, due_is, low, high) refl

pub running_rank : (now deadline number : ℕ) (b : Bool) → nat_le deadline now ≡ b → (k : Kind) → key_within 0 (Some now) (Some (deadline, number)) ≡ option_map (λ (kind : Kind). (deadline, number)) (if b then Some k else None)
running_rank now deadline number true h k =
    let low : nat_le 0 deadline ≡ true = le-leb 0 deadline (omega arith) in
    rw (low, h) refl
running_rank now deadline number false h k =
    let low : nat_le 0 deadline ≡ true = le-leb 0 deadline (omega arith) in
    rw (low, h) refl

ripe_rank : (now : ℕ) (ready full : Bool) → (full || ready) ≡ true → (r : EventRow) (st : Standing) → key_within 0 (Some now) (ripe_key (facts_of r) st) ≡ option_map (λ (kind : Kind). (ripe_by (too_old_at r) st, r.number)) (move_by full ready (too_old_at r) now st)
ripe_rank now ready full free r standing.Unknown = refl
ripe_rank now ready full free r (standing.Waiting due) = due_rank full ready free (too_old_at r) now due r.number (nat_le (too_old_at r) now) (nat_le due now) refl refl
ripe_rank now ready full free r (standing.DueAgain due) = due_rank full ready free (too_old_at r) now due r.number (nat_le (too_old_at r) now) (nat_le due now) refl refl
ripe_rank now ready full free r (standing.Running environment deadline) = running_rank now deadline r.number (nat_le deadline now) refl _
ripe_rank now ready full free r (standing.Ended outcome at) = refl

pub chosen_ripe : (now : ℕ) (ready full : Bool) (rows : List EventRow) (found : Option EventRow) → (full || ready) ≡ true → IsFirstBy (row_key Ripe 0 (Some now)) rows found → IsChosen (order.Moving now ready full) rows found
chosen_ripe now ready full rows found free = chosen_by (order.Moving now ready full) (row_key Ripe 0 (Some now)) rows found (λ k d lt. ripe_rank now ready full free (get_or rows k d) (get_or rows k d).standing)

-- ## Moves where none is ready, fewer run than may, and none that waits is too old

idle_rank : (too_old now due : ℕ) (a : ℕ × ℕ) (is_due : Bool) → nat_le due now ≡ is_due → now < too_old → None ≡ option_map (λ (kind : Kind). a) (move_when_due false false too_old now due)
idle_rank too_old now due a true due_is young =
    let old : nat_le too_old now ≡ false = lt-leb too_old now young in
    rw (old, due_is) refl
idle_rank too_old now due a false due_is young =
    let old : nat_le too_old now ≡ false = lt-leb too_old now young in
    rw (old, due_is) refl

deadline_rank : (now : ℕ) (r : EventRow) (st : Standing) → (is_some (idle_key (facts_of r) st) ≡ true → now < too_old_at r)
    → key_within 0 (Some now) (deadline_key (facts_of r) st) ≡ option_map (λ (kind : Kind). (ripe_by (too_old_at r) st, r.number)) (move_by false false (too_old_at r) now st)
deadline_rank now r standing.Unknown young = refl
deadline_rank now r (standing.Waiting due) young = idle_rank (too_old_at r) now due (min due (too_old_at r), r.number) (nat_le due now) refl (young refl)
deadline_rank now r (standing.DueAgain due) young = idle_rank (too_old_at r) now due (min due (too_old_at r), r.number) (nat_le due now) refl (young refl)
deadline_rank now r (standing.Running environment deadline) young = running_rank now deadline r.number (nat_le deadline now) refl _
deadline_rank now r (standing.Ended outcome at) young = refl

pub chosen_deadline : (rows : List EventRow) (now : ℕ) (found : Option EventRow) → NoneExpired now rows → IsFirstBy (row_key Deadline 0 (Some now)) rows found → IsChosen (order.Moving now false false) rows found
chosen_deadline rows now found young = chosen_by (order.Moving now false false) (row_key Deadline 0 (Some now)) rows found (λ k d lt. deadline_rank now (get_or rows k d) (get_or rows k d).standing (young k d lt))

-- ## An environment that runs an event

in_environment : (e : ℕ) (o : Bool) (n : ℕ) → is_some (key_within e (Some e) (Some (n, 0))) ≡ (n == e)
in_environment e o n = grind (arith, nat_tests)

runs_there : (e : ℕ) (r : EventRow) (st : Standing) → is_some (key_within e (Some e) (environment_key (facts_of r) st)) ≡ runs_in e st
runs_there e r standing.Unknown = refl
runs_there e r (standing.Waiting due) = refl
runs_there e r (standing.DueAgain due) = refl
runs_there e r (standing.Running environment deadline) = in_environment e true environment
runs_there e r (standing.Ended outcome at) = refl

any_none : (e : ℕ) (rows : List EventRow) → All (λ (r : EventRow). runs_in e r.standing ≡ false) rows → is_busy_at e rows ≡ false
any_none e [] none = refl
any_none e (r ∷ rows) none = rw (none zero r (omega arith)) (any_none e rows (λ k d lt. none (suc k) d (omega arith)))

any_some : (e : ℕ) (rows : List EventRow) (row : EventRow) (k : ℕ) → k < length rows → get_or rows k row ≡ row → runs_in e row.standing ≡ true → is_busy_at e rows ≡ true
any_some e [] row k lt is runs = absurd (omega arith)
any_some e (r ∷ rows) row zero lt is runs = rw (is, runs) refl
any_some e (r ∷ rows) row (suc k) lt is runs = or_true (runs_in e r.standing) (is_busy_at e rows) (any_some e rows row k (omega arith) is runs)
  where
    or_true : (a b : Bool) → b ≡ true → (a || b) ≡ true
    or_true true b h = refl
    or_true false b h = h

busy_at : (e : ℕ) (rows : List EventRow) (found : Option EventRow) → IsFirstBy (row_key Environment e (Some e)) rows found → is_some found ≡ is_busy_at e rows
busy_at e rows None none = sym (any_none e rows (λ k d lt. sym (runs_there e (get_or rows k d) (get_or rows k d).standing) ∙ ap is_some (none k d lt)))
busy_at e rows (Some row) first = sym (any_some e rows row first.is_there.0 first.is_there.1 first.is_there.2 (sym (runs_there e row row.standing) ∙ ap is_some first.has))

copied : (o : Option (Bor EventRow)) → is_some (option_copied o) ≡ is_some o
copied None = refl
copied (Some r) = refl

pub busy : (e low last : ℕ) (rows : List EventRow) (found : Option (Bor EventRow)) → low ≡ e → last ≡ e → IsFirstBy (row_key Environment low (Some last)) rows (option_copied found) → is_some found ≡ is_busy_at e rows
busy e low last rows found from to first =
    sym (copied found)
    ∙ busy_at e rows (option_copied found)
    (subst (λ (x : ℕ). IsFirstBy (row_key Environment x (Some e)) rows (option_copied found)) from (subst (λ (y : ℕ). IsFirstBy (row_key Environment low (Some y)) rows (option_copied found)) to first))
