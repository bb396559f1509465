-- What one command more does to marks and to the table that follows from them.
use Rattle.std.proofs.Common.{◌≡◌, ℕ, zero, suc, ◌+◌, inl, inr, subst, List, [], ◌∷◌, ◌++◌, length, map, Bool, true, false, refl, sym, ap, ◌∙◌, arith, Option, Some, None, length-append}
use Rattle.std.specs.Prelude.{option_map, if◌then◌else◌}
use Rattle.std.specs.List.{range_with_len}
use Rattle.std.proofs.lemmas.List.{map-append, append-nil}
use Rattle.retry_rules.specs.declared.policy.RetryPolicy.{RetryPolicy}
use Rattle.retry_rules.specs.declared.settings.Settings.{Settings}
use Rattle.invoke_records.specs.declared.snapshot.Snapshot.{Snapshot}
use Rattle.invoke_records.specs.declared.command.Command.{Command}
use Rattle.invoke_records.specs.declared.command.Kind.{Kind}
use Rattle.invoke_records.specs.declared.command.Kind.TheVariants.{Accept, Start, Succeed, Fail, Throttle, Interrupt, Expire, Collect, Configure}
use Rattle.invoke_records.specs.declared.row.EventRow.{EventRow}
use Rattle.invoke_records.specs.declared.row.Standing.{Standing}
use Rattle.invoke_records.specs.declared.row.Standing.TheVariants as standing
use Rattle.async_core.specs.Policies.{policy_by}
use Rattle.async_core.specs.Rules.{has_id, row_after, rows_after, change_row, remove_row, accepted_row, table_after}
use Rattle.hall_plans.specs.declared.issued.Issued.{Issued}
use Rattle.hall_plans.specs.Run.{option_list}
use Rattle.hall_core.specs.Issuing.{told_of, table_by}
use Rattle.receipts.specs.declared.mark.Mark.{Mark}
use Rattle.receipts.specs.Marks.{mark_of, marks_by, AreNumbered}
use Rattle.api_core.specs.declared.call.Call.{Call}
use Rattle.hall_plans.specs.Asked.{IsAsked}
use Rattle.receipts.specs.Answers.{AddsAtMostOne, AddsAnswered, AddsAsked}
use Rattle.receipts.specs.Locked.{number_of}
use Rattle.receipts.specs.Following.{bare_standing, bare_row, bare, TellTheSame, command_of, table_after_marks, Follows}

-- ## Numbers

range_more : (n a : ℕ) → range_with_len a (suc n) ≡ range_with_len a n ++ (a + n) ∷ []
range_more zero a = let e : a ≡ a + 0 = omega arith in ap (λ x. x ∷ []) e
range_more (suc n) a =
    let e : a + 1 + n ≡ a + suc n = omega arith in
    ap (λ l. a ∷ l) (range_more n (a + 1) ∙ ap (λ x. range_with_len (a + 1) n ++ x ∷ []) e)

-- ## Without bytes and environments

bare_standing_twice : (st : Standing) → bare_standing (bare_standing st) ≡ bare_standing st
bare_standing_twice standing.Unknown = refl
bare_standing_twice (standing.Waiting due) = refl
bare_standing_twice (standing.DueAgain due) = refl
bare_standing_twice (standing.Running environment deadline) = refl
bare_standing_twice (standing.Ended outcome at) = refl

bare_row_twice : (r : EventRow) → bare_row (bare_row r) ≡ bare_row r
bare_row_twice r = ap (λ st. record (bare_row r) { standing = st }) (bare_standing_twice r.standing)

bare_rows_twice : (rows : List EventRow) → map bare_row (map bare_row rows) ≡ map bare_row rows
bare_rows_twice [] = refl
bare_rows_twice (r ∷ rows) = ap (λ x. x ∷ map bare_row (map bare_row rows)) (bare_row_twice r) ∙ ap (λ l. bare_row r ∷ l) (bare_rows_twice rows)

-- a command without bytes and environment
abbrev bare_command : Command → Command
bare_command c = record { kind = c.kind; id = c.id; environment = 0; time = c.time; bytes = [] }

row_alike : (s : Settings) (n : ℕ) (c : Command) (kind : Kind) (r : EventRow)
    → bare_row (row_after s n c kind r) ≡ bare_row (row_after s n (bare_command c) kind (bare_row r))
row_alike s n c Accept r = refl
row_alike s n c Start r = refl
row_alike s n c Succeed r = refl
row_alike s n c (Fail cause) r = refl
row_alike s n c Throttle r = refl
row_alike s n c Interrupt r = refl
row_alike s n c Expire r = refl
row_alike s n c Collect r = refl
row_alike s n c (Configure policy) r = refl

module _ (s : Settings) (n : ℕ) (c : Command) (kind : Kind) where
  changes_here : (b : Bool) (r : EventRow) (rows : List EventRow)
      → map bare_row (change_row c.id (row_after s n c kind) rows) ≡ map bare_row (change_row c.id (row_after s n (bare_command c) kind) (map bare_row rows))
      → map bare_row (if b then row_after s n c kind r ∷ rows else r ∷ change_row c.id (row_after s n c kind) rows)
      ≡ map bare_row (if b then row_after s n (bare_command c) kind (bare_row r) ∷ map bare_row rows
      else bare_row r ∷ change_row c.id (row_after s n (bare_command c) kind) (map bare_row rows))
  changes_here true r rows later =
      ap (λ x. x ∷ map bare_row rows) (row_alike s n c kind r)
      ∙ ap (λ l. bare_row (row_after s n (bare_command c) kind (bare_row r)) ∷ l) (sym (bare_rows_twice rows))
  changes_here false r rows later =
      ap (λ x. x ∷ map bare_row (change_row c.id (row_after s n c kind) rows)) (sym (bare_row_twice r))
      ∙ ap (λ l. bare_row (bare_row r) ∷ l) later

  changes : (rows : List EventRow)
      → map bare_row (change_row c.id (row_after s n c kind) rows) ≡ map bare_row (change_row c.id (row_after s n (bare_command c) kind) (map bare_row rows))
  changes [] = refl
  changes (r ∷ rows) = changes_here (has_id c.id r) r rows (changes rows)

module _ (id : List ℕ) where
  removes_here : (b : Bool) (r : EventRow) (rows : List EventRow)
      → map bare_row (remove_row id rows) ≡ map bare_row (remove_row id (map bare_row rows))
      → map bare_row (if b then rows else r ∷ remove_row id rows) ≡ map bare_row (if b then map bare_row rows else bare_row r ∷ remove_row id (map bare_row rows))
  removes_here true r rows later = sym (bare_rows_twice rows)
  removes_here false r rows later =
      ap (λ x. x ∷ map bare_row (remove_row id rows)) (sym (bare_row_twice r)) ∙ ap (λ l. bare_row (bare_row r) ∷ l) later

  removes : (rows : List EventRow) → map bare_row (remove_row id rows) ≡ map bare_row (remove_row id (map bare_row rows))
  removes [] = refl
  removes (r ∷ rows) = removes_here (has_id id r) r rows (removes rows)

adds : (policy : RetryPolicy) (n : ℕ) (c : Command) (rows : List EventRow)
    → map bare_row (rows ++ accepted_row policy n c ∷ []) ≡ map bare_row (map bare_row rows ++ accepted_row policy n (bare_command c) ∷ [])
adds policy n c rows =
    map-append bare_row rows (accepted_row policy n c ∷ [])
    ∙ ap (λ l. l ++ bare_row (accepted_row policy n c) ∷ []) (sym (bare_rows_twice rows))
    ∙ sym (map-append bare_row (map bare_row rows) (accepted_row policy n (bare_command c) ∷ []))

rows_alike : (s : Settings) (policy : RetryPolicy) (n : ℕ) (c : Command) (kind : Kind) (rows : List EventRow)
    → map bare_row (rows_after s policy n c kind rows) ≡ map bare_row (rows_after s policy n (bare_command c) kind (map bare_row rows))
rows_alike s policy n c Accept rows = adds policy n c rows
rows_alike s policy n c Start rows = changes s n c Start rows
rows_alike s policy n c Succeed rows = changes s n c Succeed rows
rows_alike s policy n c (Fail cause) rows = changes s n c (Fail cause) rows
rows_alike s policy n c Throttle rows = changes s n c Throttle rows
rows_alike s policy n c Interrupt rows = changes s n c Interrupt rows
rows_alike s policy n c Expire rows = changes s n c Expire rows
rows_alike s policy n c Collect rows = removes c.id rows
rows_alike s policy n c (Configure next) rows = sym (bare_rows_twice rows)

-- what a command does shows in the bare table by the bare command
after_alike : (s : Settings) (t : Snapshot) (c : Command) → bare (table_after s t c) ≡ bare (table_after s (bare t) (bare_command c))
unfolding table_after
after_alike s t c =
    ap (λ rows. record { number = t.number + 1; last_moment = c.time; policy = policy_by t.policy c.kind; rows = rows }) (rows_alike s t.policy (t.number + 1) c c.kind t.rows)

-- two tables that tell the same do so after a command and its mark
alike_after : (s : Settings) (t u : Snapshot) (c : Command) (mark : Mark) → TellTheSame t u → bare_command c ≡ command_of mark
    → TellTheSame (table_after s t c) (table_after s u (command_of mark))
alike_after s t u c mark same is =
    after_alike s t c
    ∙ ap (λ b. bare (table_after s b (bare_command c))) same
    ∙ ap (λ d. bare (table_after s (bare u) d)) is
    ∙ sym (after_alike s u (command_of mark))

after_marks_more : (s : Settings) (t : Snapshot) (marks : List Mark) (mark : Mark)
    → table_after_marks s t (marks ++ mark ∷ []) ≡ table_after s (table_after_marks s t marks) (command_of mark)
after_marks_more s t [] mark = refl
after_marks_more s t (first ∷ marks) mark = after_marks_more s (table_after s t (command_of first)) marks mark

-- ## One command more, or none

module _ (before desk : ℕ) (marks : List Mark) where
  -- the marks stay numbered
  numbered_more : (command : Option Command) (n : ℕ) → n ≡ before + length marks → AreNumbered before marks
      → AreNumbered before (marks ++ marks_by desk (option_map (told_of n) command))
  numbered_more None n is numbered = rw (append-nil marks) numbered
  numbered_more (Some c) n is numbered =
      let next : n + 1 ≡ before + 1 + length marks = omega (arith, is) in
      let size : suc (length marks) ≡ length (marks ++ mark_of desk (told_of n c) ∷ []) = omega (arith, length-append marks (mark_of desk (told_of n c) ∷ [])) in
      map-append (λ (mark : Mark). mark.number) marks (mark_of desk (told_of n c) ∷ [])
      ∙ ap (λ l. l ++ (n + 1) ∷ []) numbered
      ∙ ap (λ k. range_with_len (before + 1) (length marks) ++ k ∷ []) next
      ∙ sym (range_more (length marks) (before + 1))
      ∙ ap (range_with_len (before + 1)) size

  -- as many were issued as are marked
  reached_more : (command : Option Command) (n m : ℕ) → n ≡ before + length marks → m ≡ n + length (option_list command)
      → m ≡ before + length (marks ++ marks_by desk (option_map (told_of n) command))
  reached_more None n m is more = omega (arith, is, more, length-append marks [])
  reached_more (Some c) n m is more = omega (arith, is, more, length-append marks (mark_of desk (told_of n c) ∷ []))

module _ (desk : ℕ) (marks : List Mark) where
  -- the table follows from the marks
  follows_more : (s : Settings) (opening old : Snapshot) (command : Option Command) (n : ℕ) → Follows s opening marks old
      → Follows s opening (marks ++ marks_by desk (option_map (told_of n) command)) (table_by s old command)
  follows_more s opening old None n follows = follows ∙ ap (λ l. bare (table_after_marks s opening l)) (sym (append-nil marks))
  follows_more s opening old (Some c) n follows =
      alike_after s old (table_after_marks s opening marks) c (mark_of desk (told_of n c)) follows refl
      ∙ ap bare (sym (after_marks_more s opening marks (mark_of desk (told_of n c))))

-- ## What a call issued

module _ (desk n : ℕ) (marks later : List Mark) (command : Option Command) (issued : Option Issued)
    (added : later ≡ marks ++ marks_by desk issued) (told : issued ≡ option_map (told_of n) command) where
  are : later ≡ marks ++ marks_by desk (option_map (told_of n) command)
  are = added ∙ ap (λ i. marks ++ marks_by desk i) told

  pub numbered_by : (before : ℕ) → n ≡ before + length marks → AreNumbered before marks → AreNumbered before later
  numbered_by before is numbered = rw are (numbered_more before desk marks command n is numbered)

  pub reached_by : (before m : ℕ) → n ≡ before + length marks → m ≡ n + length (option_list command) → m ≡ before + length later
  reached_by before m is more = reached_more before desk marks command n m is more ∙ ap (λ l. before + length l) (sym are)

  pub follows_by : (s s' : Settings) (opening old new : Snapshot) → s' ≡ s → new ≡ table_by s old command
      → Follows s opening marks old → Follows s' opening later new
  follows_by s s' opening old new settings table follows =
      ap bare table
      ∙ follows_more desk marks s opening old command n follows
      ∙ ap (λ l. bare (table_after_marks s opening l)) (sym are)
      ∙ ap (λ x. bare (table_after_marks x opening later)) (sym settings)

  adds_some : (o : Option Command) (m : ℕ) → later ≡ marks ++ marks_by desk (option_map (told_of n) o) → m ≡ n + length (option_list o)
      → AddsAtMostOne desk marks later m
  adds_some None m is more = inl (is ∙ append-nil marks)
  adds_some (Some c) m is more = inr (mark_of desk (told_of n c), is, omega (arith, more), refl)

  pub adds_by : (m : ℕ) → m ≡ n + length (option_list command) → AddsAtMostOne desk marks later m
  adds_by m more = adds_some command m are more

-- a tick answers the number of what it issued
module _ (desk : ℕ) (marks later : List Mark) where
  adds_told : (issued : Option Issued) → later ≡ marks ++ marks_by desk issued → AddsAnswered desk marks later (option_map number_of issued)
  adds_told None added = added ∙ append-nil marks
  adds_told (Some issued) added = (mark_of desk issued, added, refl, refl)

  pub adds_answered : (issued : Option Issued) → later ≡ marks ++ marks_by desk issued → (answer : Option ℕ) → answer ≡ option_map number_of issued
      → AddsAnswered desk marks later answer
  adds_answered issued added answer is = subst (AddsAnswered desk marks later) (sym is) (adds_told issued added)

-- a request adds the mark of what it may have
pub adds_asked : (drawn : List ℕ) (call : Call) (desk : ℕ) (marks later : List Mark) (issued : Option Issued) → later ≡ marks ++ marks_by desk issued
    → IsAsked drawn call issued → AddsAsked drawn call marks later
adds_asked drawn call desk marks later None added asked = inl (added ∙ append-nil marks)
adds_asked drawn call desk marks later (Some issued) added asked = inr (mark_of desk issued, added, asked)

-- the numbers from 0 on, and one more
pub range_next : (n : ℕ) → range_with_len 0 (n + 1) ≡ range_with_len 0 n ++ n ∷ []
range_next n =
    let more : n + 1 ≡ suc n = omega arith in
    let last : 0 + n ≡ n = omega arith in
    ap (range_with_len 0) more ∙ range_more n 0 ∙ ap (λ k. range_with_len 0 n ++ k ∷ []) last
