-- What goes next by the rows of a table that stands for a history goes next by the history.
use Rattle.std.proofs.Common.{◌≡◌, ℕ, zero, suc, ◌≤◌, ◌<◌, List, [], ◌∷◌, length, Bool, true, false, ◌&&◌, refl, sym, ap, ◌∙◌, arith, map, Option, Some, None, ◌⊎◌, inl, inr, subst, nat_lt, if◌then◌else◌, get_or, All, Contains}
use Rattle.std.specs.Prelude.{option_map, is_some, IsSome}
use Rattle.std.proofs.lemmas.Bool.{true≢false}
use Rattle.std.proofs.lemmas.List.{length-map}
use Rattle.retry_rules.specs.declared.settings.Settings.{Settings}
use Rattle.invoke_records.specs.declared.command.Command.{Command}
use Rattle.invoke_records.specs.declared.command.Kind.{Kind}
use Rattle.invoke_records.specs.declared.row.EventRow.{EventRow}
use Rattle.invoke_records.specs.declared.snapshot.Snapshot.{Snapshot}
use Rattle.async_core.specs.declared.choice.Move.{Move}
use Rattle.async_core.specs.declared.choice.Side.{Side}
use Rattle.async_core.specs.declared.choice.Order.{Order}
use Rattle.async_core.specs.declared.choice.Order.TheVariants as orders
use Rattle.async_core.specs.Standings.{is_running}
use Rattle.async_core.specs.History.{held, standing_in, running_count, row_of, table_of, last_number}
use Rattle.async_core.specs.Rules.{running_at}
use Rattle.async_core.specs.Choice.{move_of, ripe_at, rank, NotBefore, moving, move_at, environment_for, IsNextAt, IsChosen, IsChosenAs, IsFirstHeld, IsFirstRunning, IsOldestEnded, IsNextEnded, ended_on, IsNextMove}
use Rattle.async_core.specs.Tallies.{ended_at, ended_count}
use Rattle.async_core.specs.laws.Tables.{count_by-map}

-- ## Rows and events

get_or-map : {X Y : Type 0} (f : X → Y) (xs : List X) (k : ℕ) (d : X) → get_or (map f xs) k (f d) ≡ f (get_or xs k d)
get_or-map f [] k d = refl
get_or-map f (x ∷ xs) zero d = refl
get_or-map f (x ∷ xs) (suc k) d = get_or-map f xs k d

All-of_map : {X Y : Type 0} (P : Y → Type 0) (f : X → Y) (xs : List X) → All P (map f xs) → All (λ x. P (f x)) xs
All-of_map P f xs all = λ k d lt. subst P (get_or-map f xs k d) (all k (f d) (subst (λ n. k < n) (sym (length-map xs f)) lt))

contains_mapped : {X Y : Type 0} (f : X → Y) (xs : List X) (k : ℕ) (y : Y) → k < length xs → get_or (map f xs) k y ≡ y → (x : X) × Contains xs x × (y ≡ f x)
contains_mapped f [] k y lt is = absurd (omega arith)
contains_mapped f (x ∷ xs) zero y lt is = (x, (0, omega arith, refl), sym is)
contains_mapped f (x ∷ xs) (suc k) y lt is =
    let rest = contains_mapped f xs k y (omega arith) is in
    (rest.0, (suc rest.1.0, omega (arith, rest.1.1), rest.1.2), rest.2)

Contains-of_map : {X Y : Type 0} (f : X → Y) (xs : List X) (y : Y) → Contains (map f xs) y → (x : X) × Contains xs x × (y ≡ f x)
Contains-of_map f xs y c = contains_mapped f xs c.0 y (subst (λ n. c.0 < n) (length-map xs f) c.1) c.2

module _ (s : Settings) (h : List Command) (now : ℕ) (ready : Option ℕ) where
  running_alike : running_at (map (row_of s h) (held h)) ≡ running_count s h
  running_alike = count_by-map (λ (r : EventRow). is_running r.standing) (row_of s h) (held h)

  move_at-row_of : (e : ℕ × List ℕ) → move_at s (map (row_of s h) (held h)) now ready (row_of s h e) ≡ option_map (λ (kind : Kind). record { kind = kind; id = e.1; environment = environment_for ready kind }) (move_of s h now (is_some ready) e.1)
  unfolding move_of
  move_at-row_of e = rw running_alike refl

  rank-row_of : (e : ℕ × List ℕ) → rank (moving s (map (row_of s h) (held h)) now (is_some ready)) (row_of s h e) ≡ option_map (λ (kind : Kind). (ripe_at s h e.1, e.0)) (move_of s h now (is_some ready) e.1)
  unfolding move_of ripe_at
  rank-row_of e = rw running_alike refl

unmapped_none : {A B : Type 0} (f : A → B) (o : Option A) → option_map f o ≡ None → o ≡ None
unmapped_none f None h = refl
unmapped_none f (Some x) h = absurd (cc)

-- the parts of a move that is made
made_kind : (id : List ℕ) (environment : Kind → ℕ) (o : Option Kind) (move : Move) → Some move ≡ option_map (λ (kind : Kind). record { kind = kind; id = id; environment = environment kind }) o
    → (o ≡ Some move.kind) × (move.id ≡ id) × (move.environment ≡ environment move.kind)
made_kind id environment None move h = absurd (cc)
made_kind id environment (Some kind) move h =
    let is : move ≡ record { kind = kind; id = id; environment = environment kind } = cc in
    (ap (λ (m : Move). Some m.kind) (sym is), ap (λ (m : Move). m.id) is, ap (λ (m : Move). m.environment) is ∙ ap environment (ap (λ (m : Move). m.kind) (sym is)))

ranked_is : (ripe n : ℕ) (at : ℕ × ℕ) (o : Option Kind) → option_map (λ (kind : Kind). (ripe, n)) o ≡ Some at → (at.0 ≡ ripe) × (at.1 ≡ n)
ranked_is ripe n at None h = absurd (cc)
ranked_is ripe n at (Some kind) h =
    let is : (ripe, n) ≡ at = cc in
    (ap (λ (p : ℕ × ℕ). p.0) (sym is), ap (λ (p : ℕ × ℕ). p.1) (sym is))

goes_first : (a an ripe n : ℕ) (at : ℕ × ℕ) → at.0 ≡ a → at.1 ≡ an → (o : Option Kind) → NotBefore at (option_map (λ (kind : Kind). (ripe, n)) o) → IsSome o → (a < ripe) ⊎ ((a ≡ ripe) × (an ≤ n))
goes_first a an ripe n at ea en None h some = absurd (cc)
goes_first a an ripe n at ea en (Some kind) (inl lt) some = inl (omega arith)
goes_first a an ripe n at ea en (Some kind) (inr same) some = inr (omega arith, omega arith)

-- ## The next move

module _ (s : Settings) (h : List Command) (now : ℕ) (ready : Option ℕ) where
  next_by_rows : (result : Option Move) → IsNextAt s (map (row_of s h) (held h)) now ready result → IsNextMove s h now ready result
  next_by_rows None all = λ k d lt.
      let e = get_or (held h) k d in
      unmapped_none _ (move_of s h now (is_some ready) e.1)
      (sym (move_at-row_of s h now ready e) ∙ All-of_map (λ r. move_at s (map (row_of s h) (held h)) now ready r ≡ None) (row_of s h) (held h) all k d lt)
  next_by_rows (Some move) chosen =
      let rows = map (row_of s h) (held h) in
      let least = chosen.2 in
      let found = Contains-of_map (row_of s h) (held h) chosen.0 least.is_there in
      let e = found.0 in
      let made = made_kind e.1 (environment_for ready) (move_of s h now (is_some ready) e.1) move (chosen.1 ∙ ap (move_at s rows now ready) found.2 ∙ move_at-row_of s h now ready e) in
      let ranks = ranked_is (ripe_at s h e.1) e.0 least.at (move_of s h now (is_some ready) e.1) (sym (rank-row_of s h now ready e) ∙ ap (rank (moving s rows now (is_some ready))) (sym found.2) ∙ least.ranked) in (
        e,
        made.1,
        made.2,
        record {
          is_held = found.1;
          moves = made.0;
          first = λ k d lt some.
              let other = get_or (held h) k d in
              goes_first (ripe_at s h e.1) e.0 (ripe_at s h other.1) other.0 least.at ranks.0 ranks.1 (move_of s h now (is_some ready) other.1)
              (subst (NotBefore least.at) (rank-row_of s h now ready other) (All-of_map (λ r. NotBefore least.at (rank (moving s rows now (is_some ready)) r)) (row_of s h) (held h) least.least k d lt))
              some;
        },
      )

-- what goes next by the rows goes next by the history
pub next_move-by_history : (s : Settings) (table : Snapshot) (h : List Command) (now : ℕ) (ready : Option ℕ) (result : Option Move) → table ≡ table_of s h → IsNextAt s table.rows now ready result → IsNextMove s h now ready result
unfolding table_of
next_move-by_history s table h now ready result is next =
    next_by_rows s h now ready result (subst (λ (t : Snapshot). IsNextAt s t.rows now ready result) is next)

-- ## The first event that passes a test

abbrev ranked_if : Bool → ℕ → Option (ℕ × ℕ)
ranked_if b n = if b then Some (n, 0) else None

passed : (b : Bool) (n : ℕ) (at : ℕ × ℕ) → ranked_if b n ≡ Some at → (b ≡ true) × (at.0 ≡ n)
passed true n at h = let is : (n, 0) ≡ at = cc in (refl, ap (λ (p : ℕ × ℕ). p.0) (sym is))
passed false n at h = absurd (cc)

failed : (b : Bool) (n : ℕ) → ranked_if b n ≡ None → b ≡ false
failed true n h = absurd (cc)
failed false n h = refl

not_before : (b : Bool) (n : ℕ) (at : ℕ × ℕ) → NotBefore at (ranked_if b n) → b ≡ true → at.0 ≤ n
not_before true n at (inl lt) h = omega arith
not_before true n at (inr same) h = omega arith
not_before false n at none h = absurd (true≢false (sym h))

module _ {A : Type 0} (s : Settings) (h : List Command) (order : Order) (test : ℕ × List ℕ → Bool) (key : ℕ × List ℕ → ℕ) (view : EventRow → A) (given : ℕ × List ℕ → A)
    (ranks : (e : ℕ × List ℕ) → rank order (row_of s h e) ≡ ranked_if (test e) (key e)) (shows : (e : ℕ × List ℕ) → view (row_of s h e) ≡ given e) where
  first_by_rows : (result : Option A) → IsChosenAs order (map (row_of s h) (held h)) view result → IsFirstHeld test key given h result
  first_by_rows None all = λ k d lt.
      let e = get_or (held h) k d in
      failed (test e) (key e) (sym (ranks e) ∙ All-of_map (λ r. rank order r ≡ None) (row_of s h) (held h) all k d lt)
  first_by_rows (Some x) chosen =
      let least = chosen.2 in
      let found = Contains-of_map (row_of s h) (held h) chosen.0 least.is_there in
      let e = found.0 in
      let own = passed (test e) (key e) least.at (sym (ranks e) ∙ ap (rank order) (sym found.2) ∙ least.ranked) in (
        e,
        chosen.1 ∙ ap view found.2 ∙ shows e,
        found.1,
        own.0,
        λ k d lt passes.
            let other = get_or (held h) k d in
            let after : least.at.0 ≤ key other = not_before (test other) (key other) least.at (subst (NotBefore least.at) (ranks other) (All-of_map (λ r. NotBefore least.at (rank order r)) (row_of s h) (held h) least.least k d lt)) passes in
            subst (λ n. n ≤ key other) own.1 after,
      )

as_row : (order : Order) (rows : List EventRow) (found : Option EventRow) → IsChosen order rows found → IsChosenAs order rows (λ (r : EventRow). r) found
as_row order rows None none = none
as_row order rows (Some row) least = (row, refl, least)

module _ (s : Settings) (table : Snapshot) (h : List Command) (is : table ≡ table_of s h) where
  rows_are : {A : Type 0} (order : Order) (view : EventRow → A) (result : Option A) → IsChosenAs order table.rows view result → IsChosenAs order (map (row_of s h) (held h)) view result
  unfolding table_of
  rows_are order view result chosen = subst (λ (t : Snapshot). IsChosenAs order t.rows view result) is chosen

  pub next_running-by_history : (after : ℕ) (result : Option (ℕ × List ℕ)) → IsChosenAs (orders.Running after) table.rows (λ (r : EventRow). (r.number, r.id)) result → IsFirstRunning s h after result
  next_running-by_history after result chosen =
      first_by_rows s h (orders.Running after) (λ e. is_running (standing_in s h e.1) && nat_lt after e.0) (λ e. e.0) (λ (r : EventRow). (r.number, r.id)) (λ e. e) (λ e. refl) (λ e. refl) result
      (rows_are (orders.Running after) (λ (r : EventRow). (r.number, r.id)) result chosen)

  pub oldest_ended-by_history : (side : Side) (result : Option (List ℕ)) → IsChosenAs (orders.Ended side) table.rows (λ (r : EventRow). r.id) result → IsOldestEnded s h side result
  oldest_ended-by_history side result chosen =
      first_by_rows s h (orders.Ended side) (λ e. ended_on side (standing_in s h e.1)) (λ e. last_number e.1 h) (λ (r : EventRow). r.id) (λ e. e.1) (λ e. refl) (λ e. refl) result
      (rows_are (orders.Ended side) (λ (r : EventRow). r.id) result chosen)

  pub next_ended-by_history : (side : Side) (behind : ℕ) (result : Option EventRow) → IsChosen (orders.EndedBehind side behind) table.rows result → IsNextEnded s h side behind result
  next_ended-by_history side behind result chosen =
      first_by_rows s h (orders.EndedBehind side behind) (λ e. ended_on side (standing_in s h e.1) && nat_lt behind (last_number e.1 h)) (λ e. last_number e.1 h) (λ (r : EventRow). r) (row_of s h) (λ e. refl) (λ e. refl) result
      (rows_are (orders.EndedBehind side behind) (λ (r : EventRow). r) result (as_row (orders.EndedBehind side behind) table.rows result chosen))

  pub ended_count-by_history : (side : Side) → ended_at side table.rows ≡ ended_count s h side
  unfolding table_of
  ended_count-by_history side = ap (λ (t : Snapshot). ended_at side t.rows) is ∙ count_by-map (λ (r : EventRow). ended_on side r.standing) (row_of s h) (held h)
