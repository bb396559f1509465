-- The first that moves where no environment is ready and fewer run than may.
use Rattle.std.proofs.Common.{◌≡◌, ℕ, ◌<◌, zero, suc, List, [], ◌∷◌, length, Bool, true, false, Option, Some, None, refl, sym, ap, ◌∙◌, subst, arith, ◌⊎◌, inl, inr, All, Contains, get_or, filter, cond, nat_le, min, is_some}
use Rattle.std.specs.Prelude.{option_map}
use Rattle.std.proofs.lemmas.Bool.{true≢false, leb-true, le-leb}
use Rattle.std.proofs.lemmas.List.Elements.{All-contains_itself, All-filter, All-contains, filter_passes}
use Rattle.invoke_records.specs.declared.command.Kind.{Kind}
use Rattle.invoke_records.specs.declared.row.EventRow.{EventRow}
use Rattle.invoke_records.specs.declared.row.Standing.{Standing}
use Rattle.invoke_records.specs.declared.row.Standing.TheVariants as standing
use Rattle.async_core.specs.declared.choice.Order.TheVariants as order
use Rattle.async_core.specs.declared.keys.Index.TheVariants.{Ripe, Deadline, Idle}
use Rattle.async_core.specs.Choice.{rank, NotBefore, IsChosen, move_when_due, move_by, ripe_by}
use Rattle.async_core.specs.Rules.{too_old_at}
use Rattle.async_core.specs.Keys.{facts_of, key_within, row_key, IsFirstBy, ripe_key, deadline_key, idle_key}
use Rattle.async_core.specs.Kept.{ChoosesUpTo}
use Rattle.async_core.proofs.Ranks.{running_rank}

-- where an event stands among those that move, where no environment is ready and fewer run than may
abbrev moving_key : ℕ → EventRow → Standing → Option (ℕ × ℕ)
moving_key now r st = option_map (λ (kind : Kind). (ripe_by (too_old_at r) st, r.number)) (move_by false false (too_old_at r) now st)

-- ## The first that is ripe

due_or_none : (too_old now due number : ℕ) (old is_due : Bool) → nat_le too_old now ≡ old → nat_le due now ≡ is_due
    → (option_map {U = ℕ × ℕ} (λ (kind : Kind). (min due too_old, number)) (move_when_due false false too_old now due) ≡ None)
    ⊎ (option_map {U = ℕ × ℕ} (λ (kind : Kind). (min due too_old, number)) (move_when_due false false too_old now due) ≡ key_within 0 (Some now) (Some (min due too_old, number)))
due_or_none too_old now due number true is_due old_is due_is =
    let low : nat_le 0 (min due too_old) ≡ true = le-leb 0 (min due too_old) (omega arith) in
    let high : nat_le (min due too_old) now ≡ true = le-leb (min due too_old) now (omega (arith, leb-true too_old now old_is)) in
    inr (rw (old_is, low, high) refl)
due_or_none too_old now due number false true old_is due_is = inl (rw (old_is, due_is) refl)
due_or_none too_old now due number false false old_is due_is = inl (rw (old_is, due_is) refl)

ripe_or_none : (now : ℕ) (r : EventRow) (st : Standing) → (moving_key now r st ≡ None) ⊎ (moving_key now r st ≡ key_within 0 (Some now) (ripe_key (facts_of r) st))
ripe_or_none now r standing.Unknown = inl refl
ripe_or_none now r (standing.Waiting due) = due_or_none (too_old_at r) now due r.number (nat_le (too_old_at r) now) (nat_le due now) refl refl
ripe_or_none now r (standing.DueAgain due) = due_or_none (too_old_at r) now due r.number (nat_le (too_old_at r) now) (nat_le due now) refl refl
ripe_or_none now r (standing.Running environment deadline) = inr (sym (running_rank now deadline r.number (nat_le deadline now) refl _))
ripe_or_none now r (standing.Ended outcome at) = inl refl

none_some : {A : Type 0} (o : Option A) → o ≡ None → is_some o ≡ true → ⊥
none_some o none some = true≢false (sym some ∙ ap is_some none)

unranked : (at : ℕ × ℕ) (o : Option (ℕ × ℕ)) → o ≡ None → NotBefore at o
unranked at o none = rw none tt

module _ (now : ℕ) (rows : List EventRow) where
  pub none_ripe : IsFirstBy (row_key Ripe 0 (Some now)) rows None → IsChosen (order.Moving now false false) rows None
  none_ripe none = λ k d lt.
      let r = get_or rows k d in
      elim (ripe_or_none now r r.standing) [ inl not_moving ↦ not_moving | inr same ↦ same ∙ none k d lt ]

  pub ripe_moves : (row : EventRow) → IsFirstBy (row_key Ripe 0 (Some now)) rows (Some row) → is_some (rank (order.Moving now false false) row) ≡ true → IsChosen (order.Moving now false false) rows (Some row)
  ripe_moves row first moves = record {
    is_there = first.is_there;
    at = first.at;
    ranked = elim (ripe_or_none now row row.standing) [ inl not_moving ↦ absurd (none_some _ not_moving moves) | inr same ↦ same ∙ first.has ];
    least = λ k d lt.
        let r = get_or rows k d in
        elim (ripe_or_none now r r.standing) [
          | inl not_moving ↦ unranked first.at _ not_moving
          | inr same ↦ subst (NotBefore first.at) (sym same) (first.least k d lt)
        ];
  }

-- ## The first of those that run, and of those that are too old

Contains-filter : (p : EventRow → Bool) (rows : List EventRow) (r : EventRow) → Contains rows r → p r ≡ true → Contains (filter p rows) r
Contains-filter p [] r there passes = absurd (omega (arith, there.1))
Contains-filter p (x ∷ rows) r (zero, lt, is) passes = rw (subst (λ y. p y ≡ true) (sym is) passes) (zero, omega arith, is)
Contains-filter p (x ∷ rows) r (suc n, lt, is) passes = kept (p x) (Contains-filter p rows r (n, omega arith, is) passes)
  where
    kept : (b : Bool) → Contains (filter p rows) r → Contains (cond b (x ∷ filter p rows) (filter p rows)) r
    kept true there = (suc there.0, omega (arith, there.1), there.2)
    kept false there = there

-- one that has passed its deadline moves as it stands there
late_moves : (now : ℕ) (r : EventRow) (st : Standing) → is_some (key_within 0 (Some now) (deadline_key (facts_of r) st)) ≡ true → moving_key now r st ≡ key_within 0 (Some now) (deadline_key (facts_of r) st)
late_moves now r standing.Unknown some = absurd (true≢false (sym some))
late_moves now r (standing.Waiting due) some = absurd (true≢false (sym some))
late_moves now r (standing.DueAgain due) some = absurd (true≢false (sym some))
late_moves now r (standing.Running environment deadline) some = sym (running_rank now deadline r.number (nat_le deadline now) refl _)
late_moves now r (standing.Ended outcome at) some = absurd (true≢false (sym some))

abbrev Moves : ℕ → EventRow → Standing → Type 0
Moves now r st =
    (moving_key now r st ≡ None) ⊎ ((is_some (key_within 0 (Some now) (deadline_key (facts_of r) st)) ≡ true) ⊎ (is_some (key_within 0 (Some now) (idle_key (facts_of r) st)) ≡ true))

too_old_moves : (too_old now due : ℕ) (at : ℕ × ℕ) (old is_due : Bool) → nat_le too_old now ≡ old → nat_le due now ≡ is_due
    → (option_map (λ (kind : Kind). at) (move_when_due false false too_old now due) ≡ None) ⊎ (is_some (key_within 0 (Some now) (Some (too_old, 0))) ≡ true)
too_old_moves too_old now due at true is_due old_is due_is =
    let low : nat_le 0 too_old ≡ true = le-leb 0 too_old (omega arith) in
    inr (rw (low, old_is) refl)
too_old_moves too_old now due at false true old_is due_is = inl (rw (old_is, due_is) refl)
too_old_moves too_old now due at false false old_is due_is = inl (rw (old_is, due_is) refl)

waiting_moves : (now due : ℕ) (r : EventRow)
    → (option_map {U = ℕ × ℕ} (λ (kind : Kind). (min due (too_old_at r), r.number)) (move_when_due false false (too_old_at r) now due) ≡ None) ⊎ (is_some (key_within 0 (Some now) (Some (too_old_at r, 0))) ≡ true)
waiting_moves now due r = too_old_moves (too_old_at r) now due (min due (too_old_at r), r.number) (nat_le (too_old_at r) now) (nat_le due now) refl refl

to_idle : {A B C : Type 0} → A ⊎ C → A ⊎ (B ⊎ C)
to_idle (inl a) = inl a
to_idle (inr c) = inr (inr c)

running_moves : (now : ℕ) (r : EventRow) (st : Standing) (o : Option (ℕ × ℕ)) → key_within 0 (Some now) (deadline_key (facts_of r) st) ≡ o → moving_key now r st ≡ o → (moving_key now r st ≡ None) ⊎ (is_some (key_within 0 (Some now) (deadline_key (facts_of r) st)) ≡ true)
running_moves now r st None key same = inl same
running_moves now r st (Some at) key same = inr (ap is_some key)

to_late : {A B C : Type 0} → A ⊎ B → A ⊎ (B ⊎ C)
to_late (inl a) = inl a
to_late (inr b) = inr (inl b)

moves : (now : ℕ) (r : EventRow) (st : Standing) → Moves now r st
moves now r standing.Unknown = inl refl
moves now r (standing.Waiting due) = to_idle (waiting_moves now due r)
moves now r (standing.DueAgain due) = to_idle (waiting_moves now due r)
moves now r (standing.Running environment deadline) =
    to_late (running_moves now r (standing.Running environment deadline) (key_within 0 (Some now) (deadline_key (facts_of r) (standing.Running environment deadline))) refl (sym (running_rank now deadline r.number (nat_le deadline now) refl _)))
moves now r (standing.Ended outcome at) = inl refl

module _ (rows : List EventRow) (now : ℕ) where
  abbrev is_late : EventRow → Bool
  is_late r = is_some (row_key Deadline 0 (Some now) r)

  abbrev late_rows : List EventRow
  late_rows = filter is_late rows

  passes_late : (k : ℕ) (d : EventRow) → k < length late_rows → is_late (get_or late_rows k d) ≡ true
  passes_late k d lt = filter_passes is_late rows k d lt

  chosen_late : (found : Option EventRow) → IsFirstBy (row_key Deadline 0 (Some now)) rows found → IsChosen (order.Moving now false false) late_rows found
  chosen_late None none = λ k d lt.
      let r = get_or late_rows k d in
      late_moves now r r.standing (passes_late k d lt) ∙ All-filter is_late (λ x. row_key Deadline 0 (Some now) x ≡ None) rows none k d lt
  chosen_late (Some row) first =
      let late : is_late row ≡ true = ap is_some first.has in
      record {
        is_there = Contains-filter is_late rows row first.is_there late;
        at = first.at;
        ranked = late_moves now row row.standing late ∙ first.has;
        least = λ k d lt.
            let r = get_or late_rows k d in
            subst (NotBefore first.at) (sym (late_moves now r r.standing (passes_late k d lt))) (All-filter is_late (λ x. NotBefore first.at (row_key Deadline 0 (Some now) x)) rows first.least k d lt);
      }

  module _ (more : List EventRow) (within_rows : All (Contains rows) more) (late : All (Contains more) late_rows) (idle : All (λ (r : EventRow). is_some (row_key Idle 0 (Some now) r) ≡ true → Contains more r) rows) where
    seen : (k : ℕ) (d : EventRow) → k < length rows → (rank (order.Moving now false false) (get_or rows k d) ≡ None) ⊎ Contains more (get_or rows k d)
    seen k d lt =
        let r = get_or rows k d in
        elim (moves now r r.standing) [
          | inl not_moving ↦ inl not_moving
          | inr stands ↦
              elim stands [
                | inl runs ↦ inr (All-contains (Contains more) late_rows r late (Contains-filter is_late rows r (All-contains_itself rows k d lt) runs))
                | inr waits ↦ inr (idle k d lt waits)
              ]
        ]

    chosen_of_all : (found : Option EventRow) → IsChosen (order.Moving now false false) more found → IsChosen (order.Moving now false false) rows found
    chosen_of_all None none = λ k d lt.
        elim (seen k d lt) [ inl not_moving ↦ not_moving | inr among ↦ All-contains (λ r. rank (order.Moving now false false) r ≡ None) more (get_or rows k d) none among ]
    chosen_of_all (Some row) least = record {
      is_there = All-contains (Contains rows) more row within_rows least.is_there;
      at = least.at;
      ranked = least.ranked;
      least = λ k d lt.
          elim (seen k d lt) [
            | inl not_moving ↦ unranked least.at _ not_moving
            | inr among ↦ All-contains (λ r. NotBefore least.at (rank (order.Moving now false false) r)) more (get_or rows k d) least.least among
          ];
    }

  pub expires : (late found : Option EventRow) → IsFirstBy (row_key Deadline 0 (Some now)) rows late → ChoosesUpTo (order.Moving now false false) rows Idle now late found → IsChosen (order.Moving now false false) rows found
  expires late found first chooses =
      let chosen = chooses late_rows (All-filter is_late (Contains rows) rows (All-contains_itself rows)) (chosen_late late first) in
      chosen_of_all chosen.0 chosen.1 chosen.2 chosen.3 found chosen.4
