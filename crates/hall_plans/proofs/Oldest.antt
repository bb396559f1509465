-- Lemmas: the event of which the table says that it ended first is the one whose record is told.
use Rattle.std.proofs.Common.{◌≡◌, ℕ, ◌+◌, ◌<◌, ◌≤◌, List, [], ◌∷◌, ◌++◌, length, Bool, true, false, cond, refl, sym, subst, ap, ◌∙◌, arith, Option, Some, None, inl, inr, if◌then◌else◌, All, Contains}
use Rattle.std.specs.Str.{bytes_eq}
use Rattle.std.proofs.lemmas.Bool.{true≢false, cases_lt}
use Rattle.std.proofs.lemmas.Option.{none-some, same_Some}
use Rattle.std.proofs.lemmas.List.Elements.{recursion_from_All}
use Rattle.retry_rules.specs.declared.settings.Settings.{Settings}
use Rattle.invoke_records.specs.declared.command.Command.{Command}
use Rattle.invoke_records.specs.declared.row.Standing.{Standing}
use Rattle.invoke_records.specs.declared.row.Standing.TheVariants as standing
use Rattle.async_core.specs.declared.choice.Side.{Side}
use Rattle.async_core.specs.Lives.{names, collects, life}
use Rattle.async_core.specs.Standings.{is_unknown}
use Rattle.async_core.specs.History.{held, standing_in, last_number, IsLegal}
use Rattle.async_core.specs.Choice.{ended_on, IsOldestEnded}
use Rattle.async_core.specs.Readers.{Ending, ending_after}
use Rattle.async_core.specs.laws.Lives.{life-snoc, life-nil, last_number-snoc}
use Rattle.async_core.specs.laws.Held.{by_last, bytes_eq-refl, named_id, times_held, size, is_nil, unknown-nil, held_once}
use Rattle.async_core.specs.laws.Rows.{times_held-cons}
use Rattle.hall_plans.specs.Firsts.{Event, ended_rank, oldest_ended}
use Rattle.hall_plans.specs.Effects.{ending_of_event}
use Rattle.hall_plans.specs.laws.Ranks.{IsIn, in_from_contains, Behind, before, first_by-is, first_by-none, all_in, by_in}

-- ## The last command of an event

last_least : (id : List ℕ) (h : List Command) → last_number id h ≤ length h
unfolding last_number
last_least id h = omega arith

same_by : (a b : List ℕ) (h : List Command) (c : Command) (x y : Bool) → names a c ≡ x → names b c ≡ y
    → (last_number a h ≡ last_number b h → 0 < last_number a h → a ≡ b)
    → cond x (length h + 1) (last_number a h) ≡ cond y (length h + 1) (last_number b h) → 0 < cond x (length h + 1) (last_number a h) → a ≡ b
same_by a b h c true true p q rest e more = named_id a c p ∙ sym (named_id b c q)
same_by a b h c true false p q rest e more = absurd (omega (arith, last_least b h))
same_by a b h c false true p q rest e more = absurd (omega (arith, last_least a h))
same_by a b h c false false p q rest e more = rest e more

-- two events whose last command is the same are one
same_last : (a b : List ℕ) (h : List Command) → last_number a h ≡ last_number b h → 0 < last_number a h → a ≡ b
same_last a b h =
    by_last (λ h. last_number a h ≡ last_number b h → 0 < last_number a h → a ≡ b)
    (λ e more. absurd (omega (arith, last_least a [])))
    (λ h c rest.
    rw (last_number-snoc a h c, last_number-snoc b h c) (same_by a b h c (names a c) (names b c) refl refl rest)) h

quiet_by : (id : List ℕ) (h : List Command) (c : Command) (kind named : Bool) → (last_number id h ≡ 0 → life id h ≡ []) → cond named (length h + 1) (last_number id h) ≡ 0
    → cond kind [] (life id h ++ cond named (c ∷ []) []) ≡ []
quiet_by id h c true named rest e = refl
quiet_by id h c false true rest e = absurd (omega arith)
quiet_by id h c false false rest e = rw (rest e) refl

-- an event without a last command has no life
no_life : (id : List ℕ) (h : List Command) → last_number id h ≡ 0 → life id h ≡ []
no_life id h =
    by_last (λ h. last_number id h ≡ 0 → life id h ≡ []) (λ e. life-nil id)
    (λ h c rest. rw (last_number-snoc id h c, life-snoc id h c) (quiet_by id h c (collects id c) (names id c) rest)) h

ended_known : (side : Side) (st : Standing) → is_unknown st ≡ true → ended_on side st ≡ true → ⊥
ended_known side standing.Unknown unknown ended = true≢false (sym ended)
ended_known side (standing.Waiting due) unknown ended = true≢false (sym unknown)
ended_known side (standing.Running environment deadline) unknown ended = true≢false (sym unknown)
ended_known side (standing.DueAgain due) unknown ended = true≢false (sym unknown)
ended_known side (standing.Ended outcome at) unknown ended = true≢false (sym unknown)

ended_has_last : (s : Settings) (h : List Command) (side : Side) (id : List ℕ) → ended_on side (standing_in s h id) ≡ true → 0 < last_number id h
ended_has_last s h side id ended = elim (cases_lt 0 (last_number id h)) [
  | inl lt ↦ lt
  | inr ge ↦ absurd (ended_known side (standing_in s h id) (unknown-nil s h id ∙ ap is_nil (no_life id h (omega arith))) ended)
]

-- ## An event is held once

some_held_by : (id : List ℕ) (x : Event) (xs : List Event) (b : Bool) → bytes_eq id x.1 ≡ b → 0 < times_held id xs → 0 < times_held id (x ∷ xs)
some_held_by id x xs b same more = omega (arith, times_held-cons id x xs b same)

some_held : (xs : List Event) (b : Event) → IsIn b xs → 0 < times_held b.1 xs
some_held [] b i = absurd i
some_held (x ∷ xs) b (inl p) = omega (arith, times_held-cons b.1 x xs true (ap (λ (v : Event). bytes_eq b.1 v.1) p ∙ bytes_eq-refl b.1))
some_held (x ∷ xs) b (inr j) = some_held_by b.1 x xs (bytes_eq b.1 x.1) refl (some_held xs b j)

rest_once : (id : List ℕ) (x : Event) (xs : List Event) (b : Bool) → bytes_eq id x.1 ≡ b → times_held id (x ∷ xs) ≤ 1 → times_held id xs ≤ 1
rest_once id x xs b same few = omega (arith, times_held-cons id x xs b same)

first_once : (x : Event) (xs : List Event) (b : Event) → x.1 ≡ b.1 → IsIn b xs → times_held b.1 (x ∷ xs) ≤ 1 → ⊥
first_once x xs b same i few =
    let once : times_held b.1 (x ∷ xs) ≡ 1 + times_held b.1 xs = times_held-cons b.1 x xs true (ap (bytes_eq b.1) same ∙ bytes_eq-refl b.1) in
    let more : 0 < times_held b.1 xs = some_held xs b i in
    omega arith

one_event : (xs : List Event) (a b : Event) → IsIn a xs → IsIn b xs → a.1 ≡ b.1 → times_held b.1 xs ≤ 1 → a ≡ b
one_event [] a b i j same few = absurd i
one_event (x ∷ xs) a b (inl p) (inl q) same few = sym p ∙ q
one_event (x ∷ xs) a b (inl p) (inr j) same few = absurd (first_once x xs b (ap (λ (v : Event). v.1) p ∙ same) j few)
one_event (x ∷ xs) a b (inr i) (inl q) same few =
    absurd (first_once x xs a (ap (λ (v : Event). v.1) q ∙ sym same) i (subst (λ v. times_held v (x ∷ xs) ≤ 1) (sym same) few))
one_event (x ∷ xs) a b (inr i) (inr j) same few = one_event xs a b i j same (rest_once b.1 x xs (bytes_eq b.1 x.1) refl few)

size_few : (l : List Command) → size l ≤ 1
size_few [] = omega arith
size_few (c ∷ l) = omega arith

held_few : (s : Settings) (h : List Command) (id : List ℕ) → IsLegal s h → times_held id (held h) ≤ 1
held_few s h id legal = let few : size (life id h) ≤ 1 = size_few (life id h) in omega (arith, held_once s h legal id)

-- ## The event that ended first

rank_parts : (b : Bool) (k j : ℕ × ℕ) → (if b then Some k else None) ≡ Some j → (b ≡ true) × (k ≡ j)
rank_parts true k j e = (refl, same_Some k j e)
rank_parts false k j e = absurd (none-some j e)

module _ (s : Settings) (h : List Command) (side : Side) (legal : IsLegal s h) where
  abbrev ends : Event → Bool
  ends e = ended_on side (standing_in s h e.1)

  abbrev key : Event → ℕ × ℕ
  key e = (last_number e.1 h, 0)

  behind : (e o : Event) → IsIn e (held h) → IsIn o (held h) → ends e ≡ true → last_number e.1 h ≤ last_number o.1 h → Behind {A = Event} (key e, e) (key o, o)
  behind e o i j is le = elim (cases_lt (last_number e.1 h) (last_number o.1 h)) [
    | inl lt ↦ inr (before (key e) (key o) (inl lt))
    | inr ge ↦
        let n : last_number e.1 h ≡ last_number o.1 h = omega arith in
        let ids : e.1 ≡ o.1 = same_last e.1 o.1 h n (ended_has_last s h side e.1 is) in
        inl (ap (λ (v : Event). (key v, v)) (sym (one_event (held h) e o i j ids (held_few s h o.1 legal))))
  ]

  oldest_is : (e : Event) → Contains (held h) e → ends e ≡ true → All (λ (o : Event). ends o ≡ true → last_number e.1 h ≤ last_number o.1 h) (held h) → oldest_ended s h side ≡ Some e
  unfolding oldest_ended
  oldest_is e has is first =
      let i = in_from_contains (held h) e has in
      let all = recursion_from_All (λ (o : Event). ends o ≡ true → last_number e.1 h ≤ last_number o.1 h) (held h) first in
      first_by-is (ended_rank s h side) e (key e) (held h) (rw is refl) i
      (all_in (λ (o : Event). (j : ℕ × ℕ) → ended_rank s h side o ≡ Some j → Behind {A = Event} (key e, e) (j, o)) (held h)
      (λ o i' j ranked_so.
      let parts = rank_parts (ends o) (key o) j ranked_so in
      subst (λ v. Behind {A = Event} (key e, e) (v, o)) parts.1
      (behind e o i i' is (by_in (λ (o : Event). ends o ≡ true → last_number e.1 h ≤ last_number o.1 h) (held h) o all i' parts.0))))

  oldest_none : All (λ (o : Event). ends o ≡ false) (held h) → oldest_ended s h side ≡ None
  unfolding oldest_ended
  oldest_none all =
      first_by-none (ended_rank s h side) (held h)
      (all_in (λ (o : Event). ended_rank s h side o ≡ None) (held h)
      (λ o i. rw (by_in (λ (o : Event). ends o ≡ false) (held h) o (recursion_from_All (λ (o : Event). ends o ≡ false) (held h) all) i) refl))

  -- what the table says of the event that it says ended first
  abbrev ending_of_answer : Option (List ℕ) → Option Ending
  ending_of_answer None = None
  ending_of_answer (Some id) = ending_after s id h

  pub ending_is : (answered : Option (List ℕ)) → IsOldestEnded s h side answered → ending_of_event s h (oldest_ended s h side) ≡ ending_of_answer answered
  ending_is None all = rw (oldest_none all) refl
  ending_is (Some id) (e, id_is, has, is, first) = rw (oldest_is e has is first, id_is) refl
