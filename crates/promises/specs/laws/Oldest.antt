-- Laws: the record that is told first on its side is told first in each later history, until its event is collected.
use Rattle.std.proofs.Common.{◌≡◌, ℕ, zero, suc, ◌+◌, ◌<◌, ◌≤◌, List, [], ◌∷◌, ◌++◌, length, take, drop, filter, Bool, true, false, not, ◌&&◌, ◌||◌, ◌==◌, cond, refl, sym, subst, ap, ◌∙◌, arith, Option, Some, None, ◌⊎◌, inl, inr, nat_lt}
use Rattle.std.specs.Prelude.{option_map}
use Rattle.std.specs.List.{filter_map, list_any, cons_option}
use Rattle.std.proofs.lemmas.Bool.{true≢false, or_parts, ltb-true, ltb-false, eqb-true}
use Rattle.std.proofs.lemmas.List.{append_assoc, append-nil}
use Rattle.std.proofs.lemmas.List.Folds.{list_any-append}
use Rattle.std.proofs.lemmas.Option.{none-some, same_Some}
use Rattle.retry_rules.specs.declared.settings.Settings.{Settings}
use Rattle.invoke_records.specs.declared.command.Command.{Command}
use Rattle.invoke_records.specs.declared.command.Kind.{Kind}
use Rattle.invoke_records.specs.declared.command.Kind.TheVariants.{Configure}
use Rattle.invoke_records.specs.declared.row.Standing.{Standing}
use Rattle.invoke_records.specs.declared.row.Standing.TheVariants as standing
use Rattle.async_core.specs.declared.choice.Side.{Side}
use Rattle.async_core.specs.Lives.{kind_is_accept, kind_names, is_accept, names, collects, life}
use Rattle.async_core.specs.Standings.{is_unknown, is_ended}
use Rattle.async_core.specs.History.{held, standing_in, last_number, IsLegal}
use Rattle.async_core.specs.Choice.{ended_on, goes_before}
use Rattle.async_core.specs.Readers.{Ending, ending_after}
use Rattle.async_core.specs.laws.Lives.{life-snoc, life-nil, held-snoc, last_number-snoc}
use Rattle.async_core.specs.laws.Held.{by_last, bytes_eq-refl, named_id, named_by, is_nil, unknown-nil, IsLegal-front, IsLegal-last}
use Rattle.hall_plans.specs.Firsts.{Event, sooner, first_ranked, ranked, ended_rank, oldest_ended}
use Rattle.hall_plans.specs.Effects.{ending_of_event}
use Rattle.hall_plans.specs.laws.Ranks.{IsIn}
use Rattle.hall_plans.specs.laws.Choosing.{first_by-none_ranked}
use Rattle.promises.specs.Promises.{GoesOn, IsShownFirst, oldest_record}
use Rattle.promises.specs.laws.Histories.{since_front}
use Rattle.promises.specs.laws.Endings.{only_collected, same_standing, stays_ended}
use Rattle.promises.specs.laws.Telling.{in_append}
use Rattle.promises.specs.laws.Saying.{ended_id, of_event}

-- ## The first by rank has the least rank

abbrev Ranked : Type 0
Ranked = (ℕ × ℕ) × Event

goes_true : (a b : ℕ × ℕ) (less same : Bool) → nat_lt a.0 b.0 ≡ less → (a.0 == b.0) ≡ same → (less || (same && nat_lt a.1 b.1)) ≡ true → a.0 ≤ b.0
goes_true a b true same p q h = let lt : a.0 < b.0 = ltb-true a.0 b.0 p in omega arith
goes_true a b false true p q h = let e : a.0 ≡ b.0 = eqb-true a.0 b.0 q in omega arith
goes_true a b false false p q h = absurd (true≢false (sym h))

goes_false : (a b : ℕ × ℕ) → goes_before a b ≡ false → b.0 ≤ a.0
goes_false a b h = ltb-false a.0 b.0 (or_parts (nat_lt a.0 b.0) ((a.0 == b.0) && nat_lt a.1 b.1) h).0

one_there : (z : Ranked) (o : Option Ranked) → sooner z o ≡ None → ⊥
one_there z None h = none-some z (sym h)
one_there z (Some y) h = by (goes_before y.0 z.0) h
  where
    by : (b : Bool) → cond {A = Option Ranked} b (Some y) (Some z) ≡ None → ⊥
    by true h = none-some y (sym h)
    by false h = none-some z (sym h)

none_first : (xs : List Ranked) (y : Ranked) → first_ranked xs ≡ None → IsIn y xs → ⊥
none_first [] y h there = there
none_first (z ∷ zs) y h there = one_there z (first_ranked zs) h

abbrev IsLeastIn : List Ranked → Ranked → Type 0
IsLeastIn xs x = IsIn x xs × ((y : Ranked) → IsIn y xs → x.0.0 ≤ y.0.0)

chosen : (z w : Ranked) (zs : List Ranked) (x : Ranked) (b : Bool) → goes_before w.0 z.0 ≡ b → IsLeastIn zs w → cond {A = Option Ranked} b (Some w) (Some z) ≡ Some x → IsLeastIn (z ∷ zs) x
chosen z w zs x true goes least h =
    let le : w.0.0 ≤ z.0.0 = goes_true w.0 z.0 (nat_lt w.0.0 z.0.0) (w.0.0 == z.0.0) refl refl goes in
    subst (λ v. IsLeastIn (z ∷ zs) v) (same_Some w x h) (inr least.0, λ y there. elim there [ inl is ↦ subst (λ (v : Ranked). w.0.0 ≤ v.0.0) is le | inr i ↦ least.1 y i ])
chosen z w zs x false goes least h =
    let le : z.0.0 ≤ w.0.0 = goes_false w.0 z.0 goes in
    subst (λ v. IsLeastIn (z ∷ zs) v) (same_Some z x h)
    (inl refl, λ y there. elim there [ inl is ↦ subst (λ (v : Ranked). z.0.0 ≤ v.0.0) is (omega arith) | inr i ↦ omega (arith, le, least.1 y i) ])

least_by : (z : Ranked) (zs : List Ranked) → ((w : Ranked) → first_ranked zs ≡ Some w → IsLeastIn zs w) → (x : Ranked) (o : Option Ranked) → first_ranked zs ≡ o → sooner z o ≡ Some x → IsLeastIn (z ∷ zs) x
least_by z zs rest x None none h =
    subst (λ v. IsLeastIn (z ∷ zs) v) (same_Some z x h)
    (inl refl, λ y there. elim there [ inl is ↦ subst (λ (v : Ranked). z.0.0 ≤ v.0.0) is (omega arith) | inr i ↦ absurd (none_first zs y none i) ])
least_by z zs rest x (Some w) is h = chosen z w zs x (goes_before w.0 z.0) refl (rest w is) h

first_least : (xs : List Ranked) (x : Ranked) → first_ranked xs ≡ Some x → IsLeastIn xs x
first_least [] x h = absurd (none-some x h)
first_least (z ∷ zs) x h = least_by z zs (first_least zs) x (first_ranked zs) refl h

record IsFirst (rank : Event → Option (ℕ × ℕ)) (xs : List Event) (x : Event) : Type 0 where
  pub at : ℕ × ℕ
  pub ranked_so : rank x ≡ Some at
  pub there : IsIn x xs
  pub least : (y : Event) (j : ℕ × ℕ) → IsIn y xs → rank y ≡ Some j → at.0 ≤ j.0

module _ (rank : Event → Option (ℕ × ℕ)) where
  of_one : (z : Event) (o : Option (ℕ × ℕ)) (rest : List Ranked) (r : Ranked) → rank z ≡ o → IsIn r (cons_option (option_map (λ at. (at, z)) o) rest) → ((z ≡ r.1) × (rank r.1 ≡ Some r.0)) ⊎ IsIn r rest
  of_one z None rest r is there = inr there
  of_one z (Some k) rest r is (inl e) =
      let same : z ≡ r.1 = ap (λ (v : Ranked). v.1) e in
      inl (same, ap rank (sym same) ∙ is ∙ ap (λ (v : Ranked). Some v.0) e)
  of_one z (Some k) rest r is (inr i) = inr i

  unranked : (xs : List Event) (r : Ranked) → IsIn r (filter_map (ranked rank) xs) → IsIn r.1 xs × (rank r.1 ≡ Some r.0)
  unranked [] r there = absurd there
  unranked (z ∷ zs) r there =
      elim (of_one z (rank z) (filter_map (ranked rank) zs) r refl there) [
        | inl (same, is) ↦ (inl same, is)
        | inr i ↦ let rest = unranked zs r i in (inr rest.0, rest.1)
      ]

  behind : (z : Event) (o : Option (ℕ × ℕ)) (rest : List Ranked) (r : Ranked) → IsIn r rest → IsIn r (cons_option (option_map (λ at. (at, z)) o) rest)
  behind z None rest r i = i
  behind z (Some k) rest r i = inr i

  has_rank : (xs : List Event) (y : Event) (j : ℕ × ℕ) → IsIn y xs → rank y ≡ Some j → IsIn {A = Ranked} (j, y) (filter_map (ranked rank) xs)
  has_rank [] y j there is = absurd there
  has_rank (z ∷ zs) y j (inl e) is =
      subst (λ o. IsIn {A = Ranked} (j, y) (cons_option (option_map (λ at. (at, z)) o) (filter_map (ranked rank) zs))) (sym (ap rank e ∙ is)) (inl (ap (λ (v : Event). (j, v)) e))
  has_rank (z ∷ zs) y j (inr i) is = behind z (rank z) (filter_map (ranked rank) zs) (j, y) (has_rank zs y j i is)

  first_is : (xs : List Event) (x : Event) (o : Option Ranked) → first_ranked (filter_map (ranked rank) xs) ≡ o → option_map (λ (v : Ranked). v.1) o ≡ Some x → IsFirst rank xs x
  first_is xs x None is h = absurd (none-some x h)
  first_is xs x (Some r) is h =
      let same : r.1 ≡ x = same_Some r.1 x h in
      let least = first_least (filter_map (ranked rank) xs) r is in
      let own = unranked xs r least.0 in
      record {
        at = r.0;
        ranked_so = ap rank (sym same) ∙ own.1;
        there = subst (λ v. IsIn v xs) same own.0;
        least = λ y j i ranks. least.1 (j, y) (has_rank xs y j i ranks);
      }

-- ## The event that ended first on a side

pub record IsOldest (s : Settings) (h : List Command) (side : Side) (id : List ℕ) : Type 0 where
  pub place : ℕ
  pub there : IsIn {A = Event} (place, id) (held h)
  pub ends : ended_on side (standing_in s h id) ≡ true
  pub least : (o : Event) → IsIn o (held h) → ended_on side (standing_in s h o.1) ≡ true → last_number id h ≤ last_number o.1 h

ended_parts : (b : Bool) (n : ℕ) (k : ℕ × ℕ) → cond {A = Option (ℕ × ℕ)} b (Some (n, 0)) None ≡ Some k → (b ≡ true) × (n ≡ k.0)
ended_parts true n k h = (refl, ap (λ (v : ℕ × ℕ). v.0) (same_Some (n, 0) k h))
ended_parts false n k h = absurd (none-some k h)

oldest_is : (s : Settings) (h : List Command) (side : Side) (event : Event) → oldest_ended s h side ≡ Some event → IsOldest s h side event.1
unfolding oldest_ended
oldest_is s h side event is =
    let first = first_is (ended_rank s h side) (held h) event (first_ranked (filter_map (ranked (ended_rank s h side)) (held h))) refl is in
    let parts = ended_parts (ended_on side (standing_in s h event.1)) (last_number event.1 h) first.at first.ranked_so in
    record {
      place = event.0;
      there = first.there;
      ends = parts.0;
      least = λ o i ends.
          let le : first.at.0 ≤ last_number o.1 h = first.least o (last_number o.1 h, 0) i (ap (λ b. cond {A = Option (ℕ × ℕ)} b (Some (last_number o.1 h, 0)) None) ends) in
          omega (arith, le, parts.1);
    }

-- ## There is one oldest

last_least : (id : List ℕ) (h : List Command) → last_number id h ≤ length h
unfolding last_number
last_least id h = omega arith

same_by : (a b : List ℕ) (h : List Command) (c : Command) (x y : Bool) → names a c ≡ x → names b c ≡ y
    → (last_number a h ≡ last_number b h → 0 < last_number a h → a ≡ b)
    → cond x (length h + 1) (last_number a h) ≡ cond y (length h + 1) (last_number b h) → 0 < cond x (length h + 1) (last_number a h) → a ≡ b
same_by a b h c true true p q rest e more = named_id a c p ∙ sym (named_id b c q)
same_by a b h c true false p q rest e more = absurd (omega (arith, last_least b h))
same_by a b h c false true p q rest e more = absurd (omega (arith, last_least a h))
same_by a b h c false false p q rest e more = rest e more

-- two events whose last command is the same are one
same_last : (a b : List ℕ) (h : List Command) → last_number a h ≡ last_number b h → 0 < last_number a h → a ≡ b
same_last a b h =
    by_last (λ h. last_number a h ≡ last_number b h → 0 < last_number a h → a ≡ b)
    (λ e more. absurd (omega (arith, last_least a [])))
    (λ h c rest.
    rw (last_number-snoc a h c, last_number-snoc b h c) (same_by a b h c (names a c) (names b c) refl refl rest)) h

quiet_by : (id : List ℕ) (h : List Command) (c : Command) (kind named : Bool) → (last_number id h ≡ 0 → life id h ≡ []) → cond named (length h + 1) (last_number id h) ≡ 0
    → cond kind [] (life id h ++ cond named (c ∷ []) []) ≡ []
quiet_by id h c true named rest e = refl
quiet_by id h c false true rest e = absurd (omega arith)
quiet_by id h c false false rest e = rw (rest e) refl

-- an event without a last command has no life
no_life : (id : List ℕ) (h : List Command) → last_number id h ≡ 0 → life id h ≡ []
no_life id h =
    by_last (λ h. last_number id h ≡ 0 → life id h ≡ []) (λ e. life-nil id)
    (λ h c rest. rw (last_number-snoc id h c, life-snoc id h c) (quiet_by id h c (collects id c) (names id c) rest)) h

ended_known : (side : Side) (st : Standing) → is_unknown st ≡ true → ended_on side st ≡ true → ⊥
ended_known side standing.Unknown unknown ended = true≢false (sym ended)
ended_known side (standing.Waiting due) unknown ended = true≢false (sym unknown)
ended_known side (standing.Running environment deadline) unknown ended = true≢false (sym unknown)
ended_known side (standing.DueAgain due) unknown ended = true≢false (sym unknown)
ended_known side (standing.Ended outcome at) unknown ended = true≢false (sym unknown)

has_last : (s : Settings) (h : List Command) (side : Side) (id : List ℕ) (n : ℕ) → last_number id h ≡ n → ended_on side (standing_in s h id) ≡ true → 0 < n
has_last s h side id zero none ended =
    absurd (ended_known side (standing_in s h id) (unknown-nil s h id ∙ ap is_nil (no_life id h none)) ended)
has_last s h side id (suc n) some ended = omega arith

nobody : (s : Settings) (h : List Command) (side : Side) (id : List ℕ) → IsOldest s h side id → oldest_ended s h side ≡ None → ⊥
unfolding oldest_ended
nobody s h side id o none =
    none-some (last_number id h, 0)
    (sym (first_by-none_ranked (ended_rank s h side) (held h) (o.place, id) none o.there) ∙ ap (λ b. cond {A = Option (ℕ × ℕ)} b (Some (last_number id h, 0)) None) o.ends)

oldest_by : (s : Settings) (h : List Command) (side : Side) (id : List ℕ) → IsOldest s h side id → (event : Option Event) → oldest_ended s h side ≡ event → ending_of_event s h event ≡ ending_after s id h
oldest_by s h side id o None none = absurd (nobody s h side id o none)
oldest_by s h side id o (Some event) is =
    let other = oldest_is s h side event is in
    let one : last_number id h ≤ last_number event.1 h = o.least (other.place, event.1) other.there other.ends in
    let two : last_number event.1 h ≤ last_number id h = other.least (o.place, id) o.there o.ends in
    let same : last_number event.1 h ≡ last_number id h = omega (arith, one, two) in
    let ids : event.1 ≡ id = same_last event.1 id h same (has_last s h side event.1 (last_number event.1 h) refl other.ends) in
    ap (λ n. ending_after s n h) ids

oldest_told : (s : Settings) (h : List Command) (side : Side) (id : List ℕ) → IsOldest s h side id → ending_of_event s h (oldest_ended s h side) ≡ ending_after s id h
oldest_told s h side id o = oldest_by s h side id o (oldest_ended s h side) refl

-- ## One command more

module _ {A : Type 0} (p : A → Bool) where
  in_cond : (b : Bool) (x z : A) (rest : List A) → IsIn x rest → IsIn x (cond b (z ∷ rest) rest)
  in_cond true x z rest i = inr i
  in_cond false x z rest i = i

  in_filter : (xs : List A) (x : A) → IsIn x xs → p x ≡ true → IsIn x (filter p xs)
  in_filter [] x there is = absurd there
  in_filter (z ∷ zs) x (inl e) is = subst (λ b. IsIn x (cond b (z ∷ filter p zs) (filter p zs))) (sym (ap p e ∙ is)) (inl e)
  in_filter (z ∷ zs) x (inr i) is = in_cond (p z) x z (filter p zs) (in_filter zs x i is)

  of_cond : (b : Bool) (x z : A) (rest : List A) → IsIn x (cond b (z ∷ rest) rest) → (z ≡ x) ⊎ IsIn x rest
  of_cond true x z rest there = there
  of_cond false x z rest there = inr there

  of_filter : (xs : List A) (x : A) → IsIn x (filter p xs) → IsIn x xs
  of_filter [] x there = there
  of_filter (z ∷ zs) x there = elim (of_cond (p z) x z (filter p zs) there) [ inl e ↦ inl e | inr i ↦ inr (of_filter zs x i) ]

in_front : {A : Type 0} (x : A) (xs ys : List A) → IsIn x xs → IsIn x (xs ++ ys)
in_front x [] ys there = absurd there
in_front x (z ∷ zs) ys (inl e) = inl e
in_front x (z ∷ zs) ys (inr i) = inr (in_front x zs ys i)

accept_names : (k : Kind) → kind_is_accept k ≡ true → kind_names k ≡ true
accept_names (Configure policy) h = absurd (true≢false (sym h))
accept_names k h = refl

new_is_named : (b : Bool) (n : ℕ) (c : Command) (e : Event) → is_accept c ≡ b → IsIn e (cond {A = List Event} b ((n, c.id) ∷ []) []) → names e.1 c ≡ true
new_is_named true n c e is (inl same) = subst (λ (v : Event). names v.1 c ≡ true) same (named_by c.id c (accept_names c.kind is) (bytes_eq-refl c.id))
new_is_named true n c e is (inr none) = absurd none
new_is_named false n c e is there = absurd there

ended_so : (side : Side) (st : Standing) → ended_on side st ≡ true → is_ended st ≡ true
ended_so side standing.Unknown h = absurd (true≢false (sym h))
ended_so side (standing.Waiting due) h = absurd (true≢false (sym h))
ended_so side (standing.DueAgain due) h = absurd (true≢false (sym h))
ended_so side (standing.Running environment deadline) h = absurd (true≢false (sym h))
ended_so side (standing.Ended outcome at) h = refl

module _ (s : Settings) (h : List Command) (c : Command) (side : Side) (id : List ℕ) (legal : IsLegal s (h ++ c ∷ [])) (kept : collects id c ≡ false) (o : IsOldest s h side id) where
  unnamed : (b : Bool) → names id c ≡ b → b ≡ false
  unnamed false is = refl
  unnamed true named =
      absurd (true≢false (sym (rw (only_collected s h c id (IsLegal-last s h c legal) named (ended_so side (standing_in s h id) o.ends), named) refl) ∙ kept))

  other : names id c ≡ false
  other = unnamed (names id c) refl

  last_stays : (e : List ℕ) (b : Bool) → names e c ≡ b → last_number e (h ++ c ∷ []) ≡ cond b (length h + 1) (last_number e h)
  last_stays e b is = last_number-snoc e h c ∙ ap (λ v. cond v (length h + 1) (last_number e h)) is

  abbrev still : Event → Bool
  still e = not (collects e.1 c)

  abbrev new : List Event
  new = cond {A = List Event} (is_accept c) ((length h + 1, c.id) ∷ []) []

  unnamed_was_there : (e : Event) → names e.1 c ≡ false → IsIn e (held (h ++ c ∷ [])) → IsIn e (held h)
  unnamed_was_there e apart there =
      elim (in_append e (filter still (held h)) new (subst (λ l. IsIn e l) (held-snoc h c) there)) [
        | inl old ↦ of_filter still (held h) e old
        | inr own ↦ absurd (true≢false (sym (new_is_named (is_accept c) (length h + 1) c e refl own) ∙ apart))
      ]

  behind_it : (e : Event) (b : Bool) → names e.1 c ≡ b → IsIn e (held (h ++ c ∷ [])) → ended_on side (standing_in s (h ++ c ∷ []) e.1) ≡ true
      → last_number id (h ++ c ∷ []) ≤ last_number e.1 (h ++ c ∷ [])
  behind_it e true named there ends =
      let mine : last_number id (h ++ c ∷ []) ≡ last_number id h = last_stays id false other in
      let its : last_number e.1 (h ++ c ∷ []) ≡ length h + 1 = last_stays e.1 true named in
      omega (arith, mine, its, last_least id h)
  behind_it e false apart there ends =
      let mine : last_number id (h ++ c ∷ []) ≡ last_number id h = last_stays id false other in
      let its : last_number e.1 (h ++ c ∷ []) ≡ last_number e.1 h = last_stays e.1 false apart in
      let le : last_number id h ≤ last_number e.1 h = o.least e (unnamed_was_there e apart there) (sym (ap (ended_on side) (same_standing s h c e.1 apart)) ∙ ends) in
      omega (arith, mine, its, le)

  pub stays_oldest : IsOldest s (h ++ c ∷ []) side id
  stays_oldest = record {
    place = o.place;
    there = subst (λ l. IsIn {A = Event} (o.place, id) l) (sym (held-snoc h c)) (in_front {A = Event} (o.place, id) (filter still (held h)) new (in_filter still (held h) (o.place, id) o.there (ap not kept)));
    ends = ap (ended_on side) (same_standing s h c id other) ∙ o.ends;
    least = λ e there ends. behind_it e (names e.1 c) refl there ends;
  }

-- ## Later histories

oldest_since : (s : Settings) (front : List Command) (side : Side) (id : List ℕ) → IsOldest s front side id → (since : List Command) → IsLegal s (front ++ since) → list_any (collects id) since ≡ false → IsOldest s (front ++ since) side id
oldest_since s front side id o since = by_last (λ since. IsLegal s (front ++ since) → list_any (collects id) since ≡ false → IsOldest s (front ++ since) side id)
    (λ legal none. subst (λ l. IsOldest s l side id) (sym (append-nil front)) o)
    (λ since c before legal none.
    let parts = or_parts (list_any (collects id) since) (collects id c || false) (sym (list_any-append (collects id) since (c ∷ [])) ∙ none) in
    let last = or_parts (collects id c) false parts.1 in
    let whole : IsLegal s ((front ++ since) ++ c ∷ []) = subst (λ l. IsLegal s l) (sym (append_assoc front since (c ∷ []))) legal in
    subst (λ l. IsOldest s l side id) (append_assoc front since (c ∷ []))
    (stays_oldest s (front ++ since) c side id whole last.0 (before (IsLegal-front s (front ++ since) (c ∷ []) whole) parts.0)))
    since

ended_event : (s : Settings) (h : List Command) (event : Option Event) (e : Ending) → ending_of_event s h event ≡ Some e → (at : ℕ) × (event ≡ Some (at, e.id))
ended_event s h None e is = absurd (none-some e is)
ended_event s h (Some event) e is = (event.0, ap (λ id. Some (event.0, id)) (ended_id event.1 _ _ _ (standing_in s h event.1) e is))

-- what is told of the oldest on a side is told of it after more commands too, until a Collect
pub told_first_since : (s : Settings) (front since : List Command) (side : Side) (e : Ending) → ending_of_event s front (oldest_ended s front side) ≡ Some e → IsLegal s (front ++ since) → list_any (collects e.id) since ≡ false
    → ending_of_event s (front ++ since) (oldest_ended s (front ++ since) side) ≡ Some e
told_first_since s front since side e is legal none =
    let event = ended_event s front (oldest_ended s front side) e is in
    let oldest : IsOldest s front side e.id = oldest_is s front side (event.0, e.id) event.1 in
    let told : ending_after s e.id front ≡ Some e = of_event s front (oldest_ended s front side) e is in
    oldest_told s (front ++ since) side e.id (oldest_since s front side e.id oldest since legal none)
    ∙ stays_ended s e.id e front told since legal none

-- it is told first in each later history, until a Collect of its event comes
pub shown_first : (s : Settings) (point : ℕ) (history later : List Command) (side : Side) (e : Ending) → oldest_record s (take point history) side ≡ Some e → GoesOn s point history later → IsShownFirst s point later side e
shown_first s point history later side e first goes = by (list_any (collects e.id) (drop point later)) refl
  where
    by : (b : Bool) → list_any (collects e.id) (drop point later) ≡ b → IsShownFirst s point later side e
    by true is = inr is
    by false is =
        let whole = since_front s point history later goes in
        let legal : IsLegal s (take point history ++ drop point later) = subst (λ l. IsLegal s l) (sym whole) goes.legal in
        inl (subst (λ l. oldest_record s l side ≡ Some e) whole (told_first_since s (take point history) (drop point later) side e first legal is))
