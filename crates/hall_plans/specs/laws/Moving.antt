-- Laws: the event that goes first by the table's contract is the one that a tick moves.
use Rattle.std.proofs.Common.{◌≡◌, ℕ, ◌+◌, ◌≤◌, List, [], ◌∷◌, Bool, true, false, not, ◌&&◌, refl, sym, subst, ap, ◌∙◌, arith, Option, Some, None, inl, inr, if◌then◌else◌, All}
use Rattle.std.specs.Prelude.{option_map, IsSome, is_some}
use Rattle.std.specs.List.{list_any}
use Rattle.std.proofs.lemmas.Bool.{cases_lt}
use Rattle.std.proofs.lemmas.Option.{none-some, same_Some}
use Rattle.std.proofs.lemmas.List.Elements.{recursion_from_All}
use Rattle.retry_rules.specs.declared.settings.Settings.{Settings}
use Rattle.invoke_records.specs.declared.command.Command.{Command}
use Rattle.invoke_records.specs.declared.command.Kind.{Kind}
use Rattle.invoke_records.specs.declared.command.Kind.TheVariants.{Accept, Start, Succeed, Fail, Throttle, Interrupt, Expire, Collect, Configure}
use Rattle.async_core.specs.declared.choice.Move.{Move}
use Rattle.async_core.specs.Lives.{is_accept, collects}
use Rattle.async_core.specs.History.{held_from, held}
use Rattle.async_core.specs.Choice.{move_of, ripe_at, IsNext, GoesFirst, IsNextMove, command_of_move, environment_for}
use Rattle.hall_plans.specs.Firsts.{Event, move_rank, first_moving}
use Rattle.hall_plans.specs.Effects.{Scene, moves, moves_event}
use Rattle.hall_plans.specs.laws.Ranks.{IsIn, in_from_contains, Behind, before, first_by-is, first_by-none, all_in, by_in}

-- ## Events that are held have different numbers

abbrev is_kept : Command → List Command → Bool
is_kept c later = is_accept c && not (list_any (collects c.id) later)

abbrev kept_if : Bool → ℕ → Command → List Command → List Event
kept_if t n c later = if t then (n, c.id) ∷ held_from (n + 1) later else held_from (n + 1) later

above_if : (t : Bool) (n : ℕ) (c : Command) (h : List Command) (e : Event) → (IsIn e (held_from (n + 1) h) → n + 1 ≤ e.0) → IsIn e (kept_if t n c h) → n ≤ e.0
above_if true n c h e rest (inl p) = let f : n ≡ e.0 = ap (λ (v : Event). v.0) p in omega arith
above_if true n c h e rest (inr j) = let f : n + 1 ≤ e.0 = rest j in omega arith
above_if false n c h e rest j = let f : n + 1 ≤ e.0 = rest j in omega arith

pub above : (n : ℕ) (h : List Command) (e : Event) → IsIn e (held_from n h) → n ≤ e.0
above n [] e i = absurd i
above n (c ∷ h) e i = above_if (is_kept c h) n c h e (above (n + 1) h e) i

apart_if : (t : Bool) (n : ℕ) (c : Command) (h : List Command) (a b : Event)
    → (IsIn a (held_from (n + 1) h) → IsIn b (held_from (n + 1) h) → a ≡ b)
    → IsIn a (kept_if t n c h) → IsIn b (kept_if t n c h) → a.0 ≡ b.0 → a ≡ b
apart_if true n c h a b rest (inl p) (inl q) e = sym p ∙ q
apart_if true n c h a b rest (inl p) (inr j) e =
    let f : n ≡ a.0 = ap (λ (v : Event). v.0) p in
    let g : n + 1 ≤ b.0 = above (n + 1) h b j in
    let no : ⊥ = omega arith in absurd no
apart_if true n c h a b rest (inr i) (inl q) e =
    let f : n ≡ b.0 = ap (λ (v : Event). v.0) q in
    let g : n + 1 ≤ a.0 = above (n + 1) h a i in
    let no : ⊥ = omega arith in absurd no
apart_if true n c h a b rest (inr i) (inr j) e = rest i j
apart_if false n c h a b rest i j e = rest i j

-- two events of one number are one
pub apart : (n : ℕ) (h : List Command) (a b : Event) → IsIn a (held_from n h) → IsIn b (held_from n h) → a.0 ≡ b.0 → a ≡ b
apart n [] a b i j e = absurd i
apart n (c ∷ h) a b i j e = apart_if (is_kept c h) n c h a b (λ i j. apart (n + 1) h a b i j e) i j e

-- ## The event that moves next

abbrev move_key : Settings → List Command → Event → ℕ × ℕ
move_key s h e = (ripe_at s h e.1, e.0)

has_rank : (k j : ℕ × ℕ) (o : Option Kind) → option_map (λ kind. k) o ≡ Some j → IsSome o × (k ≡ j)
has_rank k j None e = absurd (none-some j e)
has_rank k j (Some kind) e = (refl, same_Some k j e)

behind_first : (s : Settings) (h : List Command) (e o : Event) → IsIn e (held_from 1 h) → IsIn o (held_from 1 h) → GoesFirst s h e o
    → Behind {A = Event} (move_key s h e, e) (move_key s h o, o)
behind_first s h e o i j (inl lt) = inr (before (move_key s h e) (move_key s h o) (inl lt))
behind_first s h e o i j (inr p) = elim (cases_lt e.0 o.0) [
  | inl lt ↦ inr (before (move_key s h e) (move_key s h o) (inr (p.0, lt)))
  | inr ge ↦ let n : e.0 ≡ o.0 = omega (arith, p.1) in inl (ap (λ (v : Event). (move_key s h v, v)) (sym (apart 1 h e o i j n)))
]

-- the event of which the table says that it goes next is the one that moves
pub first_moving-is : (s : Settings) (h : List Command) (now : ℕ) (ready : Bool) (e : Event) (kind : Kind) → IsNext s h now ready e kind → first_moving s h now ready ≡ Some e
unfolding held first_moving
first_moving-is s h now ready e kind next =
    let i = in_from_contains (held_from 1 h) e next.is_held in
    let first = recursion_from_All (λ (o : Event). IsSome (move_of s h now ready o.1) → GoesFirst s h e o) (held_from 1 h) next.first in
    first_by-is (move_rank s h now ready) e (move_key s h e) (held_from 1 h) (rw next.moves refl) i
    (all_in (λ (o : Event). (j : ℕ × ℕ) → move_rank s h now ready o ≡ Some j → Behind {A = Event} (move_key s h e, e) (j, o)) (held_from 1 h)
    (λ o i' j ranked_so.
    let parts = has_rank (move_key s h o) j (move_of s h now ready o.1) ranked_so in
    subst (λ v. Behind {A = Event} (move_key s h e, e) (v, o)) parts.1
    (behind_first s h e o i i' (by_in (λ (o : Event). IsSome (move_of s h now ready o.1) → GoesFirst s h e o) (held_from 1 h) o first i' parts.0))))

-- where no event has a move, none moves
pub first_moving-none : (s : Settings) (h : List Command) (now : ℕ) (ready : Bool) → All (λ (o : Event). move_of s h now ready o.1 ≡ None) (held h) → first_moving s h now ready ≡ None
unfolding held first_moving
first_moving-none s h now ready all =
    first_by-none (move_rank s h now ready) (held_from 1 h)
    (all_in (λ (o : Event). move_rank s h now ready o ≡ None) (held_from 1 h)
    (λ o i. rw (by_in (λ (o : Event). move_of s h now ready o.1 ≡ None) (held_from 1 h) o (recursion_from_All (λ (o : Event). move_of s h now ready o.1 ≡ None) (held_from 1 h) all) i) refl))

-- the command of a move, by its kind
pub command_by_kind : (x : Scene) (ready : Option ℕ) (id : List ℕ) (kind : Kind)
    → (moves_event x ready id kind).command ≡ Some (record { kind = kind; id = id; environment = environment_for ready kind; time = x.now; bytes = [] })
command_by_kind x ready id Accept = refl
command_by_kind x ready id Start = refl
command_by_kind x ready id Succeed = refl
command_by_kind x ready id (Fail cause) = refl
command_by_kind x ready id Throttle = refl
command_by_kind x ready id Interrupt = refl
command_by_kind x ready id Expire = refl
command_by_kind x ready id Collect = refl
command_by_kind x ready id (Configure policy) = refl

-- a tick's command is that of the move that the table answers
pub next_move_is : (x : Scene) (ready : Option ℕ) (answered : Option Move) → IsNextMove x.settings x.past.history x.now ready answered
    → (moves x ready (first_moving x.settings x.past.history x.now (is_some ready))).command ≡ option_map (command_of_move x.now) answered
next_move_is x ready None all = rw (first_moving-none x.settings x.past.history x.now (is_some ready) all) refl
next_move_is x ready (Some move) (e, id_is, environment_is, next) =
    rw (first_moving-is x.settings x.past.history x.now (is_some ready) e move.kind next, next.moves, id_is, environment_is) (command_by_kind x ready e.1 move.kind)
