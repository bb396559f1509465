-- Rows that are looked at one after another, each against those before it.
use Rattle.std.proofs.Common.{◌≡◌, ℕ, ◌+◌, ◌≤◌, List, [], ◌∷◌, Bool, true, false, ◌&&◌, cond, refl, sym, ap, ◌∙◌, arith, nat_lt, nat_le}
use Rattle.std.specs.Prelude.{not}
use Rattle.std.specs.List.{list_all}
use Rattle.std.specs.Str.{bytes_eq}
use Rattle.std.specs.Ordering.{nat_cmp}
use Rattle.std.specs.Cmp.Lexicographic.{slice_cmp}
use Rattle.std.specs.BTreeSet.{BTreeSet, contains, IsEmpty, Updates}
use Rattle.std.proofs.lemmas.Bool.{le-leb, ltb-true}
use Rattle.std.proofs.lemmas.Map.Text.{is_eq-slice_cmp}
use Rattle.invoke_records.specs.declared.row.EventRow.{EventRow}
use Rattle.invoke_records.specs.Spelling.{is_before, are_in_order}

-- its number is at least this one, and its id is none of these
abbrev pub comes_after : ℕ → BTreeSet (List ℕ) → EventRow → Bool
comes_after least seen r = nat_le least r.number && not (contains (slice_cmp nat_cmp) seen r.id)

-- each comes after what was seen, and they are in order
abbrev pub go_on : ℕ → BTreeSet (List ℕ) → List EventRow → Bool
go_on least seen rows = list_all (comes_after least seen) rows && are_in_order rows

-- where nothing was seen each comes after it
comes_after-nothing : (seen : BTreeSet (List ℕ)) → IsEmpty seen → (rows : List EventRow) → list_all (comes_after 0 seen) rows ≡ true
comes_after-nothing seen none [] = refl
comes_after-nothing seen none (r ∷ rows) = rw (none, le-leb 0 r.number (omega arith)) (comes_after-nothing seen none rows)

pub go_on-first : (seen : BTreeSet (List ℕ)) → IsEmpty seen → (rows : List EventRow) → go_on 0 seen rows ≡ are_in_order rows
go_on-first seen none rows = ap (λ b. b && are_in_order rows) (comes_after-nothing seen none rows)

-- a test that holds where two hold
and_assoc : (b bs c : Bool) → ((b && bs) && c) ≡ (b && (bs && c))
and_assoc true bs c = refl
and_assoc false bs c = refl

both_all : (f g h : EventRow → Bool) → ((r : EventRow) → (f r && g r) ≡ h r) → (rows : List EventRow) (rest : Bool) → (list_all f rows && (list_all g rows && rest)) ≡ (list_all h rows && rest)
both_all f g h is [] rest = refl
both_all f g h is (r ∷ rows) rest =
    regroup (f r) (list_all f rows) (g r) (list_all g rows) rest
    ∙ ap (λ b. b && (list_all f rows && (list_all g rows && rest))) (is r)
    ∙ ap (λ b. h r && b) (both_all f g h is rows rest)
    ∙ sym (and_assoc (h r) (list_all h rows) rest)
  where
    regroup : (a more b bs c : Bool) → ((a && more) && ((b && bs) && c)) ≡ ((a && b) && (more && (bs && c)))
    regroup true true b bs c = and_assoc b bs c
    regroup true false true bs c = refl
    regroup true false false bs c = refl
    regroup false more b bs c = refl

module _ (least : ℕ) (seen next : BTreeSet (List ℕ)) (r : EventRow) (from : least ≤ r.number) (added : Updates (slice_cmp nat_cmp) seen next r.id true) where
  later : (x : EventRow) (b old : Bool) → contains (slice_cmp nat_cmp) next x.id ≡ cond b true old
      → ((nat_le least x.number && not old) && (nat_lt r.number x.number && not b)) ≡ (nat_le (r.number + 1) x.number && not (contains (slice_cmp nat_cmp) next x.id))
  later x b old is = by_order (nat_lt r.number x.number) refl b old is
    where
      by_order : (o : Bool) → nat_lt r.number x.number ≡ o → (b old : Bool) → contains (slice_cmp nat_cmp) next x.id ≡ cond b true old
          → ((nat_le least x.number && not old) && (nat_lt r.number x.number && not b)) ≡ (nat_le (r.number + 1) x.number && not (contains (slice_cmp nat_cmp) next x.id))
      by_order true o true true is = rw (o, is, le-leb least x.number (omega (arith, from, ltb-true r.number x.number o)), le-leb (r.number + 1) x.number (omega (arith, ltb-true r.number x.number o))) refl
      by_order true o true false is = rw (o, is, le-leb least x.number (omega (arith, from, ltb-true r.number x.number o)), le-leb (r.number + 1) x.number (omega (arith, ltb-true r.number x.number o))) refl
      by_order true o false true is = rw (o, is, le-leb least x.number (omega (arith, from, ltb-true r.number x.number o)), le-leb (r.number + 1) x.number (omega (arith, ltb-true r.number x.number o))) refl
      by_order true o false false is = rw (o, is, le-leb least x.number (omega (arith, from, ltb-true r.number x.number o)), le-leb (r.number + 1) x.number (omega (arith, ltb-true r.number x.number o))) refl
      by_order false o b old is = rw (o) (nothing (nat_le least x.number && not old) (nat_le (r.number + 1) x.number) (not (contains (slice_cmp nat_cmp) next x.id)) none)
        where
          none : nat_le (r.number + 1) x.number ≡ false
          none = grind (arith, o)

          nothing : (a c d : Bool) → c ≡ false → (a && (false && not b)) ≡ (c && d)
          nothing true c d is = rw is refl
          nothing false c d is = rw is refl

  pub go_on-next : (rows : List EventRow) → not (contains (slice_cmp nat_cmp) seen r.id) ≡ true → go_on least seen (r ∷ rows) ≡ go_on (r.number + 1) next rows
  go_on-next rows new =
      rw (le-leb least r.number from, new)
      (both_all (comes_after least seen) (is_before r) (comes_after (r.number + 1) next)
      (λ x. later x (bytes_eq r.id x.id) (contains (slice_cmp nat_cmp) seen x.id) (added.0 x.id ∙ ap (λ b. cond b true (contains (slice_cmp nat_cmp) seen x.id)) (is_eq-slice_cmp r.id x.id)))
      rows (are_in_order rows))

-- a row that does not come after what was seen
pub go_on-stops : (least : ℕ) (seen : BTreeSet (List ℕ)) (r : EventRow) (rows : List EventRow) → comes_after least seen r ≡ false → go_on least seen (r ∷ rows) ≡ false
go_on-stops least seen r rows none = rw none refl
