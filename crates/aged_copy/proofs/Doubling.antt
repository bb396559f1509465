-- Rows whose numbers are those of commands are doubled whole.
use Rattle.std.proofs.Common.{◌≡◌, ℕ, ◌*◌, ◌^◌, List, [], ◌∷◌, map, true, refl, arith, nat_le}
use Rattle.std.specs.List.{list_all}
use Rattle.std.proofs.lemmas.Bool.{and_parts, leb-true}
use Rattle.invoke_records.specs.declared.row.EventRow.{EventRow}
use Rattle.aged_copy.specs.Aging.{aged_row}
use Rattle.aged_copy.specs.AgingSteps.{doubled, doubled_row, is_counted}

twice : (n : ℕ) → nat_le n (2 ^ 62) ≡ true → doubled n ≡ 2 * n
twice n small = let le = leb-true n (2 ^ 62) small in omega (arith, le)

same_row : (age : ℕ) (r : EventRow) → is_counted r ≡ true → doubled_row age r ≡ aged_row age r
same_row age r counted =
    let parts = and_parts (nat_le r.number (2 ^ 62)) (nat_le r.last_number (2 ^ 62)) counted in
    rw (twice r.number parts.0, twice r.last_number parts.1) refl

pub same_rows : (age : ℕ) (rows : List EventRow) → list_all is_counted rows ≡ true → map (doubled_row age) rows ≡ map (aged_row age) rows
same_rows age [] counted = refl
same_rows age (r ∷ rows) counted =
    let parts = and_parts (is_counted r) (list_all is_counted rows) counted in
    rw (same_row age r parts.0, same_rows age rows parts.1) refl
