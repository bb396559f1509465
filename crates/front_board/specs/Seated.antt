-- What was seen from a seat that stands beside its board.
use Rattle.std.specs.Prelude.{◌≡◌, ℕ, List, All}
use Rattle.atomic_table.specs.Seated.{TableId}
use Rattle.front_board.specs.declared.seated.Seated.{Seated}
use Rattle.front_board.specs.Board.{seen_from}

-- the last number that was seen or raised from the seat
abbrev pub seen_by : Seated → ℕ
seen_by seated = seen_from seated.seat

-- each of them is a seat of one board
abbrev pub AreAtOneBoard : List Seated → Type 0
AreAtOneBoard all = (board : TableId) × All (λ seated. seated.seat.place.table_id ≡ board) all
