-- A board's seats, and what was seen from them.
use Rattle.std.specs.Prelude.{◌≡◌, ℕ}
use Rattle.front_board.specs.declared.board.Board.{Board}
use Rattle.front_board.specs.declared.board.Seat.{Seat}

-- the last number that was seen or raised from a seat
abbrev pub seen_from : Seat → ℕ
seen_from seat = seat.place.me.0.seen

-- a seat is one of this board
abbrev pub SitsAt : {N : Type 0} → Board N → Seat → Type 0
SitsAt board seat = seat.place.table_id ≡ board.word.shared.table_id

-- it is one of this board, and nothing but this number was seen from it
abbrev pub IsNewSeat : {N : Type 0} → Board N → ℕ → Seat → Type 0
IsNewSeat board number seat = SitsAt board seat × (seen_from seat ≡ number)
