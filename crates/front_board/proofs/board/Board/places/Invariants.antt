use Rattle.std.proofs.Common.{◌≡◌, All, vec_len}
use Rattle.front_board.specs.Board.{IsNewSeat}
use Rattle.front_board.proofs.board.Board.places.Given as goal

abbrev pub invariant-loop : goal.invariant-loop
invariant-loop g l =
    (vec_len l.places ≡ l.counter)
    × All (IsNewSeat l.fn.self l.fn.first.me.0.seen) l.places.items
    × (l.first.table_id ≡ l.fn.first.table_id)
    × (l.first.me.0 ≡ l.fn.first.me.0)
