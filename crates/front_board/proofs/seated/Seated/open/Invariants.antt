use Rattle.std.proofs.Common.{◌≡◌, ◌+◌, All, length}
use Rattle.front_board.specs.Board.{IsNewSeat}
use Rattle.front_board.specs.Seated.{seen_by}
use Rattle.front_board.proofs.seated.Seated.open.Given as goal

abbrev pub invariant-loop-seat : goal.invariant-loop-seat
invariant-loop-seat l =
    All (IsNewSeat l.shared.value l.fn.durable) l.seat-iterator.rest.items
    × All (λ seated. seen_by seated ≡ l.fn.durable) l.all.items
    × All (λ seated. seated.seat.place.table_id ≡ l.shared.value.word.shared.table_id) l.all.items
    × (length l.all.items + length l.seat-iterator.rest.items ≡ l.fn.count)
