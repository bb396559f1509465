use Rattle.std.proofs.Common.{rules}
use Rattle.front_board.proofs.Moves.{sits}
use Rattle.front_board.proofs.board.Board.another.Goals as goal

pub split_seat-place-requires : goal.split_seat-place-requires
split_seat-place-requires g c =
    let word = c.args.self.now.word.shared in
    let seat = c.args.first.now in (
      c.requires.sits,
      search rules,
      λ s h at. sits g.N.Numbers.given word.key seat.id seat.me.0 s.words s.views h at,
    )
