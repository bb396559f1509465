use Rattle.std.proofs.Common.{rules}
use Rattle.std.specs.Prelude.{slice_index}
use Rattle.atomic_table.specs.Table.{keeps}
use Rattle.front_board.specs.Rule.{view}
use Rattle.front_board.proofs.Moves.{looks}
use Rattle.front_board.proofs.board.Board.look.Goals as goal

pub load-number-requires : goal.load-number-requires
load-number-requires g c =
    let word = c.args.self.now.word.shared in
    let place = c.args.seat.now.place in (
      c.requires.sits,
      search rules,
      λ s h len at small.
          let step = looks g.N.Numbers.given word.key place.id place.me.0 s.words s.views h at in
          (view place.me.0.raised (slice_index s.words 0), keeps, tt, step.0, step.1),
    )
