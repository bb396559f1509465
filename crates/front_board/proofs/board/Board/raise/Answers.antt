use Rattle.std.proofs.Common.{max, rules}
use Rattle.std.specs.Prelude.{slice_index}
use Rattle.atomic_table.specs.Table.{keeps}
use Rattle.front_board.specs.Rule.{view}
use Rattle.front_board.proofs.Moves.{raises}
use Rattle.front_board.proofs.board.Board.raise.Goals as goal

pub fetch_max-requires : goal.fetch_max-requires
fetch_max-requires g c =
    let word = c.args.self.now.word.shared in
    let place = c.args.seat.now.place in
    let k = c.number.result in (
      c.requires.sits,
      search rules,
      λ s h len at small.
          let given : g.N.Numbers.given k = rw c.number.ensures c.requires.given in
          let step = raises g.N.Numbers.given word.key place.id place.me.0 k s.words s.views h at given in
          (view (max place.me.0.raised k) (max (slice_index s.words 0) k), keeps, tt, step.0, step.1),
    )
