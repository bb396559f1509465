-- What goes next by the rows goes next by the history.
use Rattle.async_core.specs.Choice.{IsNextAt}
use Rattle.async_core.proofs.Nexts.{next_move-by_history}
use Rattle.async_core.proofs.LegalMoves.{legal_move}
use Rattle.async_core.proofs.table.Table.next_move.Goals as goal

pub returns : goal.returns
returns c =
    let next : IsNextAt c.args.self.now.settings c.args.self.now.table.rows c.args.now c.args.ready_env c.next_move_in.result = rw (← c.self.view_is) c.next_move_in.ensures in
    record {
      by_row = next;
      by_history = λ history is. next_move-by_history _ _ history c.args.now c.args.ready_env _ is next;
      legal = λ history is moment clock free. legal_move _ history c.args.now c.args.ready_env _ moment clock free (next_move-by_history _ _ history c.args.now c.args.ready_env _ is next);
    }
