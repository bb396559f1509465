use Rattle.std.proofs.Common.{◌≡◌, drop}
use Rattle.std.specs.Prelude.{◌↔◌}
use Rattle.receipts.specs.Marks.{history_of_desk}
use Rattle.receipts.proofs.finishing.is_history.Given as goal

abbrev pub invariant-loop-mark : goal.invariant-loop-mark
invariant-loop-mark l =
    (l.fn.own ≡ history_of_desk l.fn.number l.fn.all) ↔ (l.rest ≡ history_of_desk l.fn.number (drop l.mark-index l.fn.all))
