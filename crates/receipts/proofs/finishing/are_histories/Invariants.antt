use Rattle.std.proofs.Common.{◌≡◌, take, All}
use Rattle.receipts.specs.Marks.{history_of_desk}
use Rattle.receipts.proofs.finishing.are_histories.Given as goal

abbrev pub invariant-loop-desk : goal.invariant-loop-desk
invariant-loop-desk g l = All (λ d. d.own.items ≡ history_of_desk d.number l.fn.all) (take l.desk-index l.fn.desks)
