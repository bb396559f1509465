use Rattle.receipts.specs.Desks.{IsEachOnce}
use Rattle.receipts.proofs.finishing.has_each_once.Given as goal

abbrev pub invariant-loop-number : goal.invariant-loop-number
invariant-loop-number g l = IsEachOnce (λ d. d.number) l.number l.fn.desks
