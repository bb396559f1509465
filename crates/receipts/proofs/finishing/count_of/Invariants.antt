use Rattle.std.proofs.Common.{◌≡◌, ◌≤◌, ◌==◌, take}
use Rattle.std.specs.Prelude.{count_by}
use Rattle.receipts.proofs.finishing.count_of.Given as goal

abbrev pub invariant-loop-desk : goal.invariant-loop-desk
invariant-loop-desk g l = (l.count ≡ count_by (λ d. d.number == l.fn.number) (take l.desk-index l.desks)) × (l.count ≤ l.desk-index)
