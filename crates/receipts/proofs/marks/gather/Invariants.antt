use Rattle.std.proofs.Common.{◌≡◌, ◌+◌, length}
use Rattle.receipts.specs.Marks.{sum_of_lists}
use Rattle.receipts.proofs.marks.gather.Given as goal

abbrev pub invariant-loop-desk : goal.invariant-loop-desk
invariant-loop-desk g l = record {
  parts : l.gathered.parts + length l.left.items ≡ l.fn.share.parts + length l.fn.desks.items;
  amount : l.gathered.amount + sum_of_lists (λ d. d.own.items) l.left.items ≡ l.fn.share.amount + sum_of_lists (λ d. d.own.items) l.fn.desks.items;
}

abbrev pub decreases-loop-desk : goal.decreases-loop-desk
decreases-loop-desk g l = length l.left.items
