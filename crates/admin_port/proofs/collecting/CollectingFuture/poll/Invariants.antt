use Rattle.std.proofs.Common.{◌≡◌, map}
use Rattle.futures.specs.Task.{Keeps}
use Rattle.admin_port.proofs.collecting.CollectingFuture.poll.Given as goal

abbrev pub invariant-loop-place : goal.invariant-loop-place
invariant-loop-place g l = record {
  ids : map (λ entry. entry.id) l.self.entries.items ≡ map (λ entry. entry.id) l.fn.self.entries.items;
  kept : Keeps l.fn.cx l.cx;
}
