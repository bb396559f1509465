use Rattle.std.proofs.Common.{◌≡◌}
use Rattle.std.specs.BTreeMap.{btree_map_len}
use Rattle.bell.proofs.waiters.Waiters.take_wakers.Given as goal

-- nothing changes but those that wait for a number
abbrev pub invariant-loop-waker : goal.invariant-loop-waker
invariant-loop-waker l = (l.self.parked ≡ l.fn.self.parked) × (l.self.rung ≡ l.fn.self.rung)

abbrev pub decreases-loop-waker : goal.decreases-loop-waker
decreases-loop-waker l = btree_map_len l.self.numbered
