use Rattle.std.proofs.Common.{◌≡◌, map}
use Rattle.admin_port.proofs.collecting.Collecting.judge_all.Given as goal

abbrev pub invariant-loop-place : goal.invariant-loop-place
invariant-loop-place g l = map (λ entry. entry.id) l.self.entries.items ≡ map (λ entry. entry.id) l.fn.self.entries.items
