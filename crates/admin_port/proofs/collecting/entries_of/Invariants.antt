use Rattle.std.proofs.Common.{◌≡◌, map, take}
use Rattle.admin_port.proofs.collecting.entries_of.Given as goal

abbrev pub invariant-loop-id : goal.invariant-loop-id
invariant-loop-id g l = map (λ entry. entry.id) l.entries.items ≡ take l.id-index l.ids
