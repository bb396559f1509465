use Rattle.std.proofs.Common.{◌≡◌, map, take}
use Rattle.http_front.proofs.discarding.collect_all.Given as goal

abbrev pub invariant-loop-id : goal.invariant-loop-id
invariant-loop-id g l = map (λ collected. collected.id) l.all.items ≡ take l.id-index l.ids
