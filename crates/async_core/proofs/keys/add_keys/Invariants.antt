use Rattle.std.proofs.Common.{take, Some}
use Rattle.async_core.specs.Keys.{AddsKeys}
use Rattle.async_core.proofs.keys.add_keys.Given as goal

abbrev pub invariant-loop-index : goal.invariant-loop-index
invariant-loop-index l = AddsKeys l.place (Some l.facts) (take l.index-index l.indexes) l.fn.keys l.keys
