use Rattle.std.proofs.Common.{take, Some}
use Rattle.async_core.specs.Keys.{DropsKeys}
use Rattle.async_core.proofs.keys.drop_keys.Given as goal

abbrev pub invariant-loop-index : goal.invariant-loop-index
invariant-loop-index l = DropsKeys l.place (Some l.gone) l.kept (take l.index-index l.indexes) l.fn.keys l.keys
