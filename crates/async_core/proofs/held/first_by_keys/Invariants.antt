use Rattle.std.specs.Map.{values_of}
use Rattle.std.specs.Option.{option_copied}
use Rattle.async_core.specs.Choice.{ChoosesAmong}
use Rattle.async_core.proofs.Walks.{IsToCome}
use Rattle.async_core.proofs.held.first_by_keys.Given as goal

abbrev pub invariant-loop-key : goal.invariant-loop-key
invariant-loop-key l =
    ChoosesAmong l.order (values_of l.rows.entries) (IsToCome l.rows l.keys l.fn.index l.last l.key-iterator) (option_copied l.first) (option_copied l.best)
