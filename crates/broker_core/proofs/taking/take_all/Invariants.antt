use Rattle.std.proofs.Common.{◌≡◌, ◌++◌, length, take}
use Rattle.broker_core.specs.Splitting.{Takes}
use Rattle.broker_core.specs.Broker.{Stands}
use Rattle.broker_core.specs.Promises.{ForEachHistory}
use Rattle.broker_core.proofs.taking.take_all.Given as goal

abbrev pub invariant-loop-command : goal.invariant-loop-command
invariant-loop-command g l = record {
  all : l.yielded ++ l.command-iterator.rest.items ≡ l.fn.commands.items;
  takes : Takes l.initial.broker l.broker l.fn.commands.items (length l.yielded);
  stands : ForEachHistory g.D.Disk.view l.initial.broker (λ history. Stands g.D.Disk.view l.broker (history ++ take (length l.yielded) l.fn.commands.items));
}
