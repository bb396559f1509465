use Rattle.std.proofs.Common.{◌≡◌}
use Rattle.broker_core.specs.Broker.{opened_of, settings_of}
use Rattle.broker_core.specs.Promises.{ForEachHistory}
use Rattle.broker_opening.specs.Opening.{IsInterrupted}
use Rattle.broker_opening.proofs.resting.interrupt_attempts.Given as goal

abbrev pub invariant-loop : goal.invariant-loop
invariant-loop g l = record {
  settings : settings_of l.broker ≡ settings_of l.fn.broker;
  segment : opened_of l.broker ≡ opened_of l.fn.broker;
  interrupted : ForEachHistory g.D.Disk.view l.fn.broker (λ history. IsInterrupted g.D.Disk.view history l.broker);
}
