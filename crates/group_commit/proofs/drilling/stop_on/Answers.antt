use Rattle.std.proofs.Common.{◌≡◌, ℕ, refl, sym, ap, ◌∙◌, arith}
use Rattle.sector_disk.specs.declared.disk.Disk.{Ghosts}
use Rattle.sector_disk.specs.declared.memory.MemDisk.{MemDisk}
use Rattle.sector_disk.specs.Memory.{memory_view}
use Rattle.checkpoint.specs.Live.{generation_of}
use Rattle.broker_core.specs.declared.broker.Broker.{Broker}
use Rattle.broker_core.specs.Broker.{settings_of, durable_of, opened_of}
use Rattle.broker_core.specs.Promises.{ForEachHistory}
use Rattle.group_commit.specs.declared.script.Step.TheVariants as step
use Rattle.group_commit.specs.declared.script.StepAnswer.TheVariants as answer
use Rattle.group_commit.specs.Drill.{Log, opening}
use Rattle.group_commit.specs.DrillBroker.{ForEachStop, IsStarted, KeepsGeneration, Leads}
use Rattle.group_commit.proofs.drilling.stop_on.Goals as goal

-- a stop that recovered so many leads on
stopped_on : {g : Ghosts MemDisk} (old new : Broker MemDisk g) (n : ℕ) → n ≡ durable_of new
    → ForEachHistory memory_view old (λ history. IsStarted (settings_of old) history (durable_of old) new) → ForEachHistory memory_view old (λ history. KeepsGeneration old new)
    → ForEachStop (λ step. Leads old step (answer.Number n) new)
stopped_on old new n same recovers keeps (step.Stop choice) is history stands =
    let facts = recovers history stands in
    let next : ℕ → Log = λ k. opening history k (generation_of (opened_of new)) in
    record {
      next = next (durable_of new);
      step_is = (omega (arith, same, facts.0), omega (arith, same, facts.1), keeps history stands, ap next (sym same));
      settings = facts.2;
      durable = refl;
      generation = refl;
      broken = facts.3;
      stands = facts.4;
    }
stopped_on old new n same recovers keeps (step.Issue command) is history stands = absurd is
stopped_on old new n same recovers keeps step.Commit is history stands = absurd is
stopped_on old new n same recovers keeps step.Switch is history stands = absurd is
stopped_on old new n same recovers keeps (step.Resume now) is history stands = absurd is

pub returns-in-Ok-clause-step : goal.returns-in-Ok-clause-step
returns-in-Ok-clause-step c =
    stopped_on c.args.broker c.in-Ok.broker c.number-recovered.result (c.number-recovered.ensures ∙ c.durable.ensures) c.in-Ok.ensures.recovers c.in-Ok.ensures.generation
