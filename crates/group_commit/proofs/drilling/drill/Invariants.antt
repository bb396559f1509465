use Rattle.std.proofs.Common.{ℕ, List, take}
use Rattle.sector_disk.specs.Memory.{memory_view}
use Rattle.retry_rules.specs.declared.settings.Settings.{Settings}
use Rattle.invoke_records.specs.declared.command.Command.{Command}
use Rattle.async_core.specs.History.{IsLegal}
use Rattle.broker_core.specs.History.{IsLegalStop}
use Rattle.group_commit.specs.DrillBroker.{IsDrilled}
use Rattle.group_commit.proofs.drilling.drill.Given as goal

abbrev pub invariant-loop-index : goal.invariant-loop-index
invariant-loop-index l =
    (s : Settings) (history : List Command) (durable : ℕ) → IsLegal s history → ((image : List ℕ) → (memory_view l.fn.disk).may_leave image → IsLegalStop s history durable image)
    → IsDrilled (memory_view l.fn.disk).content s history durable (take l.index l.steps) l.answers.items l.broker
