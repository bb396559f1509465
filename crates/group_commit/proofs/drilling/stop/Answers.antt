use Rattle.std.proofs.Common.{ℕ, List, sym, subst}
use Rattle.sector_disk.specs.declared.memory.MemDisk.{MemDisk}
use Rattle.sector_disk.specs.Memory.{memory_view}
use Rattle.invoke_records.specs.declared.command.Command.{Command}
use Rattle.broker_core.specs.History.{IsLegalStop}
use Rattle.broker_core.specs.Broker.{settings_of, durable_of, Stands}
use Rattle.group_commit.proofs.Drilled.{kept_by}
use Rattle.group_commit.proofs.Results.{if_ok}
use Rattle.group_commit.proofs.drilling.stop.Goals as goal

-- each image of the stopped disk is a legal stop
legal_stops : (c : goal.After-start) (history : List Command) → Stands memory_view c.args.broker history → (image : List ℕ) → (memory_view c.stop.result).may_leave image
    → IsLegalStop (settings_of c.args.broker) history (durable_of c.args.broker) image
legal_stops c history stands image left =
    let Stop = IsLegalStop (settings_of c.args.broker) history (durable_of c.args.broker) in
    let content = (memory_view c.stop.result).content in
    let possible = subst (λ (disk : MemDisk). (memory_view disk).may_leave content) c.close.ensures.disk c.stop.ensures.possible in
    subst Stop (sym (c.stop.ensures.settled image left)) (stands.stops tt content possible)

pub returns-clause-recovers : goal.returns-clause-recovers
returns-clause-recovers c history stands =
    c.start.ensures.recovers (settings_of c.args.broker) history (durable_of c.args.broker) stands.legal (legal_stops c history stands)

pub returns-clause-refused : goal.returns-clause-refused
returns-clause-refused c history stands =
    c.start.ensures.refused (settings_of c.args.broker) history (durable_of c.args.broker) stands.legal (legal_stops c history stands)

pub returns-clause-generation : goal.returns-clause-generation
returns-clause-generation c history stands =
    if_ok _ _ c.start.result (λ b has. kept_by c.args.broker b c.close.result c.stop.result history c.close.ensures.disk c.stop.ensures.possible stands has) c.start.ensures.generation
