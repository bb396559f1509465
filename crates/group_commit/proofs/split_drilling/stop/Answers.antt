use Rattle.std.proofs.Common.{◌≡◌, ℕ, List, take, sym, subst}
use Rattle.sector_disk.specs.declared.disk.Disk.{Ghosts}
use Rattle.sector_disk.specs.declared.memory.MemDisk.{MemDisk}
use Rattle.sector_disk.specs.Memory.{memory_view}
use Rattle.invoke_records.specs.declared.command.Command.{Command}
use Rattle.broker_core.specs.declared.broker.Broker.{Broker}
use Rattle.broker_core.specs.History.{IsLegalStop}
use Rattle.broker_core.specs.Broker.{disk_of, settings_of, issued_of, durable_of, Stands}
use Rattle.broker_core.specs.Splitting.{broker_of}
use Rattle.group_commit.proofs.Results.{if_ok_both}
use Rattle.group_commit.proofs.Drilled.{kept_by}
use Rattle.group_commit.proofs.SplitDrilled.{stopped}
use Rattle.group_commit.proofs.split_drilling.stop.Goals as goal

-- each image of the stopped disk is a legal stop
legal_stops : {g : Ghosts MemDisk} (broker : Broker MemDisk g) (closed after : MemDisk) (history : List Command) → closed ≡ disk_of broker
    → (memory_view closed).may_leave (memory_view after).content → ((image : List ℕ) → (memory_view after).may_leave image → image ≡ (memory_view after).content)
    → Stands memory_view broker history → (image : List ℕ) → (memory_view after).may_leave image → IsLegalStop (settings_of broker) history (durable_of broker) image
legal_stops broker closed after history same possible settled stands image left =
    let Stop = IsLegalStop (settings_of broker) history (durable_of broker) in
    let content = (memory_view after).content in
    subst Stop (sym (settled image left)) (stands.stops tt content (subst (λ (disk : MemDisk). (memory_view disk).may_leave content) same possible))

pub returns-clause-recovers : goal.returns-clause-recovers
returns-clause-recovers c s log keeps =
    let old = c.args.halves in
    let broker = broker_of old.disk in
    let before = take (issued_of broker) log.history in
    if_ok_both _ _ _ c.begin.result
    (λ new begun has.
    stopped s log old new keeps (kept_by broker (broker_of new.disk) c.close.result c.stop.result before c.close.ensures.disk c.stop.ensures.possible keeps.disk_stands has) begun)
    (c.begin.ensures.begins (settings_of broker) before (durable_of broker) keeps.disk_stands.legal
    (legal_stops broker c.close.result c.stop.result before c.close.ensures.disk c.stop.ensures.possible c.stop.ensures.settled keeps.disk_stands))
    c.begin.ensures.generation

pub returns-clause-refused : goal.returns-clause-refused
returns-clause-refused c s log keeps =
    let broker = broker_of c.args.halves.disk in
    let before = take (issued_of broker) log.history in
    c.begin.ensures.refused (settings_of broker) before (durable_of broker) keeps.disk_stands.legal
    (legal_stops broker c.close.result c.stop.result before c.close.ensures.disk c.stop.ensures.possible c.stop.ensures.settled keeps.disk_stands)
