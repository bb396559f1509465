use Rattle.std.proofs.Common.{◌≡◌, Some, take, subst}
use Rattle.retry_rules.specs.declared.settings.Settings.{Settings}
use Rattle.async_core.specs.Rules.{replay}
use Rattle.gate_journal.specs.Staged.{count_of}
use Rattle.broker_core.proofs.Advanced.{either_of}
use Rattle.broker_core.proofs.broker.Broker.open_alone.Goals as goal

pub returns-in-Ok-clause-live : goal.returns-in-Ok-clause-live
returns-in-Ok-clause-live g c honest before after ahead replays =
    let old = c.args.self.now in
    let front = take (count_of c.args.group) old.pending.items in
    c.in-Ok.ensures.opened honest before after front ahead (subst (λ (r : Settings). replay r before front ≡ Some after) old.settings replays)

pub returns-in-Ok-clause-any_moment : goal.returns-in-Ok-clause-any_moment
returns-in-Ok-clause-any_moment g c honest before after ahead replays =
    let old = c.args.self.now in
    let front = take (count_of c.args.group) old.pending.items in
    either_of (g.D.Disk.view old.disk) (g.D.Disk.view c.open_staged.new.disk) old.table.settings old.opened.settings before after front old.settings replays
    (λ there. c.open_staged.ensures.any_moment honest before after front ahead there)

pub returns-in-Err-clause-any_moment : goal.returns-in-Err-clause-any_moment
returns-in-Err-clause-any_moment g c honest before after ahead replays =
    let old = c.args.self.now in
    let front = take (count_of c.args.group) old.pending.items in
    either_of (g.D.Disk.view old.disk) (g.D.Disk.view c.open_staged.new.disk) old.table.settings old.opened.settings before after front old.settings replays
    (λ there. c.open_staged.ensures.any_moment honest before after front ahead there)
