use Rattle.std.proofs.Common.{List, Err, length, inl, inr, ⊎_elim, refl, sym, ap, subst, ◌∙◌}
use Rattle.std.proofs.Math.Nat.{add-zero}
use Rattle.std.proofs.lemmas.List.{nil_from_length}
use Rattle.invoke_records.specs.declared.command.Command.{Command}
use Rattle.broker_core.proofs.Framed.{none_pending, all_durable, same_table, on_same, nothing_staged, live_whole, room_there}
use Rattle.broker_core.proofs.Writes.{same_error, same_on}
use Rattle.retry_rules.specs.declared.settings.Settings.{Settings}
use Rattle.sector_disk.specs.laws.Moments.{started}
use Rattle.sector_disk.specs.Moments.{LeavesOnly}
use Rattle.invoke_records.specs.declared.snapshot.Snapshot.{Snapshot}
use Rattle.checkpoint.specs.Live.{RecoversTo, RecoversToEither, IsLive, live_recovers}
use Rattle.broker_core.proofs.Advanced.{only_before, whole_staged}
use Rattle.broker_core.proofs.broker.Broker.stage.Goals as goal

pub returns-then-is_empty-clause-any_moment : goal.returns-then-is_empty-clause-any_moment
returns-then-is_empty-clause-any_moment g c honest before live replays =
    let old = c.args.self.now in
    (started g.D.Disk.view g.met.D.Disk.laws old.disk _ honest
    (λ image left. inl (subst (λ (s : Settings). RecoversTo s before image) (sym old.settings) (live_recovers _ _ _ live image left)))).leaves

pub returns-in-Ok-clause-live : goal.returns-in-Ok-clause-live
returns-in-Ok-clause-live g c honest before live replays =
    let old = c.args.self.now in
    whole_staged (g.D.Disk.view c.stage.new.disk) old.opened before c.deref.result.now old.pending.items c.in-Ok.group c.deref.ensures.value c.in-Ok.ensures.count
    (c.in-Ok.ensures.staged honest before live)

pub returns-in-Ok-clause-any_moment : goal.returns-in-Ok-clause-any_moment
returns-in-Ok-clause-any_moment g c honest before live replays =
    let old = c.args.self.now in
    only_before (g.D.Disk.view old.disk) (g.D.Disk.view c.stage.new.disk) old.table.settings old.opened.settings before old.table.table old.settings (c.stage.ensures.any_moment honest before live)

pub returns-in-Err-OutOfMemory-clause-any_moment : goal.returns-in-Err-OutOfMemory-clause-any_moment
returns-in-Err-OutOfMemory-clause-any_moment g c honest before live replays =
    let old = c.args.self.now in
    only_before (g.D.Disk.view old.disk) (g.D.Disk.view c.stage.new.disk) old.table.settings old.opened.settings before old.table.table old.settings (c.stage.ensures.any_moment honest before live)

pub returns-in-Err-Fault-clause-any_moment : goal.returns-in-Err-Fault-clause-any_moment
returns-in-Err-Fault-clause-any_moment g c honest before live replays =
    let old = c.args.self.now in
    only_before (g.D.Disk.view old.disk) (g.D.Disk.view c.stage.new.disk) old.table.settings old.opened.settings before old.table.table old.settings (c.stage.ensures.any_moment honest before live)

pub returns-then-is_empty-clause-ok : goal.returns-then-is_empty-clause-ok
returns-then-is_empty-clause-ok g c =
    let old = c.args.self.now in
    let none = none_pending old.pending.items _ old.pending.ok.0 c.if-is_empty.ensures in
    nothing_staged old _ old.staged c.requires.none (record {
      settings = refl;
      table = refl;
      pending = nil_from_length old.pending.items none;
      all = all_durable old.durable (length old.pending.items) old.table.table.number old.counted none;
      broken = refl;
      staged = c.requires.none;
      number = refl;
    })

pub returns-then-is_empty-clause-switched : goal.returns-then-is_empty-clause-switched
returns-then-is_empty-clause-switched g c =
    inl (sym (add-zero _))

pub returns-then-is_empty-clause-live : goal.returns-then-is_empty-clause-live
returns-then-is_empty-clause-live g c honest before live replays =
    let old = c.args.self.now in
    let none = nil_from_length old.pending.items (none_pending old.pending.items _ old.pending.ok.0 c.if-is_empty.ensures) in
    let whole = subst (λ (t : Snapshot). IsLive (g.D.Disk.view old.disk) old.opened t) (same_table old.table.settings before old.table.table old.pending.items none replays) live in
    live_whole (g.D.Disk.view old.disk) old.opened before old.table.table old.pending.items old.staged c.requires.none whole

pub returns-in-Ok-clause-ok : goal.returns-in-Ok-clause-ok
returns-in-Ok-clause-ok g c =
    (refl, refl, refl, refl, refl, refl, c.in-Ok.ensures.count ∙ ap (λ (l : List Command). length l) c.deref.ensures.value)

pub returns-in-Ok-clause-switched : goal.returns-in-Ok-clause-switched
returns-in-Ok-clause-switched g c =
    inl (sym (add-zero _))

pub returns-in-Err-OutOfMemory-clause-kept : goal.returns-in-Err-OutOfMemory-clause-kept
returns-in-Err-OutOfMemory-clause-kept g c =
    inr (record {
      disk = c.stage.ensures.no_call_either (c.in-Err-OutOfMemory.is ∙ ap Err c.in-Err-OutOfMemory.field-0-is);
      settings = refl;
      table = refl;
      pending = refl;
      durable = refl;
      broken = refl;
      opened = refl;
      staged = refl;
    })

pub returns-in-Err-Fault-clause-breaks : goal.returns-in-Err-Fault-clause-breaks
returns-in-Err-Fault-clause-breaks g c is =
    record {
      settings = refl;
      table = refl;
      pending = refl;
      durable = refl;
      broken = refl;
      opened = refl;
      staged = refl;
    }

pub invariant_of-self-in-Err-NoRoom : goal.invariant_of-self-in-Err-NoRoom
invariant_of-self-in-Err-NoRoom g c =
    let old = c.args.self.now in
    record {
      room = room_there _ _ old.opened old.opened c.stage.ensures.same.sectors refl refl old.room;
      settings = old.settings;
      good = old.good;
      counted = old.counted;
      next = old.next;
      below = old.below;
      few = old.few;
      spelled = old.spelled;
      lies = old.lies;
      front = old.front;
    }

pub invariant_of-self-in-Err-OutOfMemory : goal.invariant_of-self-in-Err-OutOfMemory
invariant_of-self-in-Err-OutOfMemory g c =
    let old = c.args.self.now in
    record {
      room = room_there _ _ old.opened old.opened c.stage.ensures.same.sectors refl refl old.room;
      settings = old.settings;
      good = old.good;
      counted = old.counted;
      next = old.next;
      below = old.below;
      few = old.few;
      spelled = old.spelled;
      lies = old.lies;
      front = old.front;
    }

pub invariant_of-self-in-Err-Fault : goal.invariant_of-self-in-Err-Fault
invariant_of-self-in-Err-Fault g c =
    let old = c.args.self.now in
    record {
      room = room_there _ _ old.opened old.opened c.stage.ensures.same.sectors refl refl old.room;
      settings = old.settings;
      good = old.good;
      counted = old.counted;
      next = old.next;
      below = old.below;
      few = old.few;
      spelled = old.spelled;
      lies = old.lies;
      front = old.front;
    }

pub returns-in-Ok-write_table-clause-ok : goal.returns-in-Ok-write_table-clause-ok
returns-in-Ok-write_table-clause-ok g c =
    let new = c.write_table.new.self in
    let commits = c.in-Ok-write_table.ensures.ok in
    nothing_staged c.args.self.now new new.staged commits.staged (record {
      settings = commits.settings;
      table = commits.table;
      pending = commits.pending;
      all = commits.all;
      broken = commits.broken;
      staged = commits.staged;
      number = refl;
    })

pub returns-in-Ok-write_table-clause-switched : goal.returns-in-Ok-write_table-clause-switched
returns-in-Ok-write_table-clause-switched g c =
    inr c.in-Ok-write_table.ensures.switches

pub returns-in-Ok-write_table-clause-same : goal.returns-in-Ok-write_table-clause-same
returns-in-Ok-write_table-clause-same g c =
    same_on g.D.Disk.view c.args.self.now.disk c.stage.new.disk c.write_table.new.self.disk (c.stage.ensures.no_call (c.in-Err-NoRoom.is ∙ ap Err c.in-Err-NoRoom.field-0-is)) c.write_table.ensures.same

pub returns-in-Ok-write_table-clause-live : goal.returns-in-Ok-write_table-clause-live
returns-in-Ok-write_table-clause-live g c honest before live replays =
    let old = c.args.self.now in
    let new = c.write_table.new.self in
    let whole = on_same g.D.Disk.view (λ disk table. IsLive (g.D.Disk.view new.disk) new.opened old.table.table) old.table.settings old.table.table old.pending.items old.disk c.stage.new.disk old.opened old.opened
    (c.stage.ensures.no_call (c.in-Err-NoRoom.is ∙ ap Err c.in-Err-NoRoom.field-0-is)) refl c.in-Ok-write_table.ensures.acknowledged honest before live replays in
    live_whole (g.D.Disk.view new.disk) new.opened before old.table.table new.pending.items new.staged c.in-Ok-write_table.ensures.ok.staged whole

pub returns-in-Ok-write_table-clause-any_moment : goal.returns-in-Ok-write_table-clause-any_moment
returns-in-Ok-write_table-clause-any_moment g c =
    let old = c.args.self.now in
    let new = c.write_table.new.self in
    on_same g.D.Disk.view (λ disk before. LeavesOnly (g.D.Disk.view disk) (g.D.Disk.view new.disk) (RecoversToEither old.table.settings before old.table.table)) old.table.settings old.table.table old.pending.items old.disk c.stage.new.disk old.opened old.opened
    (c.stage.ensures.no_call (c.in-Err-NoRoom.is ∙ ap Err c.in-Err-NoRoom.field-0-is)) refl c.write_table.ensures.any_moment

pub returns-in-Err-clause-any_moment : goal.returns-in-Err-clause-any_moment
returns-in-Err-clause-any_moment g c =
    let old = c.args.self.now in
    let new = c.write_table.new.self in
    on_same g.D.Disk.view (λ disk before. LeavesOnly (g.D.Disk.view disk) (g.D.Disk.view new.disk) (RecoversToEither old.table.settings before old.table.table)) old.table.settings old.table.table old.pending.items old.disk c.stage.new.disk old.opened old.opened
    (c.stage.ensures.no_call (c.in-Err-NoRoom.is ∙ ap Err c.in-Err-NoRoom.field-0-is)) refl c.write_table.ensures.any_moment

pub returns-in-Err-clause-same : goal.returns-in-Err-clause-same
returns-in-Err-clause-same g c =
    same_on g.D.Disk.view c.args.self.now.disk c.stage.new.disk c.write_table.new.self.disk (c.stage.ensures.no_call (c.in-Err-NoRoom.is ∙ ap Err c.in-Err-NoRoom.field-0-is)) c.write_table.ensures.same

pub returns-in-Err-clause-breaks : goal.returns-in-Err-clause-breaks
returns-in-Err-clause-breaks g c is =
    let breaks = c.in-Err.ensures.breaks (ap Err (same_error is)) in
    record {
      settings = breaks.settings;
      table = breaks.table;
      pending = breaks.pending;
      durable = breaks.durable;
      broken = breaks.broken;
      opened = breaks.opened;
      staged = breaks.staged;
    }

pub returns-in-Err-clause-kept : goal.returns-in-Err-clause-kept
returns-in-Err-clause-kept g c =
    ⊎_elim (λ is. inl (ap Err (same_error is)))
    (λ same. inr (record {
      disk = same.disk ∙ c.stage.ensures.no_call (c.in-Err-NoRoom.is ∙ ap Err c.in-Err-NoRoom.field-0-is);
      settings = same.settings;
      table = same.table;
      pending = same.pending;
      durable = same.durable;
      broken = same.broken;
      opened = same.opened;
      staged = same.staged;
    }))
    c.in-Err.ensures.kept
