use Rattle.std.proofs.Common.{◌≡◌, ◌⊎◌, ◌^◌, ◌≤◌, List, Some, Err, length, inl, inr, refl, sym, ap, subst, ◌∙◌}
use Rattle.std.specs.Prelude.{OnOk}
use Rattle.std.proofs.Math.Nat.{add-zero}
use Rattle.std.proofs.lemmas.List.{nil_from_length}
use Rattle.sector_disk.specs.Disk.{DiskView}
use Rattle.sector_disk.specs.Moments.{LeavesOnly}
use Rattle.sector_disk.specs.laws.Moments.{started}
use Rattle.retry_rules.specs.declared.settings.Settings.{Settings}
use Rattle.invoke_records.specs.declared.command.Command.{Command}
use Rattle.invoke_records.specs.declared.snapshot.Snapshot.{Snapshot}
use Rattle.async_core.specs.Rules.{replay}
use Rattle.checkpoint.specs.declared.opened.Opened.{Opened}
use Rattle.checkpoint.specs.Live.{generation_of, number_of, RecoversTo, RecoversToEither, IsLive, live_recovers}
use Rattle.checkpoint.specs.Ahead.{LiesIn}
use Rattle.broker_core.proofs.Framed.{none_pending, not_pending, none_staged, all_durable, same_table, replays_there, on_same, room_there}
use Rattle.broker_core.proofs.broker.Broker.write.Goals as goal

-- what a stop leaves of an append, said of equal settings and commands
appended : (old new : DiskView) (s there : Settings) (pending given : List Command) (before after : Snapshot) → s ≡ there → given ≡ pending → replay s before pending ≡ Some after
    → (replay there before given ≡ Some after → LeavesOnly old new (λ image. RecoversTo there before image ⊎ RecoversTo there after image))
    → LeavesOnly old new (λ image. RecoversTo s before image ⊎ RecoversTo s after image)
appended old new s there pending given before after kept same replays leaves =
    subst (λ (r : Settings). LeavesOnly old new (λ image. RecoversTo r before image ⊎ RecoversTo r after image)) (sym kept)
    (leaves
    (subst (λ (l : List Command). replay there before l ≡ Some after) (sym same) (subst (λ (r : Settings). replay r before pending ≡ Some after) kept replays)))

pub returns-then-is_empty-clause-any_moment : goal.returns-then-is_empty-clause-any_moment
returns-then-is_empty-clause-any_moment g c honest before live replays =
    let old = c.args.self.now in
    (started g.D.Disk.view g.met.D.Disk.laws old.disk _ honest
    (λ image left. inl (subst (λ (s : Settings). RecoversTo s before image) (sym old.settings) (live_recovers _ _ _ live image left)))).leaves

pub returns-in-Ok-clause-any_moment : goal.returns-in-Ok-clause-any_moment
returns-in-Ok-clause-any_moment g c honest before live replays =
    let old = c.args.self.now in
    appended (g.D.Disk.view old.disk) (g.D.Disk.view c.append.new.disk) old.table.settings old.opened.settings old.pending.items c.deref.result.now before old.table.table old.settings c.deref.ensures.value replays
    (λ same. c.append.ensures.any_moment honest before old.table.table live same)

pub returns-in-Err-Fault-clause-any_moment : goal.returns-in-Err-Fault-clause-any_moment
returns-in-Err-Fault-clause-any_moment g c honest before live replays =
    let old = c.args.self.now in
    appended (g.D.Disk.view old.disk) (g.D.Disk.view c.append.new.disk) old.table.settings old.opened.settings old.pending.items c.deref.result.now before old.table.table old.settings c.deref.ensures.value replays
    (λ same. c.append.ensures.any_moment honest before old.table.table live same)

pub returns-then-is_empty-clause-worn : goal.returns-then-is_empty-clause-worn
returns-then-is_empty-clause-worn g c worn needs = not_pending _ (none_pending c.args.self.now.pending.items _ c.args.self.now.pending.ok.0 c.if-is_empty.ensures) needs.0

pub returns-then-is_empty-clause-switches : goal.returns-then-is_empty-clause-switches
returns-then-is_empty-clause-switches g c needs = not_pending _ (none_pending c.args.self.now.pending.items _ c.args.self.now.pending.ok.0 c.if-is_empty.ensures) needs.0

pub returns-then-is_empty-clause-ok : goal.returns-then-is_empty-clause-ok
returns-then-is_empty-clause-ok g c =
    let old = c.args.self.now in
    let none = none_pending old.pending.items _ old.pending.ok.0 c.if-is_empty.ensures in
    record {
      settings = refl;
      table = refl;
      pending = nil_from_length old.pending.items none;
      all = all_durable old.durable (length old.pending.items) old.table.table.number old.counted none;
      broken = refl;
      staged = none_staged old.staged (length old.pending.items) old.front none;
      number = c.new.ensures;
    }

pub returns-then-is_empty-clause-acknowledged : goal.returns-then-is_empty-clause-acknowledged
returns-then-is_empty-clause-acknowledged g c honest before live replays =
    let old = c.args.self.now in
    let none = nil_from_length old.pending.items (none_pending old.pending.items _ old.pending.ok.0 c.if-is_empty.ensures) in
    subst (λ (t : Snapshot). IsLive (g.D.Disk.view old.disk) old.opened t) (same_table old.table.settings before old.table.table old.pending.items none replays) live

pub returns-in-Ok-clause-acknowledged : goal.returns-in-Ok-clause-acknowledged
returns-in-Ok-clause-acknowledged g c honest before live replays =
    let old = c.args.self.now in
    c.in-Ok.ensures.acknowledged honest before old.table.table live
    (replays_there old.table.settings old.opened.settings old.pending.items c.deref.result.now before old.table.table old.settings c.deref.ensures.value replays)

pub returns-in-Ok-clause-stays : goal.returns-in-Ok-clause-stays
returns-in-Ok-clause-stays g c needs = c.append.ensures.generation ∙ sym (add-zero _)

pub returns-in-Err-NoRoom-clause-worn : goal.returns-in-Err-NoRoom-clause-worn
returns-in-Err-NoRoom-clause-worn g c worn needs =
    c.write_table.ensures.worn_out.1 (subst (λ (o : Opened). 2 ^ 62 ≤ generation_of o) (sym c.in-Err-NoRoom.ensures.err) worn)

pub returns-in-Err-NoRoom-clause-acknowledged : goal.returns-in-Err-NoRoom-clause-acknowledged
returns-in-Err-NoRoom-clause-acknowledged g c =
    let old = c.args.self.now in
    let new = c.write_table.new.self in
    on_same g.D.Disk.view (λ disk before. OnOk c.write_table.result (IsLive (g.D.Disk.view new.disk) new.opened old.table.table)) old.table.settings old.table.table old.pending.items old.disk c.append.new.disk old.opened c.append.new.self
    (c.append.ensures.no_call (c.in-Err-NoRoom.is ∙ ap Err c.in-Err-NoRoom.field-0-is)) c.in-Err-NoRoom.ensures.err c.write_table.ensures.acknowledged

pub returns-in-Err-NoRoom-clause-any_moment : goal.returns-in-Err-NoRoom-clause-any_moment
returns-in-Err-NoRoom-clause-any_moment g c =
    let old = c.args.self.now in
    let new = c.write_table.new.self in
    on_same g.D.Disk.view (λ disk before. LeavesOnly (g.D.Disk.view disk) (g.D.Disk.view new.disk) (RecoversToEither old.table.settings before old.table.table)) old.table.settings old.table.table old.pending.items old.disk c.append.new.disk old.opened c.append.new.self
    (c.append.ensures.no_call (c.in-Err-NoRoom.is ∙ ap Err c.in-Err-NoRoom.field-0-is)) c.in-Err-NoRoom.ensures.err c.write_table.ensures.any_moment

pub returns-in-Err-OutOfMemory-clause-kept : goal.returns-in-Err-OutOfMemory-clause-kept
returns-in-Err-OutOfMemory-clause-kept g c =
    inr (record {
      disk = c.append.ensures.no_call_either (c.in-Err-OutOfMemory.is ∙ ap Err c.in-Err-OutOfMemory.field-0-is);
      settings = refl;
      table = refl;
      pending = refl;
      durable = refl;
      broken = refl;
      opened = c.in-Err-OutOfMemory.ensures.err;
      staged = refl;
    })

pub returns-in-Err-OutOfMemory-clause-any_moment : goal.returns-in-Err-OutOfMemory-clause-any_moment
returns-in-Err-OutOfMemory-clause-any_moment g c honest before live replays =
    let old = c.args.self.now in
    appended (g.D.Disk.view old.disk) (g.D.Disk.view c.append.new.disk) old.table.settings old.opened.settings old.pending.items c.deref.result.now before old.table.table old.settings c.deref.ensures.value replays
    (λ same. c.append.ensures.any_moment honest before old.table.table live same)

pub returns-in-Err-Fault-clause-breaks : goal.returns-in-Err-Fault-clause-breaks
returns-in-Err-Fault-clause-breaks g c is = record {
  settings = refl;
  table = refl;
  pending = refl;
  durable = refl;
  broken = refl;
  opened = c.in-Err-Fault.ensures.err;
  staged = refl;
}

pub invariant_of-self-in-Err-OutOfMemory : goal.invariant_of-self-in-Err-OutOfMemory
invariant_of-self-in-Err-OutOfMemory g c =
    let old = c.args.self.now in
    let same = c.in-Err-OutOfMemory.ensures.err in
    record {
      room = room_there _ _ old.opened c.append.new.self c.append.ensures.same.sectors c.append.ensures.settings c.append.ensures.end old.room;
      settings = old.settings ∙ sym c.append.ensures.settings;
      good = old.good;
      counted = old.counted;
      next = ap number_of same ∙ old.next;
      below = old.below;
      few = old.few;
      spelled = old.spelled;
      lies = λ group is. subst (λ (o : Opened). LiesIn o group) (sym same) (old.lies group is);
      front = old.front;
    }

pub invariant_of-self-in-Err-NoRoom : goal.invariant_of-self-in-Err-NoRoom
invariant_of-self-in-Err-NoRoom g c =
    let old = c.args.self.now in
    let same = c.in-Err-NoRoom.ensures.err in
    record {
      room = room_there _ _ old.opened c.append.new.self c.append.ensures.same.sectors c.append.ensures.settings c.append.ensures.end old.room;
      settings = old.settings ∙ sym c.append.ensures.settings;
      good = old.good;
      counted = old.counted;
      next = ap number_of same ∙ old.next;
      below = old.below;
      few = old.few;
      spelled = old.spelled;
      lies = λ group is. subst (λ (o : Opened). LiesIn o group) (sym same) (old.lies group is);
      front = old.front;
    }

pub invariant_of-self-in-Err-Fault : goal.invariant_of-self-in-Err-Fault
invariant_of-self-in-Err-Fault g c =
    let old = c.args.self.now in
    let same = c.in-Err-Fault.ensures.err in
    record {
      room = room_there _ _ old.opened c.append.new.self c.append.ensures.same.sectors c.append.ensures.settings c.append.ensures.end old.room;
      settings = old.settings ∙ sym c.append.ensures.settings;
      good = old.good;
      counted = old.counted;
      next = ap number_of same ∙ old.next;
      below = old.below;
      few = old.few;
      spelled = old.spelled;
      lies = λ group is. subst (λ (o : Opened). LiesIn o group) (sym same) (old.lies group is);
      front = old.front;
    }
