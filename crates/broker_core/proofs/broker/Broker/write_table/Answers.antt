use Rattle.std.proofs.Common.{◌≡◌, ◌^◌, Err, inl, inr, refl, sym, ap, subst, ◌∙◌}
use Rattle.sector_disk.specs.Disk.{DiskView}
use Rattle.sector_disk.specs.Moments.{LeavesOnly}
use Rattle.sector_disk.specs.laws.Moments.{started}
use Rattle.retry_rules.specs.declared.settings.Settings.{Settings}
use Rattle.invoke_records.specs.declared.snapshot.Snapshot.{Snapshot}
use Rattle.checkpoint.specs.declared.opened.Opened.{Opened}
use Rattle.checkpoint.specs.Live.{generation_of, number_of, RecoversTo, RecoversToEither, IsLive, live_recovers}
use Rattle.checkpoint.specs.Ahead.{LiesIn}
use Rattle.broker_core.proofs.Framed.{worn_told, not_worn, ok_not_err, bad_not_worn, memory_not_worn, fault_not_worn, bad_there}
use Rattle.broker_core.proofs.broker.Broker.write_table.Goals as goal

-- what a stop leaves of a switch, said of equal settings and an equal table
switched : (old new : DiskView) (s there : Settings) (before table snapshot : Snapshot) → s ≡ there → snapshot ≡ table → LeavesOnly old new (RecoversToEither there before snapshot)
    → LeavesOnly old new (RecoversToEither s before table)
switched old new s there before table snapshot kept same leaves =
    subst (λ (t : Snapshot). LeavesOnly old new (RecoversToEither s before t)) same
    (subst (λ (r : Settings). LeavesOnly old new (RecoversToEither r before snapshot)) (sym kept) leaves)

pub returns-then-generation-ge-MOST_GENERATIONS-clause-any_moment : goal.returns-then-generation-ge-MOST_GENERATIONS-clause-any_moment
returns-then-generation-ge-MOST_GENERATIONS-clause-any_moment g c honest before live replays =
    let old = c.args.self.now in
    (started g.D.Disk.view g.met.D.Disk.laws old.disk _ honest
    (λ image left. inl (subst (λ (s : Settings). RecoversTo s before image) (sym old.settings) (live_recovers _ _ _ live image left)))).leaves

pub returns-in_default-clause-any_moment : goal.returns-in_default-clause-any_moment
returns-in_default-clause-any_moment g c honest before live replays =
    let old = c.args.self.now in
    (started g.D.Disk.view g.met.D.Disk.laws old.disk _ honest
    (λ image left. inl (subst (λ (s : Settings). RecoversTo s before image) (sym old.settings) (live_recovers _ _ _ live image left)))).leaves

pub returns-in-Ok-switch-clause-any_moment : goal.returns-in-Ok-switch-clause-any_moment
returns-in-Ok-switch-clause-any_moment g c honest before live replays =
    let old = c.args.self.now in
    switched (g.D.Disk.view old.disk) (g.D.Disk.view c.switch.new.disk) old.table.settings old.opened.settings before old.table.table c.in-Ok.snapshot old.settings c.in-Ok.ensures
    (c.switch.ensures.any_moment honest before live)

pub returns-in-Err-BadKind-clause-any_moment : goal.returns-in-Err-BadKind-clause-any_moment
returns-in-Err-BadKind-clause-any_moment g c honest before live replays =
    let old = c.args.self.now in
    switched (g.D.Disk.view old.disk) (g.D.Disk.view c.switch.new.disk) old.table.settings old.opened.settings before old.table.table c.in-Ok.snapshot old.settings c.in-Ok.ensures
    (c.switch.ensures.any_moment honest before live)

pub returns-in-Err-OutOfMemory-clause-any_moment : goal.returns-in-Err-OutOfMemory-clause-any_moment
returns-in-Err-OutOfMemory-clause-any_moment g c honest before live replays =
    let old = c.args.self.now in
    switched (g.D.Disk.view old.disk) (g.D.Disk.view c.switch.new.disk) old.table.settings old.opened.settings before old.table.table c.in-Ok.snapshot old.settings c.in-Ok.ensures
    (c.switch.ensures.any_moment honest before live)

pub returns-clause-any_moment : goal.returns-clause-any_moment
returns-clause-any_moment g c honest before live replays =
    let old = c.args.self.now in
    switched (g.D.Disk.view old.disk) (g.D.Disk.view c.switch.new.disk) old.table.settings old.opened.settings before old.table.table c.in-Ok.snapshot old.settings c.in-Ok.ensures
    (c.switch.ensures.any_moment honest before live)

pub returns-then-generation-ge-MOST_GENERATIONS-clause-worn_out : goal.returns-then-generation-ge-MOST_GENERATIONS-clause-worn_out
returns-then-generation-ge-MOST_GENERATIONS-clause-worn_out g c =
    (λ is. worn_told c.generation.result (generation_of c.args.self.now.opened) (2 ^ 62) c.generation.ensures c.if-generation-ge-MOST_GENERATIONS.true, λ worn. refl)

pub returns-then-generation-ge-MOST_GENERATIONS-clause-kept : goal.returns-then-generation-ge-MOST_GENERATIONS-clause-kept
returns-then-generation-ge-MOST_GENERATIONS-clause-kept g c =
    inr (record {
      disk = refl;
      settings = refl;
      table = refl;
      pending = refl;
      durable = refl;
      broken = refl;
      opened = refl;
      staged = refl;
    })

pub returns-in_default-clause-worn_out : goal.returns-in_default-clause-worn_out
returns-in_default-clause-worn_out g c =
    (λ is. memory_not_worn is, λ worn. not_worn c.generation.result (generation_of c.args.self.now.opened) (2 ^ 62) c.generation.ensures c.if-generation-ge-MOST_GENERATIONS.false worn)

pub returns-in_default-clause-kept : goal.returns-in_default-clause-kept
returns-in_default-clause-kept g c =
    inr (record {
      disk = refl;
      settings = refl;
      table = refl;
      pending = refl;
      durable = refl;
      broken = refl;
      opened = refl;
      staged = refl;
    })

pub returns-in-Ok-switch-clause-worn_out : goal.returns-in-Ok-switch-clause-worn_out
returns-in-Ok-switch-clause-worn_out g c =
    (λ is. ok_not_err is, λ worn. not_worn c.generation.result (generation_of c.args.self.now.opened) (2 ^ 62) c.generation.ensures c.if-generation-ge-MOST_GENERATIONS.false worn)

pub returns-in-Ok-switch-clause-ok : goal.returns-in-Ok-switch-clause-ok
returns-in-Ok-switch-clause-ok g c =
    record {
      settings = refl;
      table = refl;
      pending = c.clear.ensures.items;
      all = ap (λ (t : Snapshot). t.number) c.in-Ok.ensures;
      broken = refl;
      staged = refl;
      number = c.new.ensures;
    }

pub returns-in-Ok-switch-clause-switches : goal.returns-in-Ok-switch-clause-switches
returns-in-Ok-switch-clause-switches g c =
    c.in-Ok-switch.ensures.generation

pub returns-in-Ok-switch-clause-acknowledged : goal.returns-in-Ok-switch-clause-acknowledged
returns-in-Ok-switch-clause-acknowledged g c honest before live replays =
    subst (λ (t : Snapshot). IsLive (g.D.Disk.view c.switch.new.disk) c.switch.new.opened t) c.in-Ok.ensures (c.in-Ok-switch.ensures.switched honest before live)

pub returns-in-Err-BadKind-clause-worn_out : goal.returns-in-Err-BadKind-clause-worn_out
returns-in-Err-BadKind-clause-worn_out g c =
    (λ is. bad_not_worn is, λ worn. not_worn c.generation.result (generation_of c.args.self.now.opened) (2 ^ 62) c.generation.ensures c.if-generation-ge-MOST_GENERATIONS.false worn)

pub returns-in-Err-BadKind-clause-kept : goal.returns-in-Err-BadKind-clause-kept
returns-in-Err-BadKind-clause-kept g c =
    inr (record {
      disk = c.switch.ensures.no_call (c.in-Err-BadKind.is ∙ ap Err c.in-Err-BadKind.field-0-is);
      settings = refl;
      table = refl;
      pending = refl;
      durable = refl;
      broken = refl;
      opened = c.in-Err-BadKind.ensures.err;
      staged = refl;
    })

pub returns-in-Err-OutOfMemory-clause-worn_out : goal.returns-in-Err-OutOfMemory-clause-worn_out
returns-in-Err-OutOfMemory-clause-worn_out g c =
    (λ is. memory_not_worn is, λ worn. not_worn c.generation.result (generation_of c.args.self.now.opened) (2 ^ 62) c.generation.ensures c.if-generation-ge-MOST_GENERATIONS.false worn)

pub returns-in-Err-OutOfMemory-clause-kept : goal.returns-in-Err-OutOfMemory-clause-kept
returns-in-Err-OutOfMemory-clause-kept g c =
    inr (record {
      disk = c.switch.ensures.no_call_either (c.in-Err-OutOfMemory.is ∙ ap Err c.in-Err-OutOfMemory.field-0-is);
      settings = refl;
      table = refl;
      pending = refl;
      durable = refl;
      broken = refl;
      opened = c.in-Err-OutOfMemory.ensures.err;
      staged = refl;
    })

pub returns-in-Err-BadKind-clause-bad : goal.returns-in-Err-BadKind-clause-bad
returns-in-Err-BadKind-clause-bad g c is =
    bad_there c.args.self.now.table.settings c.args.self.now.opened.settings c.args.self.now.table.table c.in-Ok.snapshot c.args.self.now.settings c.in-Ok.ensures
    (c.switch.ensures.bad.0 (c.in-Err-BadKind.is ∙ ap Err c.in-Err-BadKind.field-0-is))

pub returns-clause-worn_out : goal.returns-clause-worn_out
returns-clause-worn_out g c =
    (λ is. fault_not_worn is, λ worn. not_worn c.generation.result (generation_of c.args.self.now.opened) (2 ^ 62) c.generation.ensures c.if-generation-ge-MOST_GENERATIONS.false worn)

pub returns-clause-breaks : goal.returns-clause-breaks
returns-clause-breaks g c is =
    record {
      settings = refl;
      table = refl;
      pending = refl;
      durable = refl;
      broken = refl;
      opened = c.in-Err-Fault.ensures.err;
      staged = refl;
    }

pub returns-clause-fault : goal.returns-clause-fault
returns-clause-fault g c is =
    c.switch.ensures.fault (c.in-Err-Fault.is ∙ ap Err c.in-Err-Fault.field-0-is)

pub invariant_of-self-in-Err-BadKind : goal.invariant_of-self-in-Err-BadKind
invariant_of-self-in-Err-BadKind g c =
    let old = c.args.self.now in
    let same = c.in-Err-BadKind.ensures.err in
    record {
      room = c.switch.ensures.room;
      settings = old.settings ∙ sym c.switch.ensures.settings;
      good = old.good;
      counted = old.counted;
      next = ap number_of same ∙ old.next;
      below = old.below;
      few = old.few;
      spelled = old.spelled;
      lies = λ group is. subst (λ (o : Opened). LiesIn o group) (sym same) (old.lies group is);
      front = old.front;
    }

pub invariant_of-self-in-Err-OutOfMemory : goal.invariant_of-self-in-Err-OutOfMemory
invariant_of-self-in-Err-OutOfMemory g c =
    let old = c.args.self.now in
    let same = c.in-Err-OutOfMemory.ensures.err in
    record {
      room = c.switch.ensures.room;
      settings = old.settings ∙ sym c.switch.ensures.settings;
      good = old.good;
      counted = old.counted;
      next = ap number_of same ∙ old.next;
      below = old.below;
      few = old.few;
      spelled = old.spelled;
      lies = λ group is. subst (λ (o : Opened). LiesIn o group) (sym same) (old.lies group is);
      front = old.front;
    }

pub invariant_of-self-in-Err-Fault : goal.invariant_of-self-in-Err-Fault
invariant_of-self-in-Err-Fault g c =
    let old = c.args.self.now in
    let same = c.in-Err-Fault.ensures.err in
    record {
      room = c.switch.ensures.room;
      settings = old.settings ∙ sym c.switch.ensures.settings;
      good = old.good;
      counted = old.counted;
      next = ap number_of same ∙ old.next;
      below = old.below;
      few = old.few;
      spelled = old.spelled;
      lies = λ group is. subst (λ (o : Opened). LiesIn o group) (sym same) (old.lies group is);
      front = old.front;
    }
