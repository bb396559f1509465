-- What a migration leaves at each moment, and what it makes of a disk.
use Rattle.std.proofs.Common.{◌≡◌, inl, inr, ⊎_elim, ℕ, ◌+◌, ◌≤◌, ◌^◌, Bool, true, false, is_none, None, Some, List, length, Result, Ok, Err, refl, sym, ap, subst, ◌∙◌, arith}
use Rattle.std.specs.Prelude.{OnOk}
use Rattle.std.proofs.lemmas.Bool.{and_from}
use Rattle.sector_disk.specs.Disk.{DiskView}
use Rattle.sector_disk.specs.Moments.{LeavesOnly}
use Rattle.retry_rules.specs.declared.policy.RetryPolicy.{RetryPolicy}
use Rattle.retry_rules.specs.declared.settings.Settings.{Settings}
use Rattle.retry_rules.specs.Settings.{bad_field}
use Rattle.invoke_records.specs.declared.command.Command.{Command}
use Rattle.invoke_records.specs.declared.snapshot.Snapshot.{Snapshot}
use Rattle.invoke_records.specs.declared.version.Version.{Version}
use Rattle.invoke_records.specs.declared.version.Version.TheVariants.{One, Two}
use Rattle.invoke_records.specs.Versions.{is_old}
use Rattle.invoke_records.specs.Spelling.{snapshot_fault}
use Rattle.async_core.specs.State.{State}
use Rattle.async_core.specs.History.{IsLegal, table_of}
use Rattle.async_core.specs.Limits.{is_within}
use Rattle.async_core.specs.laws.Tables.{number-table_of}
use Rattle.async_core.specs.laws.Limits.{history_fit}
use Rattle.checkpoint.specs.declared.opened.Opened.{Opened}
use Rattle.checkpoint.specs.declared.error.OpenError.{OpenError}
use Rattle.checkpoint.specs.declared.error.OpenError.TheVariants as open_error
use Rattle.checkpoint.specs.Image.{read_as, HasGeneration}
use Rattle.checkpoint.specs.Live.{version_of, settings_of, generation_of, ReadsAs, ReadsToEither, RecoversTo, IsLiveIn, IsLive, may_stand, is_new, live_reads, live_recovers}
use Rattle.checkpoint.specs.Opening.{Refuses}
use Rattle.group_commit.specs.declared.error.MigrateError.{MigrateError}
use Rattle.group_commit.specs.declared.error.MigrateError.TheVariants as migrate_error
use Rattle.broker_core.specs.History.{AreGood}
use Rattle.broker_core.specs.laws.Generations.{live_generation}
use Rattle.group_commit.specs.Migrating.{ReadsTo, HoldsHistories, IsOldDisk, Phases, LeavesMigrating, Migrates, IsMigrateReason, IsSoundRefusal, HoldsOne, HoldsOneWhere, IsUnchanged, WritesNothingBut}
use Rattle.group_commit.specs.MigrateSteps.{IsReadAs, IsJudged, migrate_error_of, IsUnwritten, IsFaultOr}

-- ## Moments

-- reads that leave what was, and then calls that leave P
pub phases : {old mid new : DiskView} {P : List ℕ → Type 0} → LeavesOnly old mid old.may_leave → LeavesOnly mid new P → Phases old new P
phases {old} {mid} first second = record {
  settled = mid.moment;
  began = first.later;
  ended = second.later;
  before = λ image left. ⊎_elim (λ was. inl (first.each image was)) (λ is. inr is) (second.before old.moment image first.later left);
  after = second.each;
}

-- what reads to the table from before or recovers to it reads to it
pub reads_to : (version : Version) (s : Settings) (table snapshot : Snapshot) → snapshot ≡ table → (image : List ℕ) → ReadsToEither version s table snapshot image → ReadsTo s table image
reads_to version s table snapshot same image =
    ⊎_elim (λ reads. (version, reads)) (λ is. (Two, is_new s table image (subst (λ (t : Snapshot). RecoversTo s t image) same is)))

-- ## A disk of version 1

one_of : (version : Version) → is_old version ≡ true → (policy : RetryPolicy) × (version ≡ One policy)
one_of (One policy) is = (policy, refl)
one_of Two is = absurd cc

two_of : (version : Version) → is_old version ≡ false → version ≡ Two
two_of (One policy) is = absurd cc
two_of Two is = refl

pub old_disk : (old mid : DiskView) (opened : Opened) (table : Snapshot) → mid.content ≡ old.content → is_old (version_of opened) ≡ true → IsReadAs old mid opened table
    → IsOldDisk old (settings_of opened) table (generation_of opened)
old_disk old mid opened table same is (reads, live) =
    let version = one_of (version_of opened) is in
    record {
      policy = version.0;
      reads = subst (λ (v : Version). ReadsAs v (settings_of opened) table old.content) version.1 reads;
      generation_is = subst (λ (l : List ℕ). HasGeneration (generation_of opened) l) same (live_generation (version_of opened) mid opened table live);
    }

pub not_old : (old mid : DiskView) (opened : Opened) (table : Snapshot) → is_old (version_of opened) ≡ false → IsReadAs old mid opened table → IsMigrateReason old migrate_error.NotOld
not_old old mid opened table is (reads, live) =
    let state : State = record { settings = settings_of opened; table = table } in
    (state, reads ∙ ap (λ (v : Version). Ok (v, state)) (two_of (version_of opened) is))

-- ## Why a disk is not migrated

pub unopened : (disk : DiskView) (why : OpenError) → (why ≡ open_error.OldVersion → ⊥) → Refuses why (read_as disk.content) → IsMigrateReason disk (migrate_error_of why)
unopened disk open_error.Fault new refused = tt
unopened disk open_error.OutOfMemory new refused = tt
unopened disk open_error.NotFormatted new refused = refused
unopened disk (open_error.Damaged sector) new refused = refused
unopened disk open_error.OldVersion new refused = absurd (new refl)

-- what was opened, and is not of version 1 or has no room
pub judged_reason : (old mid : DiskView) (opened : Opened) (table : Snapshot) (why : MigrateError) → mid.content ≡ old.content → mid.sectors ≡ old.sectors → IsReadAs old mid opened table
    → IsJudged mid.sectors opened (Some why) → IsMigrateReason old why
judged_reason old mid opened table migrate_error.NotOld same sectors live is = not_old old mid opened table is live
judged_reason old mid opened table (migrate_error.TooSmall least) same sectors live is = (
  settings_of opened,
  table,
  generation_of opened,
  old_disk old mid opened table same is.0 live,
  is.1,
  omega (arith, is.2, sectors),
)
judged_reason old mid opened table migrate_error.WornOut same sectors live is = (
  settings_of opened,
  table,
  generation_of opened,
  old_disk old mid opened table same is.0 live,
  omega (arith, is.1, sectors),
  is.2,
)
judged_reason old mid opened table migrate_error.NotFormatted same sectors live is = absurd is
judged_reason old mid opened table (migrate_error.Damaged sector) same sectors live is = absurd is
judged_reason old mid opened table migrate_error.BadKind same sectors live is = absurd is
judged_reason old mid opened table migrate_error.OutOfMemory same sectors live is = tt
judged_reason old mid opened table migrate_error.Fault same sectors live is = tt

pub judged_sound : (sectors : ℕ) (opened : Opened) (why : MigrateError) → IsJudged sectors opened (Some why) → IsSoundRefusal why
judged_sound sectors opened migrate_error.NotFormatted is = absurd is
judged_sound sectors opened (migrate_error.Damaged sector) is = absurd is
judged_sound sectors opened migrate_error.BadKind is = absurd is
judged_sound sectors opened migrate_error.NotOld is = tt
judged_sound sectors opened (migrate_error.TooSmall least) is = tt
judged_sound sectors opened migrate_error.WornOut is = tt
judged_sound sectors opened migrate_error.OutOfMemory is = tt
judged_sound sectors opened migrate_error.Fault is = tt

pub one_held : (disk : DiskView) (why : MigrateError) → HoldsOne disk → HoldsOneWhere disk why
one_held disk migrate_error.NotFormatted one = tt
one_held disk (migrate_error.Damaged sector) one = tt
one_held disk migrate_error.OutOfMemory one = tt
one_held disk migrate_error.Fault one = tt
one_held disk migrate_error.NotOld one = one
one_held disk (migrate_error.TooSmall least) one = one
one_held disk migrate_error.WornOut one = one
one_held disk migrate_error.BadKind one = one

-- what could not be read, and what was not written
pub none_held : (disk : DiskView) (why : OpenError) → HoldsOneWhere disk (migrate_error_of why)
none_held disk open_error.Fault = tt
none_held disk open_error.OutOfMemory = tt
none_held disk open_error.NotFormatted = tt
none_held disk (open_error.Damaged sector) = tt
none_held disk open_error.OldVersion = tt

pub all_read : (disk : DiskView) (opened : Opened) (table : Snapshot) → IsLiveIn (version_of opened) disk opened table → HoldsOne disk
all_read disk opened table live = (settings_of opened, table, λ image left. (version_of opened, live_reads (version_of opened) disk opened table live image left))

pub one_behind : {D : Type 0} (view : D → DiskView) (mid new : D) (why : MigrateError) → HoldsOne (view mid) → IsFaultOr (new ≡ mid) why → HoldsOneWhere (view new) why
one_behind {D} view mid new migrate_error.NotFormatted one same = tt
one_behind {D} view mid new (migrate_error.Damaged sector) one same = tt
one_behind {D} view mid new migrate_error.OutOfMemory one same = tt
one_behind {D} view mid new migrate_error.Fault one same = tt
one_behind {D} view mid new migrate_error.NotOld one same = subst (λ (d : D). HoldsOne (view d)) (sym same) one
one_behind {D} view mid new (migrate_error.TooSmall least) one same = subst (λ (d : D). HoldsOne (view d)) (sym same) one
one_behind {D} view mid new migrate_error.WornOut one same = subst (λ (d : D). HoldsOne (view d)) (sym same) one
one_behind {D} view mid new migrate_error.BadKind one same = subst (λ (d : D). HoldsOne (view d)) (sym same) one

pub unchanged : (old new : DiskView) (why : MigrateError) → IsUnchanged old new → WritesNothingBut old new why
unchanged old new migrate_error.NotFormatted same = same
unchanged old new (migrate_error.Damaged sector) same = same
unchanged old new migrate_error.NotOld same = same
unchanged old new (migrate_error.TooSmall least) same = same
unchanged old new migrate_error.WornOut same = same
unchanged old new migrate_error.BadKind same = same
unchanged old new migrate_error.OutOfMemory same = same
unchanged old new migrate_error.Fault same = tt

pub unchanged_or : {D : Type 0} (view : D → DiskView) (old : DiskView) (mid new : D) (why : MigrateError) → IsUnchanged old (view mid) → IsFaultOr (new ≡ mid) why → WritesNothingBut old (view new) why
unchanged_or {D} view old mid new migrate_error.NotFormatted was same = subst (λ (d : D). IsUnchanged old (view d)) (sym same) was
unchanged_or {D} view old mid new (migrate_error.Damaged sector) was same = subst (λ (d : D). IsUnchanged old (view d)) (sym same) was
unchanged_or {D} view old mid new migrate_error.NotOld was same = subst (λ (d : D). IsUnchanged old (view d)) (sym same) was
unchanged_or {D} view old mid new (migrate_error.TooSmall least) was same = subst (λ (d : D). IsUnchanged old (view d)) (sym same) was
unchanged_or {D} view old mid new migrate_error.WornOut was same = subst (λ (d : D). IsUnchanged old (view d)) (sym same) was
unchanged_or {D} view old mid new migrate_error.BadKind was same = subst (λ (d : D). IsUnchanged old (view d)) (sym same) was
unchanged_or {D} view old mid new migrate_error.OutOfMemory was same = subst (λ (d : D). IsUnchanged old (view d)) (sym same) was
unchanged_or {D} view old mid new migrate_error.Fault was same = tt

-- it was a fault only where reading met one
pub fault_of : (why : OpenError) → (why ≡ open_error.OldVersion → ⊥) → migrate_error_of why ≡ migrate_error.Fault → why ≡ open_error.Fault
fault_of open_error.Fault new is = refl
fault_of open_error.OutOfMemory new is = absurd cc
fault_of open_error.NotFormatted new is = absurd cc
fault_of (open_error.Damaged sector) new is = absurd cc
fault_of open_error.OldVersion new is = absurd (new refl)

-- what can be read is refused by the device and the memory alone
sound_read : (read : Result (Version × State) OpenError) (is : Version × State) (why : OpenError) → read ≡ Ok is → (why ≡ open_error.OldVersion → ⊥) → Refuses why read → IsSoundRefusal (migrate_error_of why)
sound_read read is open_error.Fault reads new refused = tt
sound_read read is open_error.OutOfMemory reads new refused = tt
sound_read read is open_error.NotFormatted reads new refused = absurd (let no = sym reads ∙ refused in cc)
sound_read read is (open_error.Damaged sector) reads new refused = absurd (let no = sym reads ∙ refused in cc)
sound_read read is open_error.OldVersion reads new refused = absurd (new refl)

pub sound_unopened : (disk : DiskView) (why : OpenError) → disk.may_leave disk.content → HoldsHistories disk → (why ≡ open_error.OldVersion → ⊥) → Refuses why (read_as disk.content)
    → IsSoundRefusal (migrate_error_of why)
sound_unopened disk why there holds new refused =
    let held = holds disk.content there in
    let state : State = record { settings = held.0; table = table_of held.0 held.1 } in
    sound_read (read_as disk.content) (held.3.0, state) why held.3.1 new refused

pair_is : (a b : Version × State) → ◌≡◌ {A = Result (Version × State) OpenError} (Ok a) (Ok b) → a ≡ b
pair_is a b is = cc

-- the table of a legal history may stand on the disk
stands_of : (content : List ℕ) (version other : Version) (s r : Settings) (table : Snapshot) (history : List Command) → ReadsAs version s table content → ReadsAs other r (table_of r history) content
    → AreGood s → IsLegal r history → table.number ≤ 2 ^ 62 → may_stand s table ≡ true
stands_of content version other s r table history reads is good legal below =
    let same = pair_is (version, record { settings = s; table = table }) (other, record { settings = r; table = table_of r history }) (sym reads ∙ is) in
    let settings : s ≡ r = ap (λ (p : Version × State). p.1.settings) same in
    let table_is : table ≡ table_of r history = ap (λ (p : Version × State). p.1.table) same in
    let number : table.number ≡ length history = ap (λ (t : Snapshot). t.number) table_is ∙ number-table_of r history in
    let fit = history_fit r history (subst (λ (x : Settings). bad_field x ≡ None) settings good.check) legal (omega (arith, below, number)) in
    (λ i. may_stand (settings i) (table_is i))
    ∙ and_from (is_none (snapshot_fault (table_of r history))) (is_within r (table_of r history)) (ap is_none fit.fault) fit.within

bad_never : {A : Type 0} (b : Bool) → b ≡ true → b ≡ false → A
bad_never b is bad = absurd (let no = sym is ∙ bad in cc)

pub sound_unwritten : (disk : DiskView) (s : Settings) (table : Snapshot) (generation : ℕ) (why : MigrateError) → disk.may_leave disk.content → HoldsHistories disk → IsOldDisk disk s table generation
    → AreGood s → table.number ≤ 2 ^ 62 → IsUnwritten s table why → IsSoundRefusal why
sound_unwritten disk s table generation migrate_error.NotFormatted there holds old good below is = absurd is
sound_unwritten disk s table generation (migrate_error.Damaged sector) there holds old good below is = absurd is
sound_unwritten disk s table generation migrate_error.NotOld there holds old good below is = tt
sound_unwritten disk s table generation (migrate_error.TooSmall least) there holds old good below is = tt
sound_unwritten disk s table generation migrate_error.WornOut there holds old good below is = tt
sound_unwritten disk s table generation migrate_error.BadKind there holds old good below is =
    let held = holds disk.content there in
    bad_never (may_stand s table) (stands_of disk.content (One old.policy) held.3.0 s held.0 table held.1 old.reads held.3.1 good held.2 below) is
sound_unwritten disk s table generation migrate_error.OutOfMemory there holds old good below is = tt
sound_unwritten disk s table generation migrate_error.Fault there holds old good below is = tt

pub unwritten : (disk : DiskView) (s : Settings) (table : Snapshot) (generation : ℕ) (why : MigrateError) → IsOldDisk disk s table generation → IsUnwritten s table why → IsMigrateReason disk why
unwritten disk s table generation migrate_error.NotFormatted old is = absurd is
unwritten disk s table generation (migrate_error.Damaged sector) old is = absurd is
unwritten disk s table generation migrate_error.NotOld old is = absurd is
unwritten disk s table generation (migrate_error.TooSmall least) old is = absurd is
unwritten disk s table generation migrate_error.WornOut old is = absurd is
unwritten disk s table generation migrate_error.BadKind old is = (s, table, generation, old, is)
unwritten disk s table generation migrate_error.OutOfMemory old is = tt
unwritten disk s table generation migrate_error.Fault old is = tt

-- ## The whole call

-- two facts of Ok give a third
pub on_both : {A B C : Type 0} (result : Result (Unit {0}) MigrateError) → (A → B → C) → OnOk result A → OnOk result B → OnOk result C
on_both (Ok done) both a b = both a b
on_both (Err why) both a b = tt

module _ (old mid new : DiskView) (opened : Opened) (table : Snapshot) (first : LeavesOnly old mid old.may_leave) (was : IsOldDisk old (settings_of opened) table (generation_of opened))
    (second : LeavesOnly mid new (ReadsTo (settings_of opened) table)) where
  pub both_phases : Phases old new (ReadsTo (settings_of opened) table)
  both_phases = phases first second

  pub leaves_migrating : LeavesMigrating old new
  leaves_migrating = inr (record { settings = settings_of opened; table = table; reads = (One was.policy, was.reads); phases = both_phases })

  pub migrates : (next : Opened) → settings_of next ≡ settings_of opened → generation_of next ≡ generation_of opened + 1 → IsLive new next table → Migrates old new
  migrates next kept more live = record {
    settings = settings_of opened;
    table = table;
    generation = generation_of opened;
    was = was;
    phases = both_phases;
    recovers = λ image left. subst (λ (s : Settings). RecoversTo s table image) kept (live_recovers new next table live image left);
    next = subst (λ (n : ℕ). HasGeneration n new.content) more (live_generation Two new next table live);
  }
