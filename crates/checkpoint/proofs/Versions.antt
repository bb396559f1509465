-- What the version of an opened disk says of what the disk recovers to.
use Rattle.std.proofs.Common.{◌≡◌, ℕ, true, false, List, Result, Ok, Err, refl, ap, subst, ◌∙◌}
use Rattle.sector_disk.specs.Disk.{DiskView}
use Rattle.invoke_records.specs.declared.command.Command.{Command}
use Rattle.invoke_records.specs.declared.snapshot.Snapshot.{Snapshot}
use Rattle.invoke_records.specs.declared.version.Version.{Version}
use Rattle.invoke_records.specs.declared.version.Version.TheVariants.{One, Two}
use Rattle.invoke_records.specs.Versions.{is_old}
use Rattle.async_core.specs.State.{State}
use Rattle.checkpoint.specs.declared.opened.Opened.{Opened}
use Rattle.checkpoint.specs.declared.error.OpenError.{OpenError}
use Rattle.checkpoint.specs.declared.error.OpenError.TheVariants.{NotFormatted, Damaged, OldVersion}
use Rattle.checkpoint.specs.Image.{read_as, recovered}
use Rattle.checkpoint.specs.ReadSteps.{new_read}
use Rattle.checkpoint.specs.Live.{version_of, settings_of, HasRoomFor, HasRoom, ReadsAs, IsLiveIn, as_new}
use Rattle.checkpoint.specs.Opening.{Refuses, IsReadIn, IsRecovered, TellsNotFormatted, TellsDamage, TellsOld}
use Rattle.checkpoint.proofs.Refusals.{refuses_along}

-- what is not old is version 2
pub version_two : (version : Version) → is_old version ≡ false → version ≡ Two
version_two (One policy) is = absurd cc
version_two Two is = refl

pub new_room : (sectors : ℕ) (opened : Opened) → version_of opened ≡ Two → HasRoomFor (version_of opened) sectors opened → HasRoom sectors opened
new_room sectors opened is room = subst (λ (v : Version). HasRoomFor v sectors opened) is room

-- what was read as version 2 is recovered
pub is_recovered : (old new : DiskView) (opened : Opened) (snapshot : Snapshot) (commands : List Command) → version_of opened ≡ Two → IsReadIn old new opened snapshot commands
    → IsRecovered old new opened snapshot commands
is_recovered old new opened snapshot commands is (table, replays, reads, live) = (
  table,
  replays,
  as_new (settings_of opened) table old.content (subst (λ (v : Version). ReadsAs v (settings_of opened) table old.content) is reads),
  subst (λ (v : Version). IsLiveIn v new opened table) is live,
)

old_alone : (version : Version) (state : State) → is_old version ≡ true → new_read (Ok (version, state)) ≡ Err OldVersion
old_alone (One policy) state is = refl
old_alone Two state is = absurd cc

-- and of what was read as version 1 it is told that it is old
pub told_old : (old new : DiskView) (opened : Opened) (snapshot : Snapshot) (commands : List Command) → is_old (version_of opened) ≡ true → IsReadIn old new opened snapshot commands
    → recovered old.content ≡ Err OldVersion
unfolding recovered
told_old old new opened snapshot commands is (table, replays, reads, live) = ap new_read reads ∙ old_alone (version_of opened) (record { settings = settings_of opened; table = table }) is

-- what refuses a disk of either version refuses its recovery
refused : (content : List ℕ) (why : OpenError) → Refuses why (read_as content) → Refuses why (recovered content)
unfolding recovered
refused content why = refuses_along why (read_as content) (new_read (read_as content)) (λ e is. ap new_read is)

same_cause : {A : Type 0} (a b : OpenError) → ◌≡◌ {A = Result A OpenError} (Err a) (Err b) → a ≡ b
same_cause a b is = cc

pub tells_not_formatted : {A : Type 0} (disk : DiskView) (why : OpenError) → (disk.honest → Refuses why (read_as disk.content)) → TellsNotFormatted {A = A} disk (Err why)
tells_not_formatted {A} disk why told honest is =
    subst (λ (e : OpenError). Refuses e (recovered disk.content)) (same_cause {A = A} why NotFormatted is) (refused disk.content why (told honest))

pub tells_damage : {A : Type 0} (disk : DiskView) (why : OpenError) → (disk.honest → Refuses why (read_as disk.content)) → TellsDamage {A = A} disk (Err why)
tells_damage {A} disk why told honest sector is =
    subst (λ (e : OpenError). Refuses e (recovered disk.content)) (same_cause {A = A} why (Damaged sector) is) (refused disk.content why (told honest))

pub tells_no_old : {A : Type 0} (disk : DiskView) (why : OpenError) → (◌≡◌ {A = Result A OpenError} (Err why) (Err OldVersion) → ⊥) → TellsOld {A = A} disk (Err why)
tells_no_old disk why none honest is = absurd (none is)
