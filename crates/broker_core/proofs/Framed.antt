-- What a call of the log leaves of what a broker is: lemmas.
use Rattle.std.proofs.Common.{◌≡◌, ◌==◌, ℕ, ◌+◌, ◌*◌, ◌<◌, ◌≤◌, true, false, Option, None, Some, List, [], length, Result, Ok, Err, refl, sym, subst, ◌∙◌, arith}
use Rattle.std.proofs.lemmas.Bool.{eqb-true}
use Rattle.sector_disk.specs.Disk.{DiskView}
use Rattle.retry_rules.specs.declared.settings.Settings.{Settings}
use Rattle.invoke_records.specs.declared.snapshot.Snapshot.{Snapshot}
use Rattle.invoke_records.specs.declared.command.Command.{Command}
use Rattle.invoke_records.specs.declared.version.Version.TheVariants.{Two}
use Rattle.async_core.specs.Rules.{replay}
use Rattle.gate_journal.specs.declared.staged.Staged.{Staged}
use Rattle.gate_journal.specs.Staged.{count_of}
use Rattle.checkpoint.specs.declared.opened.Opened.{Opened}
use Rattle.checkpoint.specs.Image.{segment_sectors_in}
use Rattle.checkpoint.specs.Live.{settings_of, end_of, HasRoom, IsLive, may_stand}
use Rattle.sector_disk.specs.declared.disk.Disk.{Ghosts}
use Rattle.broker_core.specs.declared.broker.Broker.{Broker}
use Rattle.broker_core.specs.Broker.{durable_of, Commits}
use Rattle.broker_core.specs.AdvanceSteps.{StagesAs, IsLiveWith, table_with}
use Rattle.broker_core.specs.declared.error.CommitError.{CommitError}
use Rattle.broker_core.specs.declared.error.CommitError.TheVariants.{WornOut, BadKind, OutOfMemory, Fault}

-- ## Where nothing is pending

pub none_pending : (commands : List Command) (n : ℕ) → n ≡ length commands → true ≡ (n == 0) → length commands ≡ 0
none_pending commands n all is = sym all ∙ eqb-true n 0 (sym is)

pub not_pending : {P : Type 0} (n : ℕ) → n ≡ 0 → 1 ≤ n → P
not_pending n is some = absurd (omega (arith, is, some))

pub none_staged : (staged : Option Staged) (n : ℕ) → ((group : Staged) → staged ≡ Some group → (1 ≤ count_of group) × (count_of group ≤ n)) → n ≡ 0 → staged ≡ None
none_staged None n front is = refl
none_staged (Some group) n front is = let f = front group refl in absurd (omega (arith, f.0, f.1, is))

pub all_durable : (durable n number : ℕ) → durable + n ≡ number → n ≡ 0 → durable ≡ number
all_durable durable n number counted is = omega (arith, counted, is)

pub same_table : (s : Settings) (before after : Snapshot) (commands : List Command) → commands ≡ [] → replay s before commands ≡ Some after → before ≡ after
same_table s before after commands none replays =
    let same : ◌≡◌ {A = Option Snapshot} (Some before) (Some after) = subst (λ (l : List Command). replay s before l ≡ Some after) none replays in
    cc

-- ## Where the disk and the live segment are as they were

pub replays_there : (s there : Settings) (pending given : List Command) (before after : Snapshot) → s ≡ there → given ≡ pending → replay s before pending ≡ Some after → replay there before given ≡ Some after
replays_there s there pending given before after kept same replays =
    subst (λ (l : List Command). replay there before l ≡ Some after) (sym same) (subst (λ (r : Settings). replay r before pending ≡ Some after) kept replays)

-- what is shown of both tables after a call that changed nothing, holds of those before it
module _ {D : Type 0} (view : D → DiskView) (P : D → Snapshot → Type 0) (s : Settings) (table : Snapshot) (pending : List Command) where
  abbrev shown : D → Opened → Type 0
  shown disk opened = (view disk).honest → (before : Snapshot) → IsLive (view disk) opened before → replay s before pending ≡ Some table → P disk before

  pub on_same : (disk mid : D) (opened there : Opened) → mid ≡ disk → there ≡ opened → shown mid there → shown disk opened
  on_same disk mid opened there same kept is = subst (λ (o : Opened). shown disk o) kept (subst (λ (d : D). shown d there) same is)

-- ## Room

pub room_there : (sectors n : ℕ) (opened there : Opened) → n ≡ sectors → settings_of there ≡ settings_of opened → end_of there ≡ end_of opened → HasRoom sectors opened → HasRoom n there
room_there sectors n opened there same settings end room = record {
  least = subst (λ (s : Settings). 2 * segment_sectors_in Two s ≤ n) (sym settings) (subst (λ (m : ℕ). 2 * segment_sectors_in Two (settings_of opened) ≤ m) (sym same) room.least);
  end = subst (λ (e : ℕ). e ≤ n) (sym end) (subst (λ (m : ℕ). end_of opened ≤ m) (sym same) room.end);
}

-- ## A generation, and what wears out

pub worn_told : (told n most : ℕ) → told ≡ n → most ≤ told → most ≤ n
worn_told told n most is worn = omega (arith, is, worn)

pub not_worn : {P : Type 0} (told n most : ℕ) → told ≡ n → told < most → most ≤ n → P
not_worn told n most is less worn = absurd (omega (arith, is, less, worn))

pub ok_not_err : {T E P : Type 0} {x : T} {e : E} → ◌≡◌ {A = Result T E} (Ok x) (Err e) → P
ok_not_err is = absurd cc

pub bad_not_worn : {T P : Type 0} → ◌≡◌ {A = Result T CommitError} (Err BadKind) (Err WornOut) → P
bad_not_worn is = absurd cc

pub memory_not_worn : {T P : Type 0} → ◌≡◌ {A = Result T CommitError} (Err OutOfMemory) (Err WornOut) → P
memory_not_worn is = absurd cc

pub fault_not_worn : {T P : Type 0} → ◌≡◌ {A = Result T CommitError} (Err Fault) (Err WornOut) → P
fault_not_worn is = absurd cc

pub bad_there : (s there : Settings) (table snapshot : Snapshot) → s ≡ there → snapshot ≡ table → may_stand there snapshot ≡ false → may_stand s table ≡ false
bad_there s there table snapshot kept same bad = subst (λ (r : Settings). may_stand r table ≡ false) (sym kept) (subst (λ (t : Snapshot). may_stand there t ≡ false) same bad)

-- ## Where nothing is staged

pub nothing_staged : {D : Type 0} {g : Ghosts D} (old new : Broker D g) (staged : Option Staged) → staged ≡ None → Commits old new (durable_of new) → StagesAs staged old new
nothing_staged old new None none commits = commits
nothing_staged old new (Some group) none commits = absurd cc

pub live_whole : (disk : DiskView) (opened : Opened) (before after : Snapshot) (pending : List Command) (staged : Option Staged) → staged ≡ None → IsLive disk opened after
    → IsLiveWith disk opened (table_with staged before after) pending staged
live_whole disk opened before after pending None none live = record { live = live; ahead = tt }
live_whole disk opened before after pending (Some group) none live = absurd cc
