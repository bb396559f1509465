-- A live disk with a batch written behind its log and not opened, and what a stop may leave while the next one is written.
use Rattle.std.specs.Prelude.{◌≡◌, ℕ, Bool, List, Some, Result, IfOk, OnOk}
use Rattle.sector_disk.specs.declared.disk.Fault.{Fault}
use Rattle.sector_disk.specs.Disk.{DiskView}
use Rattle.sector_disk.specs.Moments.{LeavesOnly}
use Rattle.invoke_records.specs.declared.snapshot.Snapshot.{Snapshot}
use Rattle.invoke_records.specs.declared.command.Command.{Command}
use Rattle.async_core.specs.Rules.{replay}
use Rattle.gate_journal.specs.declared.error.AppendError.{AppendError}
use Rattle.gate_journal.specs.declared.staged.Staged.{Staged}
use Rattle.gate_journal.specs.Staged as journal
use Rattle.checkpoint.specs.declared.opened.Opened.{Opened}
use Rattle.checkpoint.specs.Live.{settings_of, RecoversTo, RecoversToEither, IsLive}

-- behind a staged batch one more fits, of commands that fill so many bytes
abbrev pub fits_behind : Opened → Staged → ℕ → Bool
fits_behind opened staged size = journal.fits_behind opened.journal staged size

-- a staged batch lies in the live segment
abbrev pub LiesIn : Opened → Staged → Type 0
LiesIn opened staged = journal.LiesIn opened.journal staged

-- the disk is live with this table, and these commands are staged behind its log
pub record IsLiveAhead (disk : DiskView) (opened : Opened) (table : Snapshot) (commands : List Command) (staged : Staged) : Type 0 where
  pub live : IsLive disk opened table
  pub ahead : journal.IsStaged live.image.live.area live.image.live.frames commands staged disk.content

-- what Ok of staging says: an honest disk that was live with a table still is, with the batch staged behind it
abbrev pub Stages : DiskView → DiskView → Opened → List Command → Result Staged AppendError → Type 0
Stages old new opened commands result =
    old.honest → (table : Snapshot) → IsLive old opened table
    → IfOk result (λ staged. IsLiveAhead new opened table commands staged)

-- what a stop leaves at any moment of a staging on an honest disk that was live: its table
abbrev pub LeavesTable : DiskView → DiskView → Opened → Type 0
LeavesTable old new opened =
    old.honest → (table : Snapshot) → IsLive old opened table → LeavesOnly old new (RecoversTo (settings_of opened) table)

-- what Ok of an advance says: where an honest disk was live with a table, and the staged batch leads from that to another, it is
-- live with that, with the next batch staged behind it
abbrev pub Advances : DiskView → DiskView → Opened → Opened → Staged → List Command → Result Staged AppendError → Type 0
Advances old new was is staged more result =
    old.honest → (before after : Snapshot) (commands : List Command) → IsLiveAhead old was before commands staged
    → replay (settings_of was) before commands ≡ Some after
    → IfOk result (λ next. IsLiveAhead new is after more next)

-- what Ok of an opening says: the same with nothing staged
abbrev pub Opens : DiskView → DiskView → Opened → Opened → Staged → Result (Unit {0}) Fault → Type 0
Opens old new was is staged result =
    old.honest → (before after : Snapshot) (commands : List Command) → IsLiveAhead old was before commands staged
    → replay (settings_of was) before commands ≡ Some after
    → OnOk result (IsLive new is after)

-- what a stop leaves at any moment while a staged batch is opened: the table from before it, or after the whole batch
abbrev pub LeavesWithStaged : DiskView → DiskView → Opened → Staged → Type 0
LeavesWithStaged old new was staged =
    old.honest → (before after : Snapshot) (commands : List Command) → IsLiveAhead old was before commands staged
    → replay (settings_of was) before commands ≡ Some after
    → LeavesOnly old new (RecoversToEither (settings_of was) before after)
