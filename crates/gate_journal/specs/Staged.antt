-- A frame that is written and not opened, and what a stop may leave while the next one is written.
use Rattle.std.specs.Prelude.{◌≡◌, ℕ, ◌+◌, ◌*◌, ◌^◌, ◌<◌, ◌≤◌, nat_le, Bool, false, List, ◌++◌, length, drop, All, Result, Ok, IfOk, OnOk}
use Rattle.sector_disk.specs.declared.disk.Fault.{Fault}
use Rattle.sector_disk.specs.Disk.{DiskView, HasOneImage}
use Rattle.sector_disk.specs.Moments.{LeavesOnly}
use Rattle.invoke_records.specs.declared.command.Command.{Command}
use Rattle.invoke_records.specs.Spelling.{IsCommand, commands_text}
use Rattle.gate_journal.specs.declared.area.Area.{Area}
use Rattle.gate_journal.specs.declared.error.AppendError.{AppendError}
use Rattle.gate_journal.specs.declared.journal.Journal.{Journal}
use Rattle.gate_journal.specs.declared.staged.Staged.{Staged}
use Rattle.gate_journal.specs.Frames.{Frames, is_open, body_sectors, body_text, frames_in, frames_with, SameOutside}
use Rattle.gate_journal.specs.Journal.{next_of, end_of, Holds, IsBeforeOrAfter}

-- how many sectors it takes
abbrev pub sectors_of : Staged → ℕ
sectors_of staged = staged.sectors

-- how many commands it has
abbrev pub count_of : Staged → ℕ
count_of staged = staged.count

-- it leaves a sector for a closed gate behind it in a journal's area
abbrev pub LiesIn : Journal → Staged → Type 0
LiesIn journal staged = next_of journal + sectors_of staged < end_of journal

-- the frame of these commands is written behind the closed gate after an area's frames, with a closed gate behind it
pub record IsStaged (area : Area) (frames : Frames) (commands : List Command) (staged : Staged) (image : List ℕ) : Type 0 where
  pub sectors : staged.sectors ≡ 1 + body_sectors (length (commands_text commands))
  pub count : staged.count ≡ length commands
  pub room : frames.next + staged.sectors + 1 ≤ area.end
  -- the bytes behind the gate: the body, a closed gate, and any others
  pub gate : List ℕ
  pub rest : List ℕ
  pub whole : length gate ≡ 512
  pub shut : is_open gate ≡ false
  pub is : drop (512 * frames.next + 512) image ≡ (body_text area.generation frames.number commands ++ gate) ++ rest
  -- the commands, their numbers, count and size fit their fields
  pub commands_fit : All IsCommand commands
  pub generation_fits : area.generation < 2 ^ 64
  pub numbers_fit : frames.number + length commands ≤ 2 ^ 62 + 1
  pub count_fits : length commands < 2 ^ 32
  pub size_fits : length (commands_text commands) < 2 ^ 32

-- behind such a frame one more fits, of commands that fill so many bytes: its gate, its body and a closed gate
abbrev pub fits_behind : Journal → Staged → ℕ → Bool
fits_behind journal staged size = nat_le (next_of journal + staged.sectors + body_sectors size + 2) (end_of journal)

-- the image holds these frames alone, and is as it was outside the area
pub record IsBefore (area : Area) (frames : Frames) (old image : List ℕ) : Type 0 where
  pub reads : frames_in area image ≡ Ok frames
  pub outside : SameOutside area old image

-- what a stop leaves at any moment while a frame is staged on an honest disk with one image: the frames from before
abbrev pub LeavesBefore : DiskView → DiskView → Journal → Type 0
LeavesBefore old new journal =
    old.honest → HasOneImage old → (area : Area) (frames : Frames) → Holds area frames journal old.content
    → LeavesOnly old new (IsBefore area frames old.content)

-- the disk has one image, which holds these frames with one more staged behind them, and is as it was outside the area
pub record HoldsStaged (area : Area) (frames : Frames) (commands : List Command) (journal : Journal) (staged : Staged) (old : List ℕ) (disk : DiskView) : Type 0 where
  pub one : HasOneImage disk
  pub holds : Holds area frames journal disk.content
  pub ahead : IsStaged area frames commands staged disk.content
  pub outside : SameOutside area old disk.content

-- what Ok of staging says: where an honest disk with one image held frames behind which the journal went on, it still holds them,
-- with the batch staged behind them
abbrev pub Stages : DiskView → DiskView → Journal → List Command → Result Staged AppendError → Type 0
Stages old new journal commands result =
    old.honest → HasOneImage old → (area : Area) (frames : Frames) → Holds area frames journal old.content
    → IfOk result (λ staged. HoldsStaged area frames commands journal staged old.content new)

-- what a stop leaves at any moment while a staged frame is opened: the frames from before it, or those and its batch
abbrev pub LeavesWithStaged : DiskView → DiskView → Journal → Staged → Type 0
LeavesWithStaged old new journal staged =
    old.honest → HasOneImage old → (area : Area) (frames : Frames) (commands : List Command) → Holds area frames journal old.content
    → IsStaged area frames commands staged old.content
    → LeavesOnly old new (IsBeforeOrAfter area frames commands old.content)

-- what Ok of an advance says: the staged batch is there, and the next one is staged behind it
abbrev pub Advances : DiskView → DiskView → Journal → Journal → Staged → List Command → Result Staged AppendError → Type 0
Advances old new before after staged more result =
    old.honest → HasOneImage old → (area : Area) (frames : Frames) (commands : List Command) → Holds area frames before old.content
    → IsStaged area frames commands staged old.content
    → IfOk result (λ next. HoldsStaged area (frames_with frames commands) more after next old.content new)

-- what Ok of an opening says: the staged batch is there
abbrev pub Opens : DiskView → DiskView → Journal → Journal → Staged → Result (Unit {0}) Fault → Type 0
Opens old new before after staged result =
    old.honest → HasOneImage old → (area : Area) (frames : Frames) (commands : List Command) → Holds area frames before old.content
    → IsStaged area frames commands staged old.content
    → OnOk result (HasOneImage new × Holds area (frames_with frames commands) after new.content × SameOutside area old.content new.content)
