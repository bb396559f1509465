-- A journal as contracts see it, and what a stop may leave of its area.
use Rattle.std.specs.Prelude.{◌≡◌, ◌⊎◌, ℕ, ◌+◌, ◌-◌, nat_le, Bool, List, Result, Ok, Err, OnOk}
use Rattle.sector_disk.specs.Disk.{DiskView, HasOneImage}
use Rattle.sector_disk.specs.Moments.{LeavesOnly}
use Rattle.invoke_records.specs.declared.command.Command.{Command}
use Rattle.gate_journal.specs.declared.area.Area.{Area}
use Rattle.gate_journal.specs.declared.error.AppendError.{AppendError}
use Rattle.gate_journal.specs.declared.error.ReadError.{ReadError}
use Rattle.gate_journal.specs.declared.error.ReadError.TheVariants.{Damaged}
use Rattle.gate_journal.specs.declared.journal.Journal.{Journal}
use Rattle.gate_journal.specs.Frames.{Frames, frames_in, frames_with, body_sectors, SameOutside}

-- the generation of its frames
abbrev pub generation_of : Journal → ℕ
generation_of journal = journal.generation

-- the number of the next command
abbrev pub number_of : Journal → ℕ
number_of journal = journal.number

-- the sector of the gate after its last frame
abbrev pub next_of : Journal → ℕ
next_of journal = journal.next

-- the sector behind its area
abbrev pub end_of : Journal → ℕ
end_of journal = journal.end

-- how many sectors are free behind its last frame: from the gate after that, where the next frame would begin, up to its area's end
abbrev pub free_sectors_of : Journal → ℕ
free_sectors_of journal = end_of journal - next_of journal

-- a frame of commands that fill so many bytes fits behind the last one: its gate, its body and a closed gate
abbrev pub fits : Journal → ℕ → Bool
fits journal size = nat_le (next_of journal + body_sectors size + 2) (end_of journal)

-- the image holds these frames in an area, and the journal goes on behind them
pub record Holds (area : Area) (frames : Frames) (journal : Journal) (image : List ℕ) : Type 0 where
  pub reads : frames_in area image ≡ Ok frames
  pub next : next_of journal ≡ frames.next
  pub number : number_of journal ≡ frames.number
  pub end : end_of journal ≡ area.end
  pub generation : generation_of journal ≡ area.generation

-- the disk holds frames of these commands in an area, and the journal goes on behind them
abbrev pub IsFound : DiskView → Area → Journal → List (ℕ × Command) → Type 0
IsFound disk area journal commands = (frames : Frames) × (frames.commands ≡ commands) × Holds area frames journal disk.content

-- what `Damaged` says, on an honest disk: this sector's open gate is the first in the area that stands before no body of it
abbrev pub TellsDamage : {A : Type 0} → DiskView → Area → Result A ReadError → Type 0
TellsDamage disk area result = disk.honest → (sector : ℕ) → result ≡ Err (Damaged sector) → frames_in area disk.content ≡ Err sector

-- what Ok of an append says: if an area of an honest disk with one image held frames behind which the journal went on, it now holds
-- them and the batch, the disk has one image, and that is as it was outside the area
abbrev pub Acknowledges : DiskView → DiskView → Journal → Journal → List Command → Result (Unit {0}) AppendError → Type 0
Acknowledges old new before after commands result =
    old.honest → HasOneImage old → (area : Area) (frames : Frames) → Holds area frames before old.content
    → OnOk result (HasOneImage new × Holds area (frames_with frames commands) after new.content × SameOutside area old.content new.content)

-- the image holds the frames from before or those and one more, and is as it was outside the area
pub record IsBeforeOrAfter (area : Area) (frames : Frames) (commands : List Command) (old image : List ℕ) : Type 0 where
  pub reads : (frames_in area image ≡ Ok frames) ⊎ (frames_in area image ≡ Ok (frames_with frames commands))
  pub outside : SameOutside area old image

-- what a stop leaves at any moment of an append to an honest disk with one image: the frames from before it, or those and the whole batch
abbrev pub LeavesBeforeOrAfter : DiskView → DiskView → Journal → List Command → Type 0
LeavesBeforeOrAfter old new before commands =
    old.honest → HasOneImage old → (area : Area) (frames : Frames) → Holds area frames before old.content
    → LeavesOnly old new (IsBeforeOrAfter area frames commands old.content)
