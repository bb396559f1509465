-- What each private step of reading or writing a frame gives. No public contract cites it.
use Rattle.std.specs.Prelude.{◌≡◌, ℕ, ◌+◌, ◌-◌, ◌*◌, ◌^◌, ◌<◌, ◌≤◌, Bool, true, false, List, ◌++◌, length, take, drop, Option, Some, None, Ok, Vec}
use Rattle.std.specs.Global.{Global}
use Rattle.std.specs.Int.{w32, w64, to_be_bytes}
use Rattle.sector_disk.specs.Disk.{DiskView, IsSameDisk, IsUntouched}
use Rattle.invoke_records.specs.declared.command.Command.{Command}
use Rattle.gate_journal.specs.declared.area.Area.{Area}
use Rattle.gate_journal.specs.declared.head.Head.{Head as ReadHead}
use Rattle.gate_journal.specs.Frames.{Head, is_open, area_bytes, head_of, is_head, body_sectors, behind_gate, no_frames, with_first, frames_in}

-- the disk was only read, and its count of faults did not fall
pub record OnlyReads (old new : DiskView) (before now : ℕ) : Type 0 where
  pub same : IsSameDisk old new
  pub later : before ≤ now
  pub untouched : old.honest → IsUntouched old new

-- ## Reading

-- the gate at this sector of an image is open
abbrev pub is_gate_open : ℕ → List ℕ → Bool
is_gate_open at image = is_open (drop (512 * at) image)

-- this first sector and the sectors of an image from that one on, so many in all
abbrev pub with_rest : List ℕ → ℕ → ℕ → List ℕ → List ℕ
with_rest first at sectors image = first ++ take (512 * (sectors - 1)) (drop (512 * at) image)

-- the bytes of an area behind its first gate
abbrev pub behind_first_gate : Area → List ℕ → List ℕ
behind_first_gate area image = drop 512 (area_bytes area image)

-- the fields of a head
abbrev pub head_fields : ReadHead → Head
head_fields head = record {
  generation = head.generation;
  number = head.number;
  count = head.count;
  size = head.size;
  zero_field = head.zero_field;
}

-- what was read of the body that begins these bytes, whose area begins at the gate before it: its head and its sectors, unless it
-- has no head of the area
abbrev pub IsBodyRead : Area → List ℕ → Option (ReadHead × Vec ℕ Global) → Type 0
IsBodyRead area body None = is_head area.generation area.number (length body) (head_of body) ≡ false
IsBodyRead area body (Some (head, sectors)) =
    (is_head area.generation area.number (length body) (head_of body) ≡ true) × (head_fields head ≡ head_of body)
    × (sectors.items ≡ take (512 * body_sectors (head_of body).size) body)

-- these commands were found, behind this gate, and were pushed; or there were none
abbrev pub AreDecoded : ℕ → Option (List Command) → List (ℕ × Command) → List (ℕ × Command) → Bool → Type 0
AreDecoded gate read old new true = (commands : List Command) × (read ≡ Some commands) × (new ≡ old ++ behind_gate gate commands)
AreDecoded gate read old new false = read ≡ None

-- what is left of an area behind a frame, whose commands were pushed
pub record IsFurther (left next : Area) (before now : ℕ) : Type 0 where
  pub generation : next.generation ≡ left.generation
  pub end : next.end ≡ left.end
  pub forward : left.start < next.start
  pub inside : next.start ≤ left.end
  pub number : next.number + before ≡ left.number + now
  pub below : next.number ≤ 2 ^ 62 + 1

-- what is left of an area behind its first frame, by the commands found before and now; where there is no frame, none was found
abbrev pub IsLeft : Area → List (ℕ × Command) → List (ℕ × Command) → Option Area → Type 0
IsLeft left old new None = new ≡ old
IsLeft left old new (Some next) = IsFurther left next (length old) (length new)

-- the first frame of what is left of an area, whose commands were pushed, and what is left behind it; or there is none
abbrev pub NextFrame : Area → List ℕ → List (ℕ × Command) → List (ℕ × Command) → Option Area → Type 0
NextFrame left image old new None = frames_in left image ≡ Ok (no_frames left.number left.start)
NextFrame left image old new (Some next) =
    (commands : List (ℕ × Command)) × (new ≡ old ++ commands) × (frames_in left image ≡ with_first commands (frames_in next image))

-- ## Writing

-- these bytes with the head of a body behind them
abbrev pub with_head : List ℕ → ℕ → ℕ → ℕ → ℕ → List ℕ
with_head bytes generation number count size =
    bytes ++ to_be_bytes w64 generation ++ to_be_bytes w64 number ++ to_be_bytes w32 count ++ to_be_bytes w32 size ++ to_be_bytes w64 0
