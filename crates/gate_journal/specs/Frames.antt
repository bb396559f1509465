-- The frames that an area of a disk holds, by its bytes.
use Rattle.std.specs.Prelude.{◌≡◌, ℕ, zero, suc, ◌+◌, ◌-◌, ◌*◌, ◌/◌, ◌^◌, ◌==◌, nat_le, Bool, ◌&&◌, List, [], ◌∷◌, ◌++◌, length, take, drop, map, replicate, slice_index, Option, Some, None, Result, Ok, Err, if◌then◌else◌}
use Rattle.std.specs.List.{list_all}
use Rattle.std.specs.Int.{w32, w64, to_be_bytes, from_be_bytes}
use Rattle.invoke_records.specs.declared.command.Command.{Command}
use Rattle.invoke_records.specs.declared.error.RecordError.{RecordError}
use Rattle.invoke_records.specs.Spelling.{commands_text}
use Rattle.invoke_records.specs.Reading.{◌>>=◌, command_at}
use Rattle.gate_journal.specs.declared.area.Area.{Area}

-- ## What is written

-- the gate at the front of these bytes is open
abbrev pub is_open : List ℕ → Bool
is_open bytes = slice_index bytes 0 == 1

-- how many sectors so many bytes fill
abbrev pub sectors_for : ℕ → ℕ
sectors_for size = (size + 511) / 512

-- these bytes with zeros behind them to whole sectors
abbrev pub padded : List ℕ → List ℕ
padded bytes = bytes ++ replicate (512 * sectors_for (length bytes) - length bytes) 0

-- how many sectors a body has whose commands fill so many bytes
abbrev pub body_sectors : ℕ → ℕ
body_sectors size = sectors_for (32 + size)

-- generation 8, number of the first command 8, count 4, bytes of the commands 4, zero 8, the commands
abbrev pub body_front : ℕ → ℕ → List Command → List ℕ
body_front generation number commands =
    to_be_bytes w64 generation
    ++ (to_be_bytes w64 number
    ++ (to_be_bytes w32 (length commands)
    ++ (to_be_bytes w32 (length (commands_text commands)) ++ (to_be_bytes w64 0 ++ commands_text commands))))

-- a body, which fills whole sectors
abbrev pub body_text : ℕ → ℕ → List Command → List ℕ
body_text generation number commands = padded (body_front generation number commands)

-- ## What is read

-- so many commands, one after another, and the bytes behind them
unfoldable pub commands_at : ℕ → List ℕ → Result (List Command × List ℕ) RecordError
commands_at zero bytes = Ok ([], bytes)
commands_at (suc n) bytes =
    command_at bytes >>= λ (first : Command × List ℕ).
    commands_at n first.1 >>= λ (others : List Command × List ℕ).
    Ok (first.0 ∷ others.0, others.1)

-- all of them, where nothing is left behind them
abbrev pub whole : Result (List Command × List ℕ) RecordError → Option (List Command)
whole (Ok (commands, [])) = Some commands
whole (Ok (commands, b ∷ bytes)) = None
whole (Err e) = None

-- the fields at the front of a body
pub record Head : Type 0 where
  pub generation : ℕ
  pub number : ℕ
  pub count : ℕ
  pub size : ℕ
  pub zero_field : ℕ

abbrev pub head_of : List ℕ → Head
head_of body = record {
  generation = from_be_bytes w64 (take 8 body);
  number = from_be_bytes w64 (take 8 (drop 8 body));
  count = from_be_bytes w32 (take 4 (drop 16 body));
  size = from_be_bytes w32 (take 4 (drop 20 body));
  zero_field = from_be_bytes w64 (take 8 (drop 24 body));
}

-- the head of a body of this generation and this first number, which leaves room for a closed gate in so many bytes, and whose
-- numbers are at most 2 ^ 62
abbrev pub is_head : ℕ → ℕ → ℕ → Head → Bool
is_head generation number room head =
    (head.generation == generation) && (head.number == number) && (head.zero_field == 0)
    && nat_le (512 * (body_sectors head.size + 1)) room && nat_le (number + head.count) (2 ^ 62 + 1)

-- zeros to the end of its last sector
abbrev pub is_padded : List ℕ → ℕ → Bool
is_padded body size = list_all (λ b. b == 0) (take (512 * body_sectors size - (32 + size)) (drop (32 + size) body))

-- the commands of the body at the front of these bytes, if it is one
unfoldable pub body_at : ℕ → ℕ → List ℕ → Option (List Command)
body_at generation number body =
    if is_head generation number (length body) (head_of body) && is_padded body (head_of body).size
    then whole (commands_at (head_of body).count (take (head_of body).size (drop 32 body)))
    else None

-- the commands of an area, each behind the sector of its frame's gate, the sector after the last frame, and the next command's number
pub record Frames : Type 0 where
  pub commands : List (ℕ × Command)
  pub next : ℕ
  pub number : ℕ

-- each of them behind this sector
abbrev pub behind_gate : ℕ → List Command → List (ℕ × Command)
behind_gate gate commands = map (λ c. (gate, c)) commands

-- these commands first
abbrev pub with_first : List (ℕ × Command) → Result Frames ℕ → Result Frames ℕ
with_first commands (Ok frames) = Ok (record frames { commands = commands ++ frames.commands })
with_first commands (Err sector) = Err sector

-- another frame begins these bytes
abbrev pub goes_on : List ℕ → Bool
goes_on bytes = is_open bytes && nat_le 1536 (length bytes)

-- how many bytes the frame at the front of these takes
abbrev pub frame_size : List ℕ → ℕ
frame_size bytes = 512 + 512 * body_sectors (head_of (drop 512 bytes)).size

-- the commands of a body and what is read behind it; where there is none, its gate
abbrev pub from_body : ℕ → Option (List Command) → (List Command → Result Frames ℕ) → Result Frames ℕ
from_body gate None behind = Err gate
from_body gate (Some commands) behind = with_first (behind_gate gate commands) (behind commands)

-- no frame more, at this gate
abbrev pub no_frames : ℕ → ℕ → Frames
no_frames number gate = record { commands = []; next = gate; number = number }

-- the frames at the front of these bytes, the first gate of which is this sector, up to a closed gate or until fewer than
-- 3 sectors are left; where an open gate stands before no body, that gate's sector. Of so many frames at most.
unfoldable pub frames_at : ℕ → ℕ → ℕ → ℕ → List ℕ → Result Frames ℕ
frames_at zero generation number gate bytes = Ok (no_frames number gate)
frames_at (suc n) generation number gate bytes =
    if goes_on bytes
    then from_body gate (body_at generation number (drop 512 bytes))
    (λ commands. frames_at n generation (number + length commands) (gate + frame_size bytes / 512) (drop (frame_size bytes) bytes))
    else Ok (no_frames number gate)

-- the bytes of an area in an image
abbrev pub area_bytes : Area → List ℕ → List ℕ
area_bytes area image = take (512 * (area.end - area.start)) (drop (512 * area.start) image)

-- what an image holds in an area; where an open gate stands before no body, that gate's sector
unfoldable pub frames_in : Area → List ℕ → Result Frames ℕ
frames_in area image = frames_at (area.end - area.start) area.generation area.number area.start (area_bytes area image)

-- these frames with one more, of this batch
abbrev pub frames_with : Frames → List Command → Frames
frames_with frames commands = record {
  commands = frames.commands ++ behind_gate frames.next commands;
  next = frames.next + 1 + body_sectors (length (commands_text commands));
  number = frames.number + length commands;
}

-- an image that is this one outside an area
pub record SameOutside (area : Area) (old new : List ℕ) : Type 0 where
  pub size : length new ≡ length old
  pub front : take (512 * area.start) new ≡ take (512 * area.start) old
  pub behind : drop (512 * area.end) new ≡ drop (512 * area.end) old
