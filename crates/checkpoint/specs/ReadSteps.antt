-- The steps of reading an image, each over what the one before it gave: for proofs and private steps. No public contract cites it.
use Rattle.std.specs.Prelude.{ℕ, List, Option, Some, None, is_none, ok_or, Result, Ok, Err, if◌then◌else◌}
use Rattle.invoke_records.specs.declared.snapshot.Snapshot.{Snapshot}
use Rattle.invoke_records.specs.declared.version.Version.{Version}
use Rattle.async_core.specs.declared.illegal.Illegal.{Illegal}
use Rattle.async_core.specs.State.{State}
use Rattle.gate_journal.specs.declared.area.Area.{Area}
use Rattle.gate_journal.specs.Frames.{Frames}
use Rattle.checkpoint.specs.declared.header.Header.{Header}
use Rattle.checkpoint.specs.declared.choosing.Found.{Found}
use Rattle.checkpoint.specs.declared.error.OpenError.{OpenError}
use Rattle.checkpoint.specs.declared.error.OpenError.TheVariants.{Damaged}
use Rattle.checkpoint.specs.Image.{◌>>=◌, SegmentImage, DiskImage, undamaged, folded_in, chosen, found_in, older_in, live_in, if_new}

-- ## A segment

-- a value, or damage at this sector
abbrev pub or_damaged : {A B : Type 0} → ℕ → Option A → (A → Result B OpenError) → Result B OpenError
or_damaged sector found rest = ok_or found (Damaged sector) >>= rest

-- where the command is legal, the rest, else damage at its gate
abbrev pub legal_or_damaged : {A : Type 0} → ℕ → Option Illegal → Result A OpenError → Result A OpenError
legal_or_damaged gate refusal rest = if is_none refusal then rest else Err (Damaged gate)

-- where this went well, the rest
abbrev pub next_to : {A : Type 0} → Result (Unit {0}) OpenError → Result A OpenError → Result A OpenError
next_to first rest = first >>= λ known. rest

-- the segment of these parts, where each command of its frames is legal
abbrev pub with_table : ℕ → Header → Snapshot → Area → Frames → Result Snapshot OpenError → Result SegmentImage OpenError
with_table base header snapshot area frames read =
    read >>= λ table.
    Ok (record {
      version = header.version;
      base = base;
      generation = header.generation;
      settings = header.settings;
      snapshot = snapshot;
      area = area;
      frames = frames;
      table = table;
    })

abbrev pub with_frames : ℕ → Header → Snapshot → Area → Result Frames ℕ → Result SegmentImage OpenError
with_frames base header snapshot area read =
    undamaged read >>= λ frames.
    with_table base header snapshot area frames (folded_in header.version header.settings snapshot frames.commands)

-- ## An image

-- the older segment that was read, if there is one
abbrev pub older_read : Option (Result SegmentImage OpenError) → Result (Option SegmentImage) OpenError
older_read None = Ok None
older_read (Some read) = read >>= λ segment. Ok (Some segment)

-- the live segment and the older one: what is wrong with the live one is told first
abbrev pub with_older : Result SegmentImage OpenError → Option (Result SegmentImage OpenError) → Result DiskImage OpenError
with_older live older = live >>= λ live. older_read older >>= λ older. Ok (record { live = live; older = older })

-- what the segments hold that were found open
abbrev pub segments_in : ℕ → List ℕ → Result (Found × Option Found) OpenError → Result DiskImage OpenError
segments_in sectors image found =
    found >>= λ found.
    found_in sectors found.0 image >>= λ live.
    older_in sectors found.1 image >>= λ older.
    Ok (record { live = live; older = older })

-- both headers, that of A first, and what is then read
abbrev pub by_headers : ℕ → List ℕ → Result (Option Header) OpenError → Result (Option Header) OpenError → Result DiskImage OpenError
by_headers half image a b = a >>= λ a. b >>= λ b. segments_in half image (chosen half a b)

-- ## What is read of it

abbrev pub live_read : Result DiskImage OpenError → Result (Version × State) OpenError
live_read read = read >>= λ held. Ok (live_in held)

abbrev pub new_read : Result (Version × State) OpenError → Result State OpenError
new_read read = read >>= if_new
