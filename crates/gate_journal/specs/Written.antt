-- An area as it is written: frames, one behind another, and an end.
use Rattle.std.specs.Prelude.{◌≡◌, ℕ, ◌+◌, ◌*◌, ◌^◌, ◌<◌, ◌≤◌, true, false, List, [], ◌∷◌, ◌++◌, length, All, Ok}
use Rattle.invoke_records.specs.declared.command.Command.{Command}
use Rattle.invoke_records.specs.Spelling.{IsBytes, IsCommand, commands_text}
use Rattle.gate_journal.specs.Frames.{Frames, is_open, body_text, body_sectors, goes_on, behind_gate, no_frames, frames_at}

-- a frame of this batch, the first command of which has this number, and the bytes behind it: an open gate and the one spelling
-- of the body
pub record IsFrame (generation number : ℕ) (batch : List Command) (bytes rest : List ℕ) : Type 0 where
  pub gate : List ℕ
  pub sector : length gate ≡ 512
  pub opened : is_open gate ≡ true
  pub is : bytes ≡ gate ++ (body_text generation number batch ++ rest)
  pub commands : All IsCommand batch
  -- a sector is left for a closed gate
  pub room : 512 ≤ length rest
  -- no command has a number above 2 ^ 62
  pub numbers : number + length batch ≤ 2 ^ 62 + 1
  -- the count and the size fit their fields
  pub count : length batch < 2 ^ 32
  pub size : length (commands_text batch) < 2 ^ 32

-- frames of these batches, and then a closed gate or fewer than 3 sectors
unfoldable pub IsArea : ℕ → ℕ → List (List Command) → List ℕ → Type 0
IsArea generation number [] bytes = goes_on bytes ≡ false
IsArea generation number (batch ∷ batches) bytes =
    (rest : List ℕ) × IsFrame generation number batch bytes rest × IsArea generation (number + length batch) batches rest

-- the commands of these batches, each behind the sector of its frame's gate
unfoldable pub frames_of : ℕ → ℕ → List (List Command) → Frames
frames_of gate number [] = no_frames number gate
frames_of gate number (batch ∷ batches) =
    let later = frames_of (gate + 1 + body_sectors (length (commands_text batch))) (number + length batch) batches in
    record later { commands = behind_gate gate batch ++ later.commands }

-- an area of so many sectors that was written is read as the frames of its batches, the first of which has its gate at this sector
abbrev pub IsReadBack : ℕ → ℕ → ℕ → ℕ → List (List Command) → List ℕ → Type 0
IsReadBack generation number gate sectors batches bytes =
    generation < 2 ^ 64 → length bytes ≤ 512 * sectors → IsArea generation number batches bytes
    → frames_at sectors generation number gate bytes ≡ Ok (frames_of gate number batches)

-- bytes that are read as these frames are an area of batches that was written so
abbrev pub IsWrittenSo : ℕ → ℕ → ℕ → ℕ → List ℕ → Frames → Type 0
IsWrittenSo generation number gate sectors bytes frames =
    generation < 2 ^ 64 → IsBytes bytes → length bytes ≤ 512 * sectors → frames_at sectors generation number gate bytes ≡ Ok frames
    → (batches : List (List Command)) × IsArea generation number batches bytes × (frames ≡ frames_of gate number batches)
