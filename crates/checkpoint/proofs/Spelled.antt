-- A segment that was spelled is read back.
use Rattle.std.proofs.Common.{◌≡◌, ℕ, zero, suc, ◌+◌, ◌-◌, ◌*◌, ◌^◌, ◌<◌, ◌≤◌, nat_le, nat_eq, true, false, List, [], ◌∷◌, ◌++◌, length, take, drop, replicate, Some, None, Ok, refl, ◌∙◌, ap, arith, append_assoc, length-append}
use Rattle.std.proofs.lemmas.Bool.{and_from, and_left, le-leb, eq-eqb, cond-true, cond-false}
use Rattle.std.proofs.lemmas.List.{take_at, length-replicate}
use Rattle.std.proofs.lemmas.Nat.{from_be_bytes-to_be_bytes_4, from_be_bytes-to_be_bytes_8}
use Rattle.std.specs.List.{starts_with}
use Rattle.std.specs.Int.{w32, w64, to_be_bytes, from_be_bytes}
use Rattle.retry_rules.specs.declared.settings.Settings.{Settings}
use Rattle.retry_rules.specs.Settings.{bad_field, policy_of}
use Rattle.invoke_records.specs.declared.snapshot.Snapshot.{Snapshot}
use Rattle.invoke_records.specs.Spelling.{settings_text, snapshot_text}
use Rattle.invoke_records.specs.declared.version.Version.TheVariants.{Two}
use Rattle.invoke_records.specs.Reading.{settings_at, whole_at}
use Rattle.invoke_records.specs.laws.Settings.{settings_again, settings_length_most}
use Rattle.gate_journal.specs.declared.area.Area.{Area}
use Rattle.gate_journal.specs.Frames.{is_open, sectors_for, padded, frames_in, frames_at, area_bytes, no_frames}
use Rattle.checkpoint.specs.declared.header.Header.{Header}
use Rattle.checkpoint.proofs.Judging.{behind_front}
use Rattle.async_core.specs.Limits.{most_snapshot, is_within}
use Rattle.checkpoint.specs.Image.{magic, letters, version_byte, is_version, version_named, header_front, header_text, header_at, header_of, header_with, are_zeros, segment_sectors, within_limits, snapshot_of}

pub zeros_are : (n : ℕ) → are_zeros (replicate n 0) ≡ true
zeros_are zero = refl
zeros_are (suc n) = zeros_are n

so_many : (n m : ℕ) → length (replicate n m) ≡ n
so_many n m = length-replicate n m

-- how many zeros fill the last sector
abbrev pub filling : List ℕ → List ℕ
filling bytes = replicate (512 * sectors_for (length bytes) - length bytes) 0

pub length-padded : (bytes : List ℕ) → length (padded bytes) ≡ 512 * sectors_for (length bytes)
length-padded bytes =
    let n = length bytes in
    length-append bytes (filling bytes) ∙ ap (λ (m : ℕ). n + m) (length-replicate (512 * sectors_for n - n) 0) ∙ omega arith

-- ## The header

module _ (generation size : ℕ) (s : Settings) where
  abbrev pub text : List ℕ
  text = settings_text s

  abbrev pub front : List ℕ
  front = header_front generation size s

  abbrev pub behind_text : List ℕ
  behind_text = text ++ filling front

  abbrev pub parts : List ℕ
  parts = magic ++ (to_be_bytes w64 generation ++ (to_be_bytes w64 size ++ (to_be_bytes w32 (length text) ++ behind_text)))

  -- the fields one behind another
  pub regrouped : header_text generation size s ≡ parts
  unfolding header_text
  regrouped = simp append_assoc refl

  front_size : length front ≡ 28 + length text
  front_size = omega arith

  pub header_size : bad_field s ≡ None → length (header_text generation size s) ≡ 512
  unfolding header_text
  header_size good = length-padded front ∙ omega (arith, front_size, settings_length_most s good)

  module _ (good : bad_field s ≡ None) (low : 1 ≤ generation) (high : generation ≤ 2 ^ 62) (bytes : List ℕ) (is : bytes ≡ parts) where
    starts : starts_with nat_eq bytes letters ≡ true
    starts = ap (λ (l : List ℕ). starts_with nat_eq l letters) is

    known : is_version (version_byte bytes) ≡ true
    known = ap (λ (l : List ℕ). is_version (version_byte l)) is

    named : version_named (version_byte bytes) (policy_of s) ≡ Two
    named = ap (λ (l : List ℕ). version_named (version_byte l) (policy_of s)) is

    generation_again : from_be_bytes w64 (take 8 (drop 8 bytes)) ≡ generation
    generation_again = ap (λ (l : List ℕ). from_be_bytes w64 (take 8 (drop 8 l))) is ∙ from_be_bytes-to_be_bytes_8 generation (omega (arith, high))

    size_again : size < 2 ^ 64 → from_be_bytes w64 (take 8 (drop 16 bytes)) ≡ size
    size_again below = ap (λ (l : List ℕ). from_be_bytes w64 (take 8 (drop 16 l))) is ∙ from_be_bytes-to_be_bytes_8 size below

    told_again : from_be_bytes w32 (take 4 (drop 24 bytes)) ≡ length text
    told_again = ap (λ (l : List ℕ). from_be_bytes w32 (take 4 (drop 24 l))) is
        ∙ from_be_bytes-to_be_bytes_4 (length text) (omega (arith, settings_length_most s good))

    behind : settings_at (drop 28 bytes) ≡ Ok (s, filling front)
    behind = ap (λ (l : List ℕ). settings_at (drop 28 l)) is ∙ settings_again s (filling front) good

    module _ (sectors : ℕ) (within : size ≤ most_snapshot s) (below : size < 2 ^ 64) (room : segment_sectors s ≤ sectors) where
      told_fits : from_be_bytes w32 (take 4 (drop 24 bytes)) + length (filling front) ≡ 484
      told_fits = omega (arith, told_again, so_many (512 * sectors_for (length front) - length front) 0, front_size, settings_length_most s good)

      settings_there : header_with sectors bytes (Ok (s, filling front)) ≡ Some (record { version = Two; generation = generation; size = size; settings = s })
      settings_there =
          ap (header_of sectors bytes s (filling front)) named
          ∙ cond-true _ _ _
          (and_from _ _
          (and_from _ _
          (and_from _ _ (and_from _ _ (eq-eqb _ 484 told_fits) (zeros_are (512 * sectors_for (length front) - length front)))
          (ap (λ (n : ℕ). nat_le n (most_snapshot s)) (size_again below) ∙ le-leb size (most_snapshot s) within))
          (le-leb (segment_sectors s) sectors room))
          refl)
          ∙ (λ i. Some (record { version = Two; generation = generation_again i; size = size_again below i; settings = s }))

      pub header_again : header_at sectors bytes ≡ Some (record { version = Two; generation = generation; size = size; settings = s })
      header_again =
          behind_front sectors bytes (drop 28 bytes) refl starts known (omega (arith, generation_again, low)) (omega (arith, generation_again, high))
          ∙ ap (header_with sectors bytes) behind ∙ settings_there

-- ## The snapshot

module _ (header : Header) (snapshot : Snapshot) (rest : List ℕ) (size : header.size ≡ length (snapshot_text snapshot)) (new : header.version ≡ Two) where
  abbrev snapshot_bytes : List ℕ
  snapshot_bytes = padded (snapshot_text snapshot) ++ rest

  joined : snapshot_bytes ≡ snapshot_text snapshot ++ (filling (snapshot_text snapshot) ++ rest)
  joined = append_assoc (snapshot_text snapshot) (filling (snapshot_text snapshot)) rest

  told : take header.size snapshot_bytes ≡ snapshot_text snapshot
  told = (λ i. take (size i) (joined i)) ∙ take_at (snapshot_text snapshot) (filling (snapshot_text snapshot) ++ rest) (length (snapshot_text snapshot)) refl

  pub snapshot_there : whole_at Two (snapshot_text snapshot) ≡ Ok snapshot → is_within header.settings snapshot ≡ true → snapshot_of header snapshot_bytes ≡ Some snapshot
  unfolding snapshot_of
  snapshot_there again within =
      (λ i. within_limits header.settings (whole_at (new i) (told i))) ∙ ap (within_limits header.settings) again ∙ cond-true _ _ _ within

-- ## No frames

no_frame : (n generation number gate : ℕ) (bytes : List ℕ) → is_open bytes ≡ false → frames_at n generation number gate bytes ≡ Ok (no_frames number gate)
unfolding frames_at
no_frame zero generation number gate bytes shut = refl
no_frame (suc n) generation number gate bytes shut = cond-false _ _ _ (and_left (is_open bytes) (nat_le 1536 (length bytes)) shut)

shut_front : (n : ℕ) (bytes : List ℕ) → is_open bytes ≡ false → is_open (take n bytes) ≡ false
shut_front zero bytes shut = refl
shut_front (suc n) [] shut = shut
shut_front (suc n) (b ∷ bytes) shut = shut

-- behind a closed gate an area has none
pub no_frames_there : (area : Area) (image : List ℕ) → is_open (drop (512 * area.start) image) ≡ false → frames_in area image ≡ Ok (no_frames area.number area.start)
unfolding frames_in
no_frames_there area image shut =
    no_frame (area.end - area.start) area.generation area.number area.start (area_bytes area image)
    (shut_front (512 * (area.end - area.start)) (drop (512 * area.start) image) shut)
