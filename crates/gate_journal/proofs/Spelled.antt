-- What is read of an area as it is written.
use Rattle.std.proofs.Common.{◌≡◌, inl, inr, ℕ, zero, suc, ◌+◌, ◌-◌, ◌*◌, ◌/◌, ◌^◌, ◌<◌, ◌≤◌, ◌==◌, true, false, List, [], ◌∷◌, ◌++◌, length, length-append, take, drop, take-append-drop, subst, Option, Some, Ok, refl, sym, ◌∙◌, ap, arith}
use Rattle.std.specs.Prelude.{nat_le}
use Rattle.std.proofs.lemmas.Bool.{cases_Bool, and_from, and_parts, le-leb, leb-true}
use Rattle.std.proofs.lemmas.List.{drop_at, drop-drop, get_or-take, get_or_append_left, length-take-le}
use Rattle.invoke_records.specs.declared.command.Command.{Command}
use Rattle.invoke_records.specs.Spelling.{IsBytes, commands_text}
use Rattle.invoke_records.specs.laws.Commands.{command_again}
use Rattle.gate_journal.specs.Frames.{Frames, head_of, is_open, body_text, body_sectors, body_at, goes_on, frame_size, behind_gate, with_first, from_body, no_frames, frames_at}
use Rattle.gate_journal.specs.Written.{IsFrame, IsArea, frames_of}
use Rattle.gate_journal.proofs.Frames.{rest_read, frames-none, frames-zero, frames-more, with_ok, body_ok}
use Rattle.gate_journal.proofs.Next.{short}
use Rattle.gate_journal.proofs.Taken.{body_taken, IsBytes-drop}
use Rattle.gate_journal.proofs.Written.{IsSpelled, spelled, body_length}

-- one frame
module _ (g m gate : ℕ) (batch : List Command) (bytes rest : List ℕ) (frame : IsFrame g m batch bytes rest) (g_fits : g < 2 ^ 64) where
  text_is : IsSpelled g m batch (body_text g m batch)
  text_is = spelled command_again g m batch frame.commands g_fits frame.numbers frame.count frame.size

  long : length bytes ≡ 512 + (512 * body_sectors (length (commands_text batch)) + length rest)
  long = ap length frame.is
      ∙ omega (arith, length-append frame.gate (body_text g m batch ++ rest), length-append (body_text g m batch) rest, frame.sector, body_length g m batch)

  pub more : goes_on bytes ≡ true
  more =
      and_from (is_open bytes) (nat_le 1536 (length bytes))
      (ap is_open frame.is ∙ ap (λ (b : ℕ). b == 1) (get_or_append_left frame.gate (body_text g m batch ++ rest) 0 0 (omega (arith, frame.sector))) ∙ frame.opened)
      (le-leb 1536 (length bytes) (omega (arith, long, frame.room)))

  behind : drop 512 bytes ≡ body_text g m batch ++ rest
  behind = ap (drop 512) frame.is ∙ drop_at frame.gate (body_text g m batch ++ rest) 512 frame.sector

  pub body_is_read : body_at g m (drop 512 bytes) ≡ Some batch
  body_is_read = ap (body_at g m) behind ∙ text_is.reads rest frame.room

  pub whole_frame : frame_size bytes ≡ 512 + 512 * body_sectors (length (commands_text batch))
  whole_frame = ap (λ (l : List ℕ). 512 + 512 * body_sectors (head_of l).size) behind ∙ ap (λ (s : ℕ). 512 + 512 * body_sectors s) (text_is.head rest)

  pub rest_is : drop (frame_size bytes) bytes ≡ rest
  rest_is =
      ap (λ (k : ℕ). drop k bytes) whole_frame ∙ sym (drop-drop (512 * body_sectors (length (commands_text batch))) 512 bytes)
      ∙ ap (drop (512 * body_sectors (length (commands_text batch)))) behind ∙ drop_at (body_text g m batch) rest (512 * body_sectors (length (commands_text batch))) (body_length g m batch)

  pub next_is : gate + frame_size bytes / 512 ≡ gate + 1 + body_sectors (length (commands_text batch))
  next_is = omega (arith, whole_frame)

  pub shorter : (n : ℕ) → length bytes ≤ 512 * n → (n ≡ suc (n - 1)) × (length rest ≤ 512 * (n - 1))
  shorter n few = (omega (arith, long), omega (arith, long))

frames_of-more : (gate m : ℕ) (batch : List Command) (batches : List (List Command)) → Ok (frames_of gate m (batch ∷ batches))
    ≡ with_first (behind_gate gate batch) (Ok (frames_of (gate + 1 + body_sectors (length (commands_text batch))) (m + length batch) batches))
unfolding frames_of
frames_of-more gate m batch batches = refl

pub area_is_read : (g m gate n : ℕ) (batches : List (List Command)) (bytes : List ℕ) → g < 2 ^ 64 → length bytes ≤ 512 * n → IsArea g m batches bytes
    → frames_at n g m gate bytes ≡ Ok (frames_of gate m batches)
unfolding IsArea frames_of
area_is_read g m gate n [] bytes g_fits few is = frames-none n g m gate bytes is
area_is_read g m gate n (batch ∷ batches) bytes g_fits few is =
    let rest = is.0 in
    let frame = is.1 in
    let left = shorter g m gate batch bytes rest frame g_fits n few in
    let later = area_is_read g (m + length batch) (gate + 1 + body_sectors (length (commands_text batch))) (n - 1) batches rest g_fits left.1 is.2 in
    ap (λ (k : ℕ). frames_at k g m gate bytes) left.0
    ∙ frames-more (n - 1) g m gate bytes (more g m gate batch bytes rest frame g_fits)
    ∙ ap (λ (o : Option (List Command)). from_body gate o (rest_read (n - 1) g m gate bytes)) (body_is_read g m gate batch bytes rest frame g_fits)
    ∙ ap (with_first (behind_gate gate batch))
    ((λ i. frames_at (n - 1) g (m + length batch) (next_is g m gate batch bytes rest frame g_fits i) (rest_is g m gate batch bytes rest frame g_fits i)) ∙ later)

-- the area behind each frame
written_none : (g m gate : ℕ) (bytes : List ℕ) (frames : Frames) → goes_on bytes ≡ false → no_frames m gate ≡ frames → (batches : List (List Command)) × IsArea g m batches bytes × (frames ≡ frames_of gate m batches)
unfolding IsArea frames_of
written_none g m gate bytes frames stop is = ([], stop, sym is)

written_more : (g m gate : ℕ) (bytes : List ℕ) (batch : List Command) (rest : List ℕ) (frames later : Frames) → IsFrame g m batch bytes rest
    → record later { commands = behind_gate gate batch ++ later.commands } ≡ frames
    → (others : (batches : List (List Command)) × IsArea g (m + length batch) batches rest
    × (later ≡ frames_of (gate + 1 + body_sectors (length (commands_text batch))) (m + length batch) batches))
    → (batches : List (List Command)) × IsArea g m batches bytes × (frames ≡ frames_of gate m batches)
unfolding IsArea frames_of
written_more g m gate bytes batch rest frames later frame is others =
    (batch ∷ others.0, (rest, frame, others.1), sym is ∙ ap (λ (f : Frames). record f { commands = behind_gate gate batch ++ f.commands }) others.2)

pub area_is_written : (n g m gate : ℕ) (bytes : List ℕ) (frames : Frames) → g < 2 ^ 64 → IsBytes bytes → length bytes ≤ 512 * n → frames_at n g m gate bytes ≡ Ok frames
    → (batches : List (List Command)) × IsArea g m batches bytes × (frames ≡ frames_of gate m batches)
area_is_written zero g m gate bytes frames g_fits fits few is =
    let none : no_frames m gate ≡ frames = let e : Ok (no_frames m gate) ≡ Ok frames = sym (frames-zero g m gate bytes) ∙ is in cc in
    written_none g m gate bytes frames (short bytes (omega arith)) none
area_is_written (suc n) g m gate bytes frames g_fits fits few is = elim (cases_Bool (goes_on bytes)) [
  | inl on ↦
      let found = body_ok gate (body_at g m (drop 512 bytes)) (rest_read n g m gate bytes) frames (sym (frames-more n g m gate bytes on) ∙ is) in
      let batch = found.0 in
      let later = with_ok (behind_gate gate batch) (rest_read n g m gate bytes batch) frames found.2 in
      let taken = body_taken g m (drop 512 bytes) batch (IsBytes-drop 512 bytes fits) found.1 in
      let tests = and_parts (is_open bytes) (nat_le 1536 (length bytes)) on in
      let long : 1536 ≤ length bytes = leb-true 1536 (length bytes) tests.1 in
      let frame : IsFrame g m batch bytes taken.behind = record {
        gate = take 512 bytes;
        sector = length-take-le 512 bytes (omega arith);
        opened = ap (λ (b : ℕ). b == 1) (get_or-take 512 bytes 0 0 (omega arith)) ∙ tests.0;
        is = sym (take-append-drop 512 bytes) ∙ ap (λ (l : List ℕ). take 512 bytes ++ l) taken.is;
        commands = taken.good;
        room = taken.room;
        numbers = taken.numbers;
        count = taken.count;
        size = taken.size;
      } in
      let behind = rest_is g m gate batch bytes taken.behind frame g_fits in
      let next = next_is g m gate batch bytes taken.behind frame g_fits in
      let fewer : length taken.behind ≤ 512 * n = omega (arith, (shorter g m gate batch bytes taken.behind frame g_fits (suc n) few).1) in
      let read : frames_at n g (m + length batch) (gate + 1 + body_sectors (length (commands_text batch))) taken.behind ≡ Ok later.0 =
      sym (λ i. frames_at n g (m + length batch) (next i) (behind i)) ∙ later.1 in
      written_more g m gate bytes batch taken.behind frames later.0 frame later.2
      (area_is_written n g (m + length batch) (gate + 1 + body_sectors (length (commands_text batch))) taken.behind later.0 g_fits
      (subst IsBytes behind (IsBytes-drop (frame_size bytes) bytes fits)) fewer read)
  | inr stop ↦
      let none : no_frames m gate ≡ frames = let e : Ok (no_frames m gate) ≡ Ok frames = sym (frames-none (suc n) g m gate bytes stop) ∙ is in cc in
      written_none g m gate bytes frames stop none
]
