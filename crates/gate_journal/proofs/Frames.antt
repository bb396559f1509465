-- What is read behind the frames of an area.
use Rattle.std.proofs.Common.{◌≡◌, ◌⊎◌, inl, inr, ℕ, zero, suc, ◌+◌, ◌-◌, ◌*◌, ◌/◌, ◌≤◌, true, false, ◌==◌, ◌&&◌, nat_le, List, [], ◌∷◌, ◌++◌, length, take, drop, get_or, Option, Some, None, Result, Ok, Err, refl, sym, ◌∙◌, ap, subst, arith, length-append, length-drop, append_assoc}
use Rattle.std.proofs.lemmas.Bool.{cases_Bool, and_parts, and_left, and_from, le-leb, leb-true, cond-true, cond-false}
use Rattle.std.proofs.lemmas.List.{append-nil, drop-drop}
use Rattle.invoke_records.specs.declared.command.Command.{Command}
use Rattle.invoke_records.specs.Spelling.{commands_text}
use Rattle.sector_disk.specs.laws.Written.{same_part}
use Rattle.gate_journal.specs.Frames.{Frames, Head, head_of, is_open, body_sectors, body_at, behind_gate, with_first, goes_on, frame_size, from_body, no_frames, frames_at, frames_with}
use Rattle.gate_journal.proofs.Parts.{byte}
use Rattle.gate_journal.proofs.Bodies.{head_same, body_same, body_facts}

-- what is read behind the first gate
abbrev pub rest_read : ℕ → ℕ → ℕ → ℕ → List ℕ → List Command → Result Frames ℕ
rest_read n g m gate bytes commands = frames_at n g (m + length commands) (gate + frame_size bytes / 512) (drop (frame_size bytes) bytes)

pub frames-none : (n g m gate : ℕ) (bytes : List ℕ) → goes_on bytes ≡ false → frames_at n g m gate bytes ≡ Ok (no_frames m gate)
unfolding frames_at
frames-none zero g m gate bytes stop = refl
frames-none (suc n) g m gate bytes stop = cond-false (goes_on bytes) _ _ stop

pub frames-zero : (g m gate : ℕ) (bytes : List ℕ) → frames_at 0 g m gate bytes ≡ Ok (no_frames m gate)
unfolding frames_at
frames-zero g m gate bytes = refl

pub frames-more : (n g m gate : ℕ) (bytes : List ℕ) → goes_on bytes ≡ true
    → frames_at (suc n) g m gate bytes ≡ from_body gate (body_at g m (drop 512 bytes)) (rest_read n g m gate bytes)
unfolding frames_at
frames-more n g m gate bytes more = cond-true (goes_on bytes) _ _ more

pub with_first-with_first : (xs ys : List (ℕ × Command)) (r : Result Frames ℕ) → with_first xs (with_first ys r) ≡ with_first (xs ++ ys) r
with_first-with_first xs ys (Ok frames) = ap (λ (l : List (ℕ × Command)). Ok (record frames { commands = l })) (sym (append_assoc xs ys frames.commands))
with_first-with_first xs ys (Err sector) = refl

pub with_first-none : (frames : Frames) → with_first frames.commands (Ok (no_frames frames.number frames.next)) ≡ Ok frames
with_first-none frames = ap (λ (l : List (ℕ × Command)). Ok (record frames { commands = l })) (append-nil frames.commands)

with_first-nil : (r : Result Frames ℕ) → with_first [] r ≡ r
with_first-nil (Ok frames) = refl
with_first-nil (Err sector) = refl

pub length-behind_gate : (gate : ℕ) (commands : List Command) → length (behind_gate gate commands) ≡ length commands
length-behind_gate gate [] = refl
length-behind_gate gate (c ∷ commands) = ap suc (length-behind_gate gate commands)

pub with_ok : (xs : List (ℕ × Command)) (r : Result Frames ℕ) (frames : Frames) → with_first xs r ≡ Ok frames
    → (rest : Frames) × (r ≡ Ok rest) × (record rest { commands = xs ++ rest.commands } ≡ frames)
with_ok xs (Ok rest) frames is = (rest, refl, cc)
with_ok xs (Err sector) frames is = absurd (cc)

pub body_ok : (gate : ℕ) (o : Option (List Command)) (f : List Command → Result Frames ℕ) (frames : Frames) → from_body gate o f ≡ Ok frames
    → (commands : List Command) × (o ≡ Some commands) × (with_first (behind_gate gate commands) (f commands) ≡ Ok frames)
body_ok gate (Some commands) f frames is = (commands, refl, is)
body_ok gate None f frames is = absurd (cc)

-- where the frames of these bytes end, and what is read there in other bytes with one front
pub record Ends (n g m gate : ℕ) (area : List ℕ) (frames : Frames) : Type 0 where
  pub left : ℕ
  pub fuel : n + gate ≤ left + frames.next
  pub place : gate ≤ frames.next
  pub within : 512 * frames.next ≤ 512 * gate + length area
  pub number : frames.number ≡ m + length frames.commands
  pub stops : (left ≡ 0) ⊎ (goes_on (drop (512 * (frames.next - gate)) area) ≡ false)
  pub reads : (c : List ℕ) → length c ≡ length area → take (512 * (frames.next - gate)) c ≡ take (512 * (frames.next - gate)) area
      → frames_at n g m gate c ≡ with_first frames.commands (frames_at left g frames.number frames.next (drop (512 * (frames.next - gate)) c))

-- none at all
ends-none : (n g m gate : ℕ) (area : List ℕ) → (n ≡ 0) ⊎ (goes_on area ≡ false) → Ends n g m gate area (no_frames m gate)
ends-none n g m gate area stop =
    let here : 512 * (gate - gate) ≡ 0 = omega arith in
    record {
      left = n;
      fuel = omega arith;
      place = omega arith;
      within = omega arith;
      number = omega arith;
      stops = subst (λ (k : ℕ). (n ≡ 0) ⊎ (goes_on (drop k area) ≡ false)) (sym here) stop;
      reads = λ c size front. ap (λ (k : ℕ). frames_at n g m gate (drop k c)) (sym here) ∙ sym (with_first-nil (frames_at n g m gate (drop (512 * (gate - gate)) c)));
    }

-- one more in front
module _ (n g m gate : ℕ) (area : List ℕ) (more : goes_on area ≡ true) (commands : List Command) (body : body_at g m (drop 512 area) ≡ Some commands) (later : Frames)
    (ends : Ends n g (m + length commands) (gate + frame_size area / 512) (drop (frame_size area) area) later) where
  abbrev found : Frames
  found = record later { commands = behind_gate gate commands ++ later.commands }

  abbrev size : ℕ
  size = frame_size area

  sectors : size ≡ 512 * (1 + body_sectors (head_of (drop 512 area)).size)
  sectors = omega arith

  long : 1536 ≤ length area
  long = leb-true _ _ (and_parts (is_open area) (nat_le 1536 (length area)) more).1

  inside : size + 512 ≤ length area
  inside = omega (arith, (body_facts g m (drop 512 area) commands body).room, length-drop 512 area, long)

  span : 512 * (later.next - gate) ≡ size + 512 * (later.next - (gate + size / 512))
  span = omega (arith, ends.place, sectors)

  module _ (c : List ℕ) (same_size : length c ≡ length area) (front : take (512 * (later.next - gate)) c ≡ take (512 * (later.next - gate)) area) where
    more_c : goes_on c ≡ true
    more_c =
        let first : get_or c 0 0 ≡ get_or area 0 0 = byte (512 * (later.next - gate)) 0 c area front (omega (arith, span, sectors)) in
        (λ i. (first i == 1) && nat_le 1536 (same_size i)) ∙ more

    head_c : head_of (drop 512 c) ≡ head_of (drop 512 area)
    head_c = head_same (drop 512 c) (drop 512 area) (same_part (512 * (later.next - gate)) 512 32 c area front (omega (arith, span, sectors)))

    size_c : frame_size c ≡ size
    size_c = ap (λ (h : Head). 512 + 512 * body_sectors h.size) head_c

    body_c : body_at g m (drop 512 c) ≡ Some commands
    body_c =
        body_same g m (drop 512 area) (drop 512 c) (length-drop 512 c ∙ ap (λ (k : ℕ). k - 512) same_size ∙ sym (length-drop 512 area))
        (same_part (512 * (later.next - gate)) 512 (512 * body_sectors (head_of (drop 512 area)).size) c area front (omega (arith, span, sectors)))
        ∙ body

    rest_c : rest_read n g m gate c commands ≡ with_first later.commands (frames_at ends.left g later.number later.next (drop (512 * (later.next - gate)) c))
    rest_c =
        ap (λ (s : ℕ). frames_at n g (m + length commands) (gate + s / 512) (drop s c)) size_c
        ∙ ends.reads (drop size c) (length-drop size c ∙ ap (λ (k : ℕ). k - size) same_size ∙ sym (length-drop size area))
        (same_part (512 * (later.next - gate)) size (512 * (later.next - (gate + size / 512))) c area front (omega (arith, span)))
        ∙ ap (λ (l : List ℕ). with_first later.commands (frames_at ends.left g later.number later.next l))
        (drop-drop (512 * (later.next - (gate + size / 512))) size c ∙ ap (λ (k : ℕ). drop k c) (sym span))

    reads_c : frames_at (suc n) g m gate c ≡ with_first found.commands (frames_at ends.left g later.number later.next (drop (512 * (later.next - gate)) c))
    reads_c =
        frames-more n g m gate c more_c ∙ ap (λ (o : Option (List Command)). from_body gate o (rest_read n g m gate c)) body_c
        ∙ ap (λ (r : Result Frames ℕ). with_first (behind_gate gate commands) r) rest_c
        ∙ with_first-with_first (behind_gate gate commands) later.commands (frames_at ends.left g later.number later.next (drop (512 * (later.next - gate)) c))

  ends-more : Ends (suc n) g m gate area found
  ends-more = record {
    left = ends.left;
    fuel = omega (arith, ends.fuel, sectors);
    place = omega (arith, ends.place);
    within = omega (arith, ends.within, ends.place, sectors, inside, length-drop size area);
    number = omega (arith, ends.number, length-append (behind_gate gate commands) later.commands, length-behind_gate gate commands);
    stops = subst (λ (l : List ℕ). (ends.left ≡ 0) ⊎ (goes_on l ≡ false)) (drop-drop (512 * (later.next - (gate + size / 512))) size area ∙ ap (λ (k : ℕ). drop k area) (sym span)) ends.stops;
    reads = reads_c;
  }

pub ends : (n g m gate : ℕ) (area : List ℕ) (frames : Frames) → frames_at n g m gate area ≡ Ok frames → Ends n g m gate area frames
ends zero g m gate area frames is =
    let none : no_frames m gate ≡ frames = let e : Ok (no_frames m gate) ≡ Ok frames = sym (frames-zero g m gate area) ∙ is in cc in
    subst (λ (f : Frames). Ends 0 g m gate area f) none (ends-none 0 g m gate area (inl refl))
ends (suc n) g m gate area frames is = elim (cases_Bool (goes_on area)) [
  | inl more ↦
      let found = body_ok gate (body_at g m (drop 512 area)) (rest_read n g m gate area) frames (sym (frames-more n g m gate area more) ∙ is) in
      let later = with_ok (behind_gate gate found.0) (rest_read n g m gate area found.0) frames found.2 in
      subst (λ (f : Frames). Ends (suc n) g m gate area f) later.2
      (ends-more n g m gate area more found.0 found.1 later.0
      (ends n g (m + length found.0) (gate + frame_size area / 512) (drop (frame_size area) area) later.0 later.1))
  | inr stop ↦
      let none : no_frames m gate ≡ frames = let e : Ok (no_frames m gate) ≡ Ok frames = sym (frames-none (suc n) g m gate area stop) ∙ is in cc in
      subst (λ (f : Frames). Ends (suc n) g m gate area f) none (ends-none (suc n) g m gate area (inr stop))
]

-- other bytes with the front of these frames
module _ (n g m gate : ℕ) (area : List ℕ) (frames : Frames) (at : Ends n g m gate area frames) (c : List ℕ) (size : length c ≡ length area)
    (front : take (512 * (frames.next - gate)) c ≡ take (512 * (frames.next - gate)) area) where
  abbrev behind : List ℕ
  behind = drop (512 * (frames.next - gate)) c

  -- behind a closed gate nothing counts
  pub before : is_open behind ≡ false → frames_at n g m gate c ≡ Ok frames
  before shut =
      at.reads c size front
      ∙ ap (λ (r : Result Frames ℕ). with_first frames.commands r)
      (frames-none at.left g frames.number frames.next behind (and_left (is_open behind) (nat_le 1536 (length behind)) shut))
      ∙ with_first-none frames

  -- behind an open one a body does, up to the closed gate after it
  pub after : (commands : List Command) → frames.next + 3 ≤ n + gate → is_open behind ≡ true → body_at g frames.number (drop 512 behind) ≡ Some commands
      → (head_of (drop 512 behind)).size ≡ length (commands_text commands) → is_open (drop (frame_size behind) behind) ≡ false
      → frames_at n g m gate c ≡ Ok (frames_with frames commands)
  after commands room open_gate body head shut =
      let one_left : at.left ≡ suc (at.left - 1) = omega (arith, at.fuel) in
      let long : 1536 ≤ length behind = omega (arith, (body_facts g frames.number (drop 512 behind) commands body).room, length-drop 512 behind) in
      let more : goes_on behind ≡ true = and_from (is_open behind) (nat_le 1536 (length behind)) open_gate (le-leb 1536 (length behind) long) in
      let last = drop (frame_size behind) behind in
      let stop : goes_on last ≡ false = and_left (is_open last) (nat_le 1536 (length last)) shut in
      let place : frames.next + frame_size behind / 512 ≡ frames.next + 1 + body_sectors (length (commands_text commands)) =
      ap (λ (s : ℕ). frames.next + (512 + 512 * body_sectors s) / 512) head ∙ omega arith in
      at.reads c size front
      ∙ ap (λ (k : ℕ). with_first frames.commands (frames_at k g frames.number frames.next behind)) one_left
      ∙ ap (λ (r : Result Frames ℕ). with_first frames.commands r)
      (frames-more (at.left - 1) g frames.number frames.next behind more
      ∙ ap (λ (o : Option (List Command)). from_body frames.next o (rest_read (at.left - 1) g frames.number frames.next behind)) body
      ∙ ap (λ (r : Result Frames ℕ). with_first (behind_gate frames.next commands) r)
      (frames-none (at.left - 1) g (frames.number + length commands) (frames.next + frame_size behind / 512) last stop))
      ∙ (λ i. Ok (record {
        commands = frames.commands ++ append-nil (behind_gate frames.next commands) i;
        next = place i;
        number = frames.number + length commands;
      }))
