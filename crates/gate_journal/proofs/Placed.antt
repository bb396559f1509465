-- What images hold in an area before and after a frame.
use Rattle.std.proofs.Common.{◌≡◌, ⊎_elim, ℕ, ◌+◌, ◌-◌, ◌*◌, ◌≤◌, true, false, ◌==◌, nat_le, List, ◌++◌, length, take, drop, Ok, refl, sym, ◌∙◌, ap, arith, length-append, length-drop, append_assoc}
use Rattle.std.proofs.lemmas.Bool.{and_cases, leb-false}
use Rattle.std.proofs.lemmas.List.{take-take, drop_at, drop-take, drop-drop, get_or-take, get_or_append_left, length-take-le}
use Rattle.std.proofs.Math.Seq.{take-append-add}
use Rattle.invoke_records.specs.declared.command.Command.{Command}
use Rattle.invoke_records.specs.Spelling.{commands_text}
use Rattle.sector_disk.specs.Disk.{MayDiffer}
use Rattle.sector_disk.specs.laws.Written.{same_part}
use Rattle.gate_journal.specs.declared.area.Area.{Area}
use Rattle.gate_journal.specs.Frames.{Frames, head_of, is_open, body_sectors, body_at, frame_size, frames_at, area_bytes, frames_in, frames_with, SameOutside}
use Rattle.gate_journal.proofs.Parts.{front_of}
use Rattle.gate_journal.proofs.Frames.{Ends, ends, before, after}
use Rattle.gate_journal.proofs.Written.{IsSpelled}

-- what differs within an area is the same outside it
pub outside : (area : Area) (at n : ℕ) (old new : List ℕ) → MayDiffer at n old new → 512 * area.start ≤ at → at + n ≤ 512 * area.end → SameOutside area old new
outside area at n old new differ low high =
    let rest = 512 * area.end - (at + n) in
    let reaches : at + n + rest ≡ 512 * area.end = omega arith in
    record {
      size = differ.size;
      front = front_of at (512 * area.start) new old differ.before low;
      behind = ap (λ (k : ℕ). drop k new) (sym reaches) ∙ sym (drop-drop rest (at + n) new) ∙ ap (λ (l : List ℕ). drop rest l) differ.after ∙ drop-drop rest (at + n) old
          ∙ ap (λ (k : ℕ). drop k old) reaches;
    }

pub outside_twice : (area : Area) (a b c : List ℕ) → SameOutside area a b → SameOutside area b c → SameOutside area a c
outside_twice area a b c first second = record {
  size = second.size ∙ first.size;
  front = second.front ∙ first.front;
  behind = second.behind ∙ first.behind;
}

pub in_area : (area : Area) (image : List ℕ) → frames_in area image ≡ frames_at (area.end - area.start) area.generation area.number area.start (area_bytes area image)
unfolding frames_in
in_area area image = refl

-- an area that holds these frames, with room for a frame of these commands
module _ (area : Area) (content : List ℕ) (frames : Frames) (reads : frames_in area content ≡ Ok frames) (inside : 512 * area.end ≤ length content) (commands : List Command) (text : List ℕ)
    (spelled : IsSpelled area.generation frames.number commands text) (room : frames.next + body_sectors (length (commands_text commands)) + 2 ≤ area.end) where
  abbrev sectors : ℕ
  sectors = body_sectors (length (commands_text commands))

  abbrev here : Ends (area.end - area.start) area.generation area.number area.start (area_bytes area content) frames
  here = ends (area.end - area.start) area.generation area.number area.start (area_bytes area content) frames (sym (in_area area content) ∙ reads)

  pub place : area.start ≤ frames.next
  place = here.place

  three : frames.next + 3 ≤ area.end
  three = omega (arith, room)

  size_of : (c : List ℕ) → length c ≡ length content → length (area_bytes area c) ≡ 512 * (area.end - area.start)
  size_of c size = length-take-le (512 * (area.end - area.start)) (drop (512 * area.start) c) (omega (arith, length-drop (512 * area.start) c, inside, size))

  front_in : (c : List ℕ) → take (512 * frames.next) c ≡ take (512 * frames.next) content → take (512 * (frames.next - area.start)) (area_bytes area c) ≡ take (512 * (frames.next - area.start)) (area_bytes area content)
  front_in c front =
      take-take (512 * (frames.next - area.start)) (512 * (area.end - area.start)) (drop (512 * area.start) c) (omega (arith, three))
      ∙ same_part (512 * frames.next) (512 * area.start) (512 * (frames.next - area.start)) c content front (omega (arith, place))
      ∙ sym (take-take (512 * (frames.next - area.start)) (512 * (area.end - area.start)) (drop (512 * area.start) content) (omega (arith, three)))

  behind_in : (c : List ℕ) → drop (512 * (frames.next - area.start)) (area_bytes area c) ≡ take (512 * (area.end - frames.next)) (drop (512 * frames.next) c)
  behind_in c =
      let all : 512 * (area.end - area.start) ≡ 512 * (frames.next - area.start) + 512 * (area.end - frames.next) = omega (arith, place, three) in
      let there : 512 * area.start + 512 * (frames.next - area.start) ≡ 512 * frames.next = omega (arith, place) in
      ap (λ (k : ℕ). drop (512 * (frames.next - area.start)) (take k (drop (512 * area.start) c))) all
      ∙ drop-take (512 * (frames.next - area.start)) (512 * (area.end - frames.next)) (drop (512 * area.start) c)
      ∙ ap (λ (l : List ℕ). take (512 * (area.end - frames.next)) l) (drop-drop (512 * (frames.next - area.start)) (512 * area.start) c ∙ ap (λ (k : ℕ). drop k c) there)

  gate_in : (c : List ℕ) → is_open (drop (512 * (frames.next - area.start)) (area_bytes area c)) ≡ is_open (drop (512 * frames.next) c)
  gate_in c = ap is_open (behind_in c) ∙ ap (λ (b : ℕ). b == 1) (get_or-take (512 * (area.end - frames.next)) (drop (512 * frames.next) c) 0 0 (omega (arith, three)))

  -- the gate behind the last frame is closed
  pub closed : is_open (drop (512 * frames.next) content) ≡ false
  closed =
      let behind = drop (512 * (frames.next - area.start)) (area_bytes area content) in
      let long : 1536 ≤ length behind = omega (arith, length-drop (512 * (frames.next - area.start)) (area_bytes area content), size_of content refl, three, place) in
      sym (gate_in content) ∙ ⊎_elim {C = is_open behind ≡ false} (λ none. absurd (omega (arith, here.fuel, none, three)))
      (λ stop. ⊎_elim {C = is_open behind ≡ false} (λ shut. shut) (λ short. absurd (omega (arith, leb-false 1536 (length behind) short, long))) (and_cases (is_open behind) (nat_le 1536 (length behind)) stop))
      here.stops

  -- an image with the same front
  module _ (c : List ℕ) (size : length c ≡ length content) (front : take (512 * frames.next) c ≡ take (512 * frames.next) content) where
    same_size : length (area_bytes area c) ≡ length (area_bytes area content)
    same_size = size_of c size ∙ sym (size_of content refl)

    pub reads_before : is_open (drop (512 * frames.next) c) ≡ false → frames_in area c ≡ Ok frames
    reads_before shut =
        in_area area c
        ∙ before (area.end - area.start) area.generation area.number area.start (area_bytes area content) frames here (area_bytes area c) same_size (front_in c front) (gate_in c ∙ shut)

    -- and with the body and a closed gate behind the gate
    module _ (gate rest : List ℕ) (whole : length gate ≡ 512) (shut : is_open gate ≡ false) (is : drop (512 * frames.next + 512) c ≡ (text ++ gate) ++ rest) where
      abbrev left : ℕ
      left = 512 * (area.end - frames.next) - 512 - length text

      abbrev behind_area : List ℕ
      behind_area = drop (512 * (frames.next - area.start)) (area_bytes area c)

      left_is : 512 ≤ left
      left_is = omega (arith, room, spelled.size)

      body_there : drop 512 behind_area ≡ text ++ take left (gate ++ rest)
      body_there =
          let all : 512 * (area.end - frames.next) ≡ 512 + (length text + left) = omega (arith, room, spelled.size) in
          ap (λ (l : List ℕ). drop 512 l) (behind_in c)
          ∙ ap (λ (k : ℕ). drop 512 (take k (drop (512 * frames.next) c))) all
          ∙ drop-take 512 (length text + left) (drop (512 * frames.next) c)
          ∙ ap (λ (l : List ℕ). take (length text + left) l) (drop-drop 512 (512 * frames.next) c ∙ is ∙ append_assoc text gate rest)
          ∙ take-append-add text (gate ++ rest) left

      more_size : length (take left (gate ++ rest)) ≡ left
      more_size = length-take-le left (gate ++ rest)
          (omega (arith, ap length is, length-drop (512 * frames.next + 512) c, length-append (text ++ gate) rest, length-append text gate, length-append gate rest, size, inside, room, spelled.size))

      head_there : (head_of (drop 512 behind_area)).size ≡ length (commands_text commands)
      head_there = ap (λ (l : List ℕ). (head_of l).size) body_there ∙ spelled.head (take left (gate ++ rest))

      last_there : is_open (drop (frame_size behind_area) behind_area) ≡ false
      last_there =
          let size_there : frame_size behind_area ≡ 512 + length text = ap (λ (s : ℕ). 512 + 512 * body_sectors s) head_there ∙ omega (arith, spelled.size) in
          ap (λ (k : ℕ). is_open (drop k behind_area)) size_there ∙ ap is_open (sym (drop-drop (length text) 512 behind_area))
          ∙ ap (λ (l : List ℕ). is_open (drop (length text) l)) body_there
          ∙ ap is_open (drop_at text (take left (gate ++ rest)) (length text) refl)
          ∙ ap (λ (b : ℕ). b == 1) (get_or-take left (gate ++ rest) 0 0 (omega (arith, left_is)) ∙ get_or_append_left gate rest 0 0 (omega (arith, whole))) ∙ shut

      pub reads_after : is_open (drop (512 * frames.next) c) ≡ true → frames_in area c ≡ Ok (frames_with frames commands)
      reads_after open_gate =
          in_area area c
          ∙ after (area.end - area.start) area.generation area.number area.start (area_bytes area content) frames here (area_bytes area c) same_size (front_in c front) commands
          (omega (arith, three, place)) (gate_in c ∙ open_gate)
          (ap (λ (l : List ℕ). body_at area.generation frames.number l) body_there ∙ spelled.reads (take left (gate ++ rest)) (omega (arith, more_size, left_is)))
          head_there last_there
