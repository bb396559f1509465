-- The first frame of an area, and what is left behind it.
use Rattle.std.proofs.Common.{◌≡◌, inl, inr, ℕ, zero, suc, ◌+◌, ◌-◌, ◌*◌, ◌/◌, ◌<◌, ◌≤◌, true, false, ◌==◌, ◌&&◌, nat_le, List, ◌++◌, length, take, drop, Option, Some, None, Ok, Err, refl, sym, ◌∙◌, ap, arith, length-drop}
use Rattle.std.specs.List.{list_all}
use Rattle.std.proofs.lemmas.Bool.{cases_Bool, and_from, and_left, and_right, le-leb, lt-leb, cond-true, cond-false}
use Rattle.std.proofs.lemmas.List.{drop-take, drop-drop, take-take, get_or-take, length-take-le}
use Rattle.invoke_records.specs.declared.command.Command.{Command}
use Rattle.gate_journal.specs.declared.area.Area.{Area}
use Rattle.gate_journal.specs.Frames.{Head, head_of, is_open, is_head, body_sectors, body_at, commands_at, whole, behind_gate, with_first, goes_on, frame_size, from_body, no_frames, frames_at, area_bytes, frames_in}
use Rattle.gate_journal.specs.declared.head.Head.{Head as ReadHead}
use Rattle.gate_journal.specs.Steps.{head_fields}
use Rattle.gate_journal.proofs.Parts.{take-add}
use Rattle.gate_journal.proofs.Bodies.{head_same, body_is, padding_of, body_facts}
use Rattle.gate_journal.proofs.Frames.{rest_read, frames-none, frames-zero, frames-more}
use Rattle.gate_journal.proofs.Placed.{in_area}

pub short : (bytes : List ℕ) → length bytes < 1536 → goes_on bytes ≡ false
short bytes few = and_right (is_open bytes) (nat_le 1536 (length bytes)) (lt-leb 1536 (length bytes) few)

-- of any number that the bytes have room for there are as many frames
pub frames_enough : (n k g m gate : ℕ) (bytes : List ℕ) → length bytes ≤ 512 * n → length bytes ≤ 512 * k → frames_at n g m gate bytes ≡ frames_at k g m gate bytes
frames_enough zero k g m gate bytes less lesser = frames-zero g m gate bytes ∙ sym (frames-none k g m gate bytes (short bytes (omega arith)))
frames_enough (suc n) zero g m gate bytes less lesser = frames-none (suc n) g m gate bytes (short bytes (omega arith)) ∙ sym (frames-zero g m gate bytes)
frames_enough (suc n) (suc k) g m gate bytes less lesser =
    let behind = drop (frame_size bytes) bytes in
    let fewer : length behind ≤ 512 * n = omega (arith, length-drop (frame_size bytes) bytes) in
    let fewer_k : length behind ≤ 512 * k = omega (arith, length-drop (frame_size bytes) bytes) in
    let same = λ (commands : List Command). frames_enough n k g (m + length commands) (gate + frame_size bytes / 512) behind fewer fewer_k in
    let at_body : (o : Option (List Command)) → from_body gate o (rest_read n g m gate bytes) ≡ from_body gate o (rest_read k g m gate bytes) = λ o.
    elim o as (λ x. from_body gate x (rest_read n g m gate bytes) ≡ from_body gate x (rest_read k g m gate bytes)) [
      | None ↦ refl
      | Some commands ↦ ap (with_first (behind_gate gate commands)) (same commands)
    ] in
    elim (cases_Bool (goes_on bytes)) [
      | inl more ↦ frames-more n g m gate bytes more ∙ at_body (body_at g m (drop 512 bytes)) ∙ sym (frames-more k g m gate bytes more)
      | inr stop ↦ frames-none (suc n) g m gate bytes stop ∙ sym (frames-none (suc k) g m gate bytes stop)
    ]

-- what is read of a body from its sectors
module _ (g m : ℕ) (b sectors : List ℕ) (head : is_head g m (length b) (head_of b) ≡ true) (is : sectors ≡ take (512 * body_sectors (head_of b).size) b) where
  abbrev s : ℕ
  s = (head_of b).size

  text_there : take s (drop 32 sectors) ≡ take s (drop 32 b)
  text_there =
      let all : 512 * body_sectors s ≡ 32 + (512 * body_sectors s - 32) = omega arith in
      ap (λ (l : List ℕ). take s (drop 32 l)) is ∙ ap (λ (k : ℕ). take s (drop 32 (take k b))) all ∙ ap (take s) (drop-take 32 (512 * body_sectors s - 32) b)
      ∙ take-take s (512 * body_sectors s - 32) (drop 32 b) (omega arith)

  padding_there : drop (32 + s) sectors ≡ padding_of b s
  padding_there =
      let all : 512 * body_sectors s ≡ 32 + s + (512 * body_sectors s - (32 + s)) = omega arith in
      ap (drop (32 + s)) is ∙ ap (λ (k : ℕ). drop (32 + s) (take k b)) all ∙ drop-take (32 + s) (512 * body_sectors s - (32 + s)) b

  pub body_unpadded : list_all (λ x. x == 0) (drop (32 + s) sectors) ≡ false → body_at g m b ≡ None
  body_unpadded bad =
      let zeros = list_all (λ x. x == 0) (padding_of b s) in
      let bad_there : zeros ≡ false = ap (list_all (λ x. x == 0)) (sym padding_there) ∙ bad in
      body_is g m b ∙ cond-false (is_head g m (length b) (head_of b) && zeros) (whole (commands_at (head_of b).count (take s (drop 32 b)))) None
      (and_right (is_head g m (length b) (head_of b)) zeros bad_there)

  pub body_padded : list_all (λ x. x == 0) (drop (32 + s) sectors) ≡ true → body_at g m b ≡ whole (commands_at (head_of b).count (take s (drop 32 sectors)))
  body_padded good =
      let zeros = list_all (λ x. x == 0) (padding_of b s) in
      let good_there : zeros ≡ true = ap (list_all (λ x. x == 0)) (sym padding_there) ∙ good in
      body_is g m b ∙ cond-true (is_head g m (length b) (head_of b) && zeros) (whole (commands_at (head_of b).count (take s (drop 32 b)))) None
      (and_from (is_head g m (length b) (head_of b)) zeros head good_there)
      ∙ ap (λ (l : List ℕ). whole (commands_at (head_of b).count l)) (sym text_there)

pub body_of_no_head : (g m : ℕ) (b : List ℕ) → is_head g m (length b) (head_of b) ≡ false → body_at g m b ≡ None
body_of_no_head g m b bad =
    let zeros = list_all (λ x. x == 0) (padding_of b (head_of b).size) in
    body_is g m b ∙ cond-false (is_head g m (length b) (head_of b) && zeros) (whole (commands_at (head_of b).count (take (head_of b).size (drop 32 b)))) None
    (and_left (is_head g m (length b) (head_of b)) zeros bad)

-- an area of an image
module _ (left : Area) (image : List ℕ) (forward : left.start ≤ left.end) (inside : 512 * left.end ≤ length image) where
  abbrev bytes : List ℕ
  bytes = area_bytes left image

  pub area_length : length bytes ≡ 512 * (left.end - left.start)
  area_length = length-take-le (512 * (left.end - left.start)) (drop (512 * left.start) image) (omega (arith, length-drop (512 * left.start) image))

  pub gate_here : left.start + 1 ≤ left.end → is_open bytes ≡ is_open (drop (512 * left.start) image)
  gate_here some = ap (λ (b : ℕ). b == 1) (get_or-take (512 * (left.end - left.start)) (drop (512 * left.start) image) 0 0 (omega arith))

  pub no_room : left.end < left.start + 3 → frames_in left image ≡ Ok (no_frames left.number left.start)
  no_room few = in_area left image ∙ frames-none (left.end - left.start) left.generation left.number left.start bytes (short bytes (omega (arith, area_length)))

  -- with room for a frame
  module _ (room : left.start + 3 ≤ left.end) where
    long : nat_le 1536 (length bytes) ≡ true
    long = le-leb 1536 (length bytes) (omega (arith, area_length))

    pub no_frame : is_open (drop (512 * left.start) image) ≡ false → frames_in left image ≡ Ok (no_frames left.number left.start)
    no_frame shut =
        in_area left image
        ∙ frames-none (left.end - left.start) left.generation left.number left.start bytes (and_left (is_open bytes) (nat_le 1536 (length bytes)) (gate_here (omega arith) ∙ shut))

    one_left : left.end - left.start ≡ suc (left.end - left.start - 1)
    one_left = omega arith

    frame_here : is_open (drop (512 * left.start) image) ≡ true
        → frames_in left image ≡ from_body left.start (body_at left.generation left.number (drop 512 bytes)) (rest_read (left.end - left.start - 1) left.generation left.number left.start bytes)
    frame_here open_gate =
        in_area left image
        ∙ ap (λ (k : ℕ). frames_at k left.generation left.number left.start bytes) one_left
        ∙ frames-more (left.end - left.start - 1) left.generation left.number left.start bytes
        (and_from (is_open bytes) (nat_le 1536 (length bytes)) (gate_here (omega arith) ∙ open_gate) long)

    pub no_body : is_open (drop (512 * left.start) image) ≡ true → body_at left.generation left.number (drop 512 bytes) ≡ None → frames_in left image ≡ Err left.start
    no_body open_gate none =
        frame_here open_gate ∙ ap (λ (o : Option (List Command)). from_body left.start o (rest_read (left.end - left.start - 1) left.generation left.number left.start bytes)) none

    -- what is left behind a frame
    module _ (commands : List Command) (next : Area) (generation : next.generation ≡ left.generation) (end : next.end ≡ left.end) (number : next.number ≡ left.number + length commands)
        (start : next.start ≡ left.start + 1 + body_sectors (head_of (drop 512 bytes)).size) (body : body_at left.generation left.number (drop 512 bytes) ≡ Some commands) where
      within : next.start + 1 ≤ left.end
      within = omega (arith, (body_facts left.generation left.number (drop 512 bytes) commands body).room, length-drop 512 bytes, area_length, start)

      rest_is : drop (frame_size bytes) bytes ≡ area_bytes next image
      rest_is =
          let whole_frame : frame_size bytes ≡ 512 * (next.start - left.start) = omega (arith, start) in
          let all : 512 * (left.end - left.start) ≡ 512 * (next.start - left.start) + 512 * (left.end - next.start) = omega (arith, start, within) in
          let there : 512 * left.start + 512 * (next.start - left.start) ≡ 512 * next.start = omega (arith, start) in
          ap (λ (k : ℕ). drop k bytes) whole_frame
          ∙ ap (λ (k : ℕ). drop (512 * (next.start - left.start)) (take k (drop (512 * left.start) image))) all
          ∙ drop-take (512 * (next.start - left.start)) (512 * (left.end - next.start)) (drop (512 * left.start) image)
          ∙ ap (take (512 * (left.end - next.start))) (drop-drop (512 * (next.start - left.start)) (512 * left.start) image ∙ ap (λ (k : ℕ). drop k image) there)
          ∙ ap (λ (e : ℕ). take (512 * (e - next.start)) (drop (512 * next.start) image)) (sym end)

      gate_is : left.start + frame_size bytes / 512 ≡ next.start
      gate_is = omega (arith, start)

      rest_length : length (area_bytes next image) ≡ 512 * (next.end - next.start)
      rest_length = length-take-le (512 * (next.end - next.start)) (drop (512 * next.start) image) (omega (arith, length-drop (512 * next.start) image, end, within))

      pub frame_then : is_open (drop (512 * left.start) image) ≡ true → frames_in left image ≡ with_first (behind_gate left.start commands) (frames_in next image)
      frame_then open_gate =
          frame_here open_gate
          ∙ ap (λ (o : Option (List Command)). from_body left.start o (rest_read (left.end - left.start - 1) left.generation left.number left.start bytes)) body
          ∙ ap (with_first (behind_gate left.start commands))
          ((λ i. frames_at (left.end - left.start - 1) (sym generation i) (sym number i) (gate_is i) (rest_is i))
          ∙ frames_enough (left.end - left.start - 1) (next.end - next.start) next.generation next.number next.start (area_bytes next image)
          (omega (arith, rest_length, end, start)) (omega (arith, rest_length))
          ∙ sym (in_area next image))

-- the sectors behind the first gate
module _ (left : Area) (image : List ℕ) (room : left.start + 3 ≤ left.end) (inside : 512 * left.end ≤ length image) where
  abbrev sectors_behind : List ℕ
  sectors_behind = drop (512 * (left.start + 1)) image

  pub body_here : drop 512 (area_bytes left image) ≡ take (512 * (left.end - left.start - 1)) sectors_behind
  body_here =
      let all : 512 * (left.end - left.start) ≡ 512 + 512 * (left.end - left.start - 1) = omega arith in
      let next : 512 * left.start + 512 ≡ 512 * (left.start + 1) = omega arith in
      ap (λ (k : ℕ). drop 512 (take k (drop (512 * left.start) image))) all
      ∙ drop-take 512 (512 * (left.end - left.start - 1)) (drop (512 * left.start) image)
      ∙ ap (take (512 * (left.end - left.start - 1))) (drop-drop 512 (512 * left.start) image ∙ ap (λ (k : ℕ). drop k image) next)

  pub body_length : length (drop 512 (area_bytes left image)) ≡ 512 * (left.end - left.start - 1)
  body_length =
      ap length body_here ∙ length-take-le (512 * (left.end - left.start - 1)) sectors_behind (omega (arith, length-drop (512 * (left.start + 1)) image))

  pub head_here : (first : List ℕ) → first ≡ take 512 sectors_behind → head_of first ≡ head_of (drop 512 (area_bytes left image))
  head_here first is =
      head_same first (drop 512 (area_bytes left image))
      (ap (take 32) is ∙ take-take 32 512 sectors_behind (omega arith) ∙ sym (take-take 32 (512 * (left.end - left.start - 1)) sectors_behind (omega arith)) ∙ ap (take 32) (sym body_here))

  pub sectors_here : (first rest : List ℕ) (n : ℕ) → 1 ≤ n → left.start + n + 2 ≤ left.end → first ≡ take 512 sectors_behind
      → rest ≡ take (512 * (n - 1)) (drop (512 * (left.start + 2)) image) → first ++ rest ≡ take (512 * n) (drop 512 (area_bytes left image))
  sectors_here first rest n some few first_is rest_is =
      let beside : 512 * (left.start + 1) + 512 ≡ 512 * (left.start + 2) = omega arith in
      let sum : 512 + 512 * (n - 1) ≡ 512 * n = omega arith in
      (λ i. first_is i ++ rest_is i)
      ∙ ap (λ (l : List ℕ). take 512 sectors_behind ++ take (512 * (n - 1)) l) (sym (drop-drop 512 (512 * (left.start + 1)) image ∙ ap (λ (k : ℕ). drop k image) beside))
      ∙ sym (take-add 512 (512 * (n - 1)) sectors_behind)
      ∙ ap (λ (k : ℕ). take k sectors_behind) sum
      ∙ sym (take-take (512 * n) (512 * (left.end - left.start - 1)) sectors_behind (omega arith))
      ∙ ap (take (512 * n)) (sym body_here)

-- a frame by what was read of its body
module _ (left : Area) (image : List ℕ) (room : left.start + 3 ≤ left.end) (inside : 512 * left.end ≤ length image) (open_gate : is_open (drop (512 * left.start) image) ≡ true) where
  abbrev body : List ℕ
  body = drop 512 (area_bytes left image)

  pub no_head_read : is_head left.generation left.number (length body) (head_of body) ≡ false → frames_in left image ≡ Err left.start
  no_head_read bad = no_body left image (omega arith) inside room open_gate (body_of_no_head left.generation left.number body bad)

  module _ (head : ReadHead) (sectors : List ℕ) (good : is_head left.generation left.number (length body) (head_of body) ≡ true) (fields : head_fields head ≡ head_of body)
      (is : sectors ≡ take (512 * body_sectors (head_of body).size) body) where
    size_is : head.size ≡ (head_of body).size
    size_is = ap (λ (h : Head). h.size) fields

    count_is : head.count ≡ (head_of body).count
    count_is = ap (λ (h : Head). h.count) fields

    pub bad_padding : list_all (λ x. x == 0) (drop (32 + head.size) sectors) ≡ false → frames_in left image ≡ Err left.start
    bad_padding bad =
        no_body left image (omega arith) inside room open_gate
        (body_unpadded left.generation left.number body sectors good is (ap (λ (k : ℕ). list_all (λ x. x == 0) (drop (32 + k) sectors)) (sym size_is) ∙ bad))

    module _ (zeros : list_all (λ x. x == 0) (drop (32 + head.size) sectors) ≡ true) where
      read_is : body_at left.generation left.number body ≡ whole (commands_at head.count (take head.size (drop 32 sectors)))
      read_is =
          body_padded left.generation left.number body sectors good is (ap (λ (k : ℕ). list_all (λ x. x == 0) (drop (32 + k) sectors)) (sym size_is) ∙ zeros)
          ∙ (λ i. whole (commands_at (sym count_is i) (take (sym size_is i) (drop 32 sectors))))

      pub bad_commands : whole (commands_at head.count (take head.size (drop 32 sectors))) ≡ None → frames_in left image ≡ Err left.start
      bad_commands none = no_body left image (omega arith) inside room open_gate (read_is ∙ none)

      pub good_commands : (commands : List Command) → whole (commands_at head.count (take head.size (drop 32 sectors))) ≡ Some commands → length commands ≡ head.count
          → (start : ℕ) → start ≡ left.start + 1 + body_sectors head.size
          → frames_in left image ≡ with_first (behind_gate left.start commands)
          (frames_in (record { generation = left.generation; number = left.number + head.count; start = start; end = left.end }) image)
      good_commands commands some count start place =
          frame_then left image (omega arith) inside room commands
          (record { generation = left.generation; number = left.number + head.count; start = start; end = left.end }) refl refl
          (ap (λ (k : ℕ). left.number + k) (sym count)) (place ∙ ap (λ (k : ℕ). left.start + 1 + body_sectors k) size_is) (read_is ∙ some) open_gate
