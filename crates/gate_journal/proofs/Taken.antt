-- What is read of bytes is spelled so.
use Rattle.std.proofs.Common.{◌≡◌, inl, inr, ⊎_elim, ℕ, zero, suc, ◌+◌, ◌-◌, ◌*◌, ◌^◌, ◌<◌, ◌≤◌, ◌==◌, true, ◌&&◌, List, [], ◌∷◌, ◌++◌, length, length-drop, length-take, take, drop, replicate, get_or, take-append-drop, append_assoc, Some, None, Result, Ok, Err, refl, sym, ◌∙◌, ap, subst, arith}
use Rattle.std.specs.Prelude.{All, nat_le}
use Rattle.std.specs.List.{list_all}
use Rattle.std.specs.Int.{w32, w64, to_be_bytes, from_be_bytes}
use Rattle.std.proofs.lemmas.Nat.{be_bytes_4, be_bytes_8}
use Rattle.std.proofs.lemmas.Bool.{cases_Bool, cases_lt, and_parts, cond-true, cond-false, leb-true, eqb-true}
use Rattle.std.proofs.lemmas.List.{append-nil, drop-drop, get_or-take, get_or-drop, get_or_past, length-take-le}
use Rattle.std.proofs.lemmas.List.Elements.{All-nil, All-cons}
use Rattle.invoke_records.specs.declared.command.Command.{Command}
use Rattle.invoke_records.specs.declared.error.RecordError.{RecordError}
use Rattle.invoke_records.specs.Spelling.{IsBytes, IsCommand, command_text, commands_text}
use Rattle.invoke_records.specs.Reading.{◌>>=◌, command_at}
use Rattle.invoke_records.specs.laws.Commands.{command_takes}
use Rattle.gate_journal.specs.Frames.{Head, head_of, body_sectors, body_text, body_at, is_head, commands_at, whole}
use Rattle.gate_journal.proofs.Bodies.{body_by, body_is, padding_of}
use Rattle.gate_journal.proofs.Decoding.{commands-suc, commands-zero}
use Rattle.gate_journal.proofs.Written.{text_is}

-- parts of bytes are bytes
pub IsBytes-drop : (n : ℕ) (xs : List ℕ) → IsBytes xs → IsBytes (drop n xs)
IsBytes-drop n xs bytes i = subst (λ (x : ℕ). x < 256) (sym (get_or-drop n xs i 0)) (bytes (n + i))

pub IsBytes-take : (n : ℕ) (xs : List ℕ) → IsBytes xs → IsBytes (take n xs)
IsBytes-take n xs bytes i =
    ⊎_elim {C = get_or (take n xs) i 0 < 256} (λ low. subst (λ (x : ℕ). x < 256) (sym (get_or-take n xs i 0 low)) (bytes i))
    (λ high. subst (λ (x : ℕ). x < 256) (sym (get_or_past (take n xs) i 0 (omega (arith, length-take n xs)))) (omega arith)) (cases_lt i n)

-- commands that were read are spelled so
pub record AreTaken (k : ℕ) (bytes : List ℕ) (commands : List Command) (rest : List ℕ) : Type 0 where
  pub text : bytes ≡ commands_text commands ++ rest
  pub good : All IsCommand commands
  pub count : length commands ≡ k

abbrev push_first : Command → List Command × List ℕ → Result (List Command × List ℕ) RecordError
push_first first others = Ok (first ∷ others.0, others.1)

abbrev read_others : ℕ → Command × List ℕ → Result (List Command × List ℕ) RecordError
read_others k first = commands_at k first.1 >>= push_first first.0

others_taken : (k : ℕ) (bytes : List ℕ) (first : Command) (behind : List ℕ) → (bytes ≡ command_text first ++ behind) → IsCommand first
    → (r : Result (List Command × List ℕ) RecordError) → ((commands : List Command) (rest : List ℕ) → r ≡ Ok (commands, rest) → AreTaken k behind commands rest)
    → (commands : List Command) (rest : List ℕ) → (r >>= push_first first) ≡ Ok (commands, rest) → AreTaken (suc k) bytes commands rest
others_taken k bytes first behind parts good (Ok (others, end)) taken commands rest is =
    let later = taken others end refl in
    let pair : ◌≡◌ {A = List Command × List ℕ} (first ∷ others, end) (commands, rest) = cc in
    let list : first ∷ others ≡ commands = ap (λ (p : List Command × List ℕ). p.0) pair in
    let last : end ≡ rest = ap (λ (p : List Command × List ℕ). p.1) pair in
    subst (λ (l : List Command). AreTaken (suc k) bytes l rest) list
    (subst (λ (l : List ℕ). AreTaken (suc k) bytes (first ∷ others) l) last
    (record {
      text = parts ∙ ap (λ (l : List ℕ). command_text first ++ l) later.text ∙ sym (append_assoc (command_text first) (commands_text others) end);
      good = All-cons IsCommand first others good later.good;
      count = ap suc later.count;
    }))
others_taken k bytes first behind parts good (Err e) taken commands rest is = absurd (cc)

one_taken : (k : ℕ) (bytes : List ℕ) → IsBytes bytes → ((behind : List ℕ) → IsBytes behind → (commands : List Command) (rest : List ℕ) → commands_at k behind ≡ Ok (commands, rest) → AreTaken k behind commands rest)
    → (r : Result (Command × List ℕ) RecordError) → command_at bytes ≡ r → (commands : List Command) (rest : List ℕ)
    → (r >>= read_others k) ≡ Ok (commands, rest)
    → AreTaken (suc k) bytes commands rest
one_taken k bytes fits taken (Ok (first, behind)) is commands rest all =
    let one = command_takes bytes (first, behind) fits is in
    others_taken k bytes first behind one.0.parts one.1 (commands_at k behind) (taken behind one.0.rest_fits) commands rest all
one_taken k bytes fits taken (Err e) is commands rest all = absurd (cc)

pub commands_taken : (k : ℕ) (bytes : List ℕ) → IsBytes bytes → (commands : List Command) (rest : List ℕ) → commands_at k bytes ≡ Ok (commands, rest) → AreTaken k bytes commands rest
commands_taken zero bytes fits commands rest is =
    let pair : ◌≡◌ {A = Result (List Command × List ℕ) RecordError} (Ok ([], bytes)) (Ok (commands, rest)) = sym (commands-zero bytes) ∙ is in
    let parts : ◌≡◌ {A = List Command × List ℕ} ([], bytes) (commands, rest) = cc in
    let none : [] ≡ commands = ap (λ (p : List Command × List ℕ). p.0) parts in
    let all : bytes ≡ rest = ap (λ (p : List Command × List ℕ). p.1) parts in
    subst (λ (l : List Command). AreTaken 0 bytes l rest) none (record { text = all; good = All-nil IsCommand; count = refl })
commands_taken (suc k) bytes fits commands rest is =
    one_taken k bytes fits (λ behind good. commands_taken k behind good) (command_at bytes) refl commands rest (sym (commands-suc k bytes) ∙ is)

whole_taken : (r : Result (List Command × List ℕ) RecordError) (commands : List Command) → whole r ≡ Some commands → r ≡ Ok (commands, [])
whole_taken (Ok (found, [])) commands is = let same : found ≡ commands = cc in ap (λ (l : List Command). Ok (l, [])) same
whole_taken (Ok (found, b ∷ rest)) commands is = absurd (cc)
whole_taken (Err e) commands is = absurd (cc)

only_zeros : (xs : List ℕ) → list_all (λ b. b == 0) xs ≡ true → xs ≡ replicate (length xs) 0
only_zeros [] zeros = refl
only_zeros (x ∷ xs) zeros =
    let parts = and_parts (x == 0) (list_all (λ b. b == 0) xs) zeros in
    (λ i. eqb-true x 0 parts.0 i ∷ only_zeros xs parts.1 i)

-- a passed head
pub record HasHead (g m room : ℕ) (head : Head) : Type 0 where
  pub generation : head.generation ≡ g
  pub number : head.number ≡ m
  pub zero_field : head.zero_field ≡ 0
  pub room_left : 512 * (body_sectors head.size + 1) ≤ room
  pub numbers : m + head.count ≤ 2 ^ 62 + 1

head_passed : (g m room : ℕ) (head : Head) → is_head g m room head ≡ true → HasHead g m room head
head_passed g m room head is =
    let three = (head.generation == g) && (head.number == m) && (head.zero_field == 0) in
    let five = and_parts (three && nat_le (512 * (body_sectors head.size + 1)) room) (nat_le (m + head.count) (2 ^ 62 + 1)) is in
    let four = and_parts three (nat_le (512 * (body_sectors head.size + 1)) room) five.0 in
    let last = and_parts ((head.generation == g) && (head.number == m)) (head.zero_field == 0) four.0 in
    let first = and_parts (head.generation == g) (head.number == m) last.0 in
    record {
      generation = eqb-true head.generation g first.0;
      number = eqb-true head.number m first.1;
      zero_field = eqb-true head.zero_field 0 last.1;
      room_left = leb-true (512 * (body_sectors head.size + 1)) room four.1;
      numbers = leb-true (m + head.count) (2 ^ 62 + 1) five.1;
    }

body_passed : (g m room : ℕ) (head : Head) (padding text : List ℕ) (commands : List Command) → body_by g m head room padding text ≡ Some commands
    → HasHead g m room head × (list_all (λ b. b == 0) padding ≡ true) × (commands_at head.count text ≡ Ok (commands, []))
body_passed g m room head padding text commands is =
    let zeros = list_all (λ b. b == 0) padding in
    let test = is_head g m room head && zeros in
    elim (cases_Bool test) [
      | inl passed ↦
          let both = and_parts (is_head g m room head) zeros passed in
          (head_passed g m room head both.0, both.1, whole_taken (commands_at head.count text) commands (sym (cond-true test (whole (commands_at head.count text)) None passed) ∙ is))
      | inr failed ↦
          let none : None ≡ Some commands = sym (cond-false test (whole (commands_at head.count text)) None failed) ∙ is in absurd (cc)
    ]

-- four bytes are below 2 ^ 32
below_32 : (bs : List ℕ) → IsBytes bs → from_be_bytes w32 bs < 2 ^ 32
below_32 bs fits =
    let a : get_or bs 0 0 < 256 = fits 0 in
    let b : get_or bs 1 0 < 256 = fits 1 in
    let c : get_or bs 2 0 < 256 = fits 2 in
    let d : get_or bs 3 0 < 256 = fits 3 in
    omega arith

-- a body that was read
pub record IsTaken (g m : ℕ) (b : List ℕ) (commands : List Command) : Type 0 where
  pub behind : List ℕ
  pub is : b ≡ body_text g m commands ++ behind
  pub good : All IsCommand commands
  pub room : 512 ≤ length behind
  pub numbers : m + length commands ≤ 2 ^ 62 + 1
  pub count : length commands < 2 ^ 32
  pub size : length (commands_text commands) < 2 ^ 32

module _ (g m : ℕ) (b : List ℕ) (commands : List Command) (fits : IsBytes b) (read : body_at g m b ≡ Some commands) where
  abbrev h : Head
  h = head_of b

  passed : HasHead g m (length b) h × (list_all (λ x. x == 0) (padding_of b h.size) ≡ true) × (commands_at h.count (take h.size (drop 32 b)) ≡ Ok (commands, []))
  passed = body_passed g m (length b) h (padding_of b h.size) (take h.size (drop 32 b)) commands (sym (body_is g m b) ∙ read)

  abbrev pad : ℕ
  pad = 512 * body_sectors h.size - (32 + h.size)

  long : 512 * (body_sectors h.size + 1) ≤ length b
  long = passed.0.room_left

  taken : AreTaken h.count (take h.size (drop 32 b)) commands []
  taken = commands_taken h.count (take h.size (drop 32 b)) (IsBytes-take h.size (drop 32 b) (IsBytes-drop 32 b fits)) commands [] passed.2

  text_there : take h.size (drop 32 b) ≡ commands_text commands
  text_there = taken.text ∙ append-nil (commands_text commands)

  size_is : length (commands_text commands) ≡ h.size
  size_is = ap length (sym text_there) ∙ length-take-le h.size (drop 32 b) (omega (arith, length-drop 32 b, long))

  zeros_there : padding_of b h.size ≡ replicate pad 0
  zeros_there =
      only_zeros (padding_of b h.size) passed.1
      ∙ ap (λ (n : ℕ). replicate n 0) (length-take-le pad (drop (32 + h.size) b) (omega (arith, length-drop (32 + h.size) b, long)))

  abbrev rest : List ℕ
  rest = drop pad (drop (32 + h.size) b)

  behind_head : drop 32 b ≡ commands_text commands ++ (replicate pad 0 ++ rest)
  behind_head =
      sym (take-append-drop h.size (drop 32 b))
      ∙ (λ i. text_there i ++ (drop-drop h.size 32 b ∙ sym (take-append-drop pad (drop (32 + h.size) b))) i)
      ∙ ap (λ (l : List ℕ). commands_text commands ++ (l ++ rest)) zeros_there

  eight : (k : ℕ) → k + 8 ≤ 32 → to_be_bytes w64 (from_be_bytes w64 (take 8 (drop k b))) ≡ take 8 (drop k b)
  eight k low =
      be_bytes_8 (take 8 (drop k b)) (from_be_bytes w64 (take 8 (drop k b))) (length-take-le 8 (drop k b) (omega (arith, length-drop k b, long)))
      (IsBytes-take 8 (drop k b) (IsBytes-drop k b fits)) refl

  four : (k : ℕ) → k + 4 ≤ 32 → to_be_bytes w32 (from_be_bytes w32 (take 4 (drop k b))) ≡ take 4 (drop k b)
  four k low =
      be_bytes_4 (take 4 (drop k b)) (from_be_bytes w32 (take 4 (drop k b))) (length-take-le 4 (drop k b) (omega (arith, length-drop k b, long)))
      (IsBytes-take 4 (drop k b) (IsBytes-drop k b fits)) refl

  split : (n k : ℕ) → drop k b ≡ take n (drop k b) ++ drop (k + n) b
  split n k = sym (take-append-drop n (drop k b)) ∙ ap (λ (l : List ℕ). take n (drop k b) ++ l) (drop-drop n k b)

  all_there : b ≡ take 8 (drop 0 b) ++ (take 8 (drop 8 b) ++ (take 4 (drop 16 b) ++ (take 4 (drop 20 b) ++ (take 8 (drop 24 b) ++ drop 32 b))))
  all_there =
      split 8 0 ∙ ap (λ (l : List ℕ). take 8 (drop 0 b) ++ l)
      (split 8 8 ∙ ap (λ (l : List ℕ). take 8 (drop 8 b) ++ l)
      (split 4 16 ∙ ap (λ (l : List ℕ). take 4 (drop 16 b) ++ l) (split 4 20 ∙ ap (λ (l : List ℕ). take 4 (drop 20 b) ++ l) (split 8 24))))

  g_there : take 8 (drop 0 b) ≡ to_be_bytes w64 g
  g_there = sym (eight 0 (omega arith)) ∙ ap (to_be_bytes w64) passed.0.generation

  m_there : take 8 (drop 8 b) ≡ to_be_bytes w64 m
  m_there = sym (eight 8 (omega arith)) ∙ ap (to_be_bytes w64) passed.0.number

  count_there : take 4 (drop 16 b) ≡ to_be_bytes w32 (length commands)
  count_there = sym (four 16 (omega arith)) ∙ ap (to_be_bytes w32) (sym taken.count)

  size_there : take 4 (drop 20 b) ≡ to_be_bytes w32 (length (commands_text commands))
  size_there = sym (four 20 (omega arith)) ∙ ap (to_be_bytes w32) (sym size_is)

  zero_there : take 8 (drop 24 b) ≡ to_be_bytes w64 0
  zero_there = sym (eight 24 (omega arith)) ∙ ap (to_be_bytes w64) passed.0.zero_field

  spelled_so : b ≡ body_text g m commands ++ rest
  spelled_so =
      all_there ∙ (λ i. g_there i ++ (m_there i ++ (count_there i ++ (size_there i ++ (zero_there i ++ behind_head i)))))
      ∙ ap (λ (s : ℕ). to_be_bytes w64 g ++ (to_be_bytes w64 m ++ (to_be_bytes w32 (length commands) ++ (to_be_bytes w32 (length (commands_text commands))
      ++ (to_be_bytes w64 0 ++ (commands_text commands ++ (replicate (512 * body_sectors s - (32 + s)) 0 ++ rest))))))) (sym size_is)
      ∙ sym (text_is g m commands rest)

  pub body_taken : IsTaken g m b commands
  body_taken = record {
    behind = rest;
    is = spelled_so;
    good = taken.good;
    room = omega (arith, length-drop pad (drop (32 + h.size) b), length-drop (32 + h.size) b, long);
    numbers = subst (λ (k : ℕ). m + k ≤ 2 ^ 62 + 1) (sym taken.count) passed.0.numbers;
    count = subst (λ (k : ℕ). k < 2 ^ 32) (sym taken.count) (below_32 (take 4 (drop 16 b)) (IsBytes-take 4 (drop 16 b) (IsBytes-drop 16 b fits)));
    size = subst (λ (k : ℕ). k < 2 ^ 32) (sym size_is) (below_32 (take 4 (drop 20 b)) (IsBytes-take 4 (drop 20 b) (IsBytes-drop 20 b fits)));
  }
