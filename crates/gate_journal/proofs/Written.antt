-- What is read of a body that was spelled.
use Rattle.std.proofs.Common.{◌≡◌, ℕ, zero, suc, ◌+◌, ◌-◌, ◌*◌, ◌^◌, ◌<◌, ◌≤◌, true, ◌==◌, ◌&&◌, nat_le, List, [], ◌∷◌, ◌++◌, length, take, drop, replicate, get_or, Some, None, Ok, refl, sym, ◌∙◌, ap, arith, length-append, append_assoc}
use Rattle.std.specs.Prelude.{All}
use Rattle.std.specs.List.{list_all}
use Rattle.std.specs.Int.{w32, w64, to_be_bytes, from_be_bytes}
use Rattle.std.proofs.lemmas.Nat.{from_be_bytes-to_be_bytes_4, from_be_bytes-to_be_bytes_8}
use Rattle.std.proofs.lemmas.Grind.{flat_map-append}
use Rattle.std.proofs.lemmas.List.Elements.{All-head, All-tail}
use Rattle.std.proofs.lemmas.Bool.{and_from, cond-true, eq-eqb, le-leb}
use Rattle.std.proofs.lemmas.List.{append-nil, take_more, take_all, replicate-append-replicate, take_at, drop_at, drop-drop, length-replicate}
use Rattle.invoke_records.specs.declared.command.Command.{Command}
use Rattle.invoke_records.specs.Spelling.{IsCommand, command_text, commands_text}
use Rattle.invoke_records.specs.Reading.{command_at}
use Rattle.gate_journal.specs.Frames.{Head, head_of, body_sectors, sectors_for, body_front, body_text, body_at, commands_at, whole, is_head}
use Rattle.gate_journal.proofs.Bodies.{body_by, body_is, padding_of}

zeros : (n : ℕ) → list_all (λ b. b == 0) (replicate n 0) ≡ true
zeros zero = refl
zeros (suc n) = zeros n

-- how many bytes a body has before its padding
pub front_length : (g m : ℕ) (commands : List Command) → length (body_front g m commands) ≡ 32 + length (commands_text commands)
front_length g m commands = omega arith

split_zeros : (xs : List ℕ) (m n : ℕ) → xs ++ replicate (m + n) 0 ≡ (xs ++ replicate m 0) ++ replicate n 0
split_zeros xs m n = ap (λ (l : List ℕ). xs ++ l) (sym (replicate-append-replicate m n 0)) ∙ sym (append_assoc xs (replicate m 0) (replicate n 0))

-- padding to whole sectors and a closed gate, in one
pub padded_and_closed : (g m : ℕ) (commands : List Command) (out : List ℕ) (size : ℕ) → out ≡ body_front g m commands → size ≡ 512 * (body_sectors (length (commands_text commands)) + 1)
    → take size out ++ replicate (size - length out) 0 ≡ body_text g m commands ++ replicate 512 0
padded_and_closed g m commands out size is whole =
    let front = body_front g m commands in
    let long : length front ≡ 32 + length (commands_text commands) = front_length g m commands in
    let pad = 512 * sectors_for (length front) - length front in
    let both : size - length front ≡ pad + 512 = omega (arith, long, whole) in
    let within : length front ≤ size = omega (arith, long, whole) in
    (λ i. take size (is i) ++ replicate (size - length (is i)) 0) ∙ (λ i. take_all size front within i ++ replicate (both i) 0)
    ∙ split_zeros front pad 512

-- a body fills whole sectors
pub body_length : (g m : ℕ) (commands : List Command) → length (body_text g m commands) ≡ 512 * body_sectors (length (commands_text commands))
body_length g m commands =
    let long : length (body_front g m commands) ≡ 32 + length (commands_text commands) = front_length g m commands in
    let pad = 512 * sectors_for (length (body_front g m commands)) - length (body_front g m commands) in
    length-append (body_front g m commands) (replicate pad 0) ∙ omega (arith, long, length-replicate {A = ℕ} pad 0)

-- a body's bytes by its fields
pub text_is : (g m : ℕ) (commands : List Command) (rest : List ℕ) → body_text g m commands ++ rest
    ≡ to_be_bytes w64 g ++ (to_be_bytes w64 m ++ (to_be_bytes w32 (length commands) ++ (to_be_bytes w32 (length (commands_text commands)) ++ (to_be_bytes w64 0
    ++ (commands_text commands ++ (replicate (512 * body_sectors (length (commands_text commands)) - (32 + length (commands_text commands))) 0 ++ rest))))))
text_is g m commands rest =
    let text = commands_text commands in
    ap (λ (k : ℕ). (body_front g m commands ++ replicate (512 * sectors_for k - k) 0) ++ rest) (front_length g m commands)
    ∙ ap (λ (l : List ℕ). to_be_bytes w64 g ++ (to_be_bytes w64 m ++ (to_be_bytes w32 (length commands) ++ (to_be_bytes w32 (length text) ++ (to_be_bytes w64 0 ++ l)))))
    (append_assoc text (replicate (512 * body_sectors (length text) - (32 + length text)) 0) rest)

-- one command more
pub commands_text-more : (commands : List Command) (i : ℕ) (c : Command) → i < length commands → c ≡ get_or commands i c
    → commands_text (take (i + 1) commands) ≡ commands_text (take i commands) ++ command_text c
commands_text-more commands i c lt is =
    ap commands_text (take_more commands i c lt ∙ ap (λ (x : Command). take i commands ++ x ∷ []) (sym is))
    ∙ flat_map-append command_text (take i commands) (c ∷ []) ∙ ap (λ (l : List ℕ). commands_text (take i commands) ++ l) (append-nil (command_text c))

-- the fields in front of some bytes
module _ (a b c d e rest : List ℕ) (eight_a : length a ≡ 8) (eight_b : length b ≡ 8) (four_c : length c ≡ 4) (four_d : length d ≡ 4) (eight_e : length e ≡ 8) where
  abbrev bytes : List ℕ
  bytes = a ++ (b ++ (c ++ (d ++ (e ++ rest))))

  behind_a : drop 8 bytes ≡ b ++ (c ++ (d ++ (e ++ rest)))
  behind_a = drop_at a (b ++ (c ++ (d ++ (e ++ rest)))) 8 eight_a

  behind_b : drop 16 bytes ≡ c ++ (d ++ (e ++ rest))
  behind_b = sym (drop-drop 8 8 bytes) ∙ ap (λ (l : List ℕ). drop 8 l) behind_a ∙ drop_at b (c ++ (d ++ (e ++ rest))) 8 eight_b

  behind_c : drop 20 bytes ≡ d ++ (e ++ rest)
  behind_c = sym (drop-drop 4 16 bytes) ∙ ap (λ (l : List ℕ). drop 4 l) behind_b ∙ drop_at c (d ++ (e ++ rest)) 4 four_c

  behind_d : drop 24 bytes ≡ e ++ rest
  behind_d = sym (drop-drop 4 20 bytes) ∙ ap (λ (l : List ℕ). drop 4 l) behind_c ∙ drop_at d (e ++ rest) 4 four_d

  behind_e : drop 32 bytes ≡ rest
  behind_e = sym (drop-drop 8 24 bytes) ∙ ap (λ (l : List ℕ). drop 8 l) behind_d ∙ drop_at e rest 8 eight_e

  fields : head_of bytes ≡ record {
    generation = from_be_bytes w64 a;
    number = from_be_bytes w64 b;
    count = from_be_bytes w32 c;
    size = from_be_bytes w32 d;
    zero_field = from_be_bytes w64 e;
  }
  fields =
      let first = take_at a (b ++ (c ++ (d ++ (e ++ rest)))) 8 eight_a in
      let second = ap (λ (l : List ℕ). take 8 l) behind_a ∙ take_at b (c ++ (d ++ (e ++ rest))) 8 eight_b in
      let third = ap (λ (l : List ℕ). take 4 l) behind_b ∙ take_at c (d ++ (e ++ rest)) 4 four_c in
      let fourth = ap (λ (l : List ℕ). take 4 l) behind_c ∙ take_at d (e ++ rest) 4 four_d in
      let fifth = ap (λ (l : List ℕ). take 8 l) behind_d ∙ take_at e rest 8 eight_e in
      λ i. record {
        generation = from_be_bytes w64 (first i);
        number = from_be_bytes w64 (second i);
        count = from_be_bytes w32 (third i);
        size = from_be_bytes w32 (fourth i);
        zero_field = from_be_bytes w64 (fifth i);
      }

-- a body's bytes, by what is read of them
pub record IsSpelled (g m : ℕ) (commands : List Command) (text : List ℕ) : Type 0 where
  pub size : length text ≡ 512 * body_sectors (length (commands_text commands))
  pub head : (rest : List ℕ) → (head_of (text ++ rest)).size ≡ length (commands_text commands)
  pub reads : (rest : List ℕ) → 512 ≤ length rest → body_at g m (text ++ rest) ≡ Some commands

module _ (again : (c : Command) (rest : List ℕ) → IsCommand c → command_at (command_text c ++ rest) ≡ Ok (c, rest)) where
  commands_again : (commands : List Command) (rest : List ℕ) → All IsCommand commands → commands_at (length commands) (commands_text commands ++ rest) ≡ Ok (commands, rest)
  unfolding commands_at
  commands_again [] rest all = refl
  commands_again (c ∷ commands) rest all =
      rw (append_assoc (command_text c) (commands_text commands) rest, again c (commands_text commands ++ rest) (All-head IsCommand c commands all), commands_again commands rest (All-tail IsCommand c commands all)) refl

  module _ (g m : ℕ) (commands : List Command) (good : All IsCommand commands) (g_fits : g < 2 ^ 64) (numbers : m + length commands ≤ 2 ^ 62 + 1) (few : length commands < 2 ^ 32)
      (short : length (commands_text commands) < 2 ^ 32) where
    abbrev text : List ℕ
    text = commands_text commands

    abbrev zeros_behind : List ℕ
    zeros_behind = replicate (512 * body_sectors (length text) - (32 + length text)) 0

    abbrev the_head : Head
    the_head = record { generation = g; number = m; count = length commands; size = length text; zero_field = 0 }

    -- the bytes behind the head
    abbrev behind : List ℕ → List ℕ
    behind rest = text ++ (zeros_behind ++ rest)

    head_is : (rest : List ℕ) → head_of (body_text g m commands ++ rest) ≡ the_head
    head_is rest =
        ap head_of (text_is g m commands rest) ∙ fields (to_be_bytes w64 g) (to_be_bytes w64 m) (to_be_bytes w32 (length commands)) (to_be_bytes w32 (length text)) (to_be_bytes w64 0) (behind rest) refl refl refl refl refl
        ∙ (λ i. record {
          generation = from_be_bytes-to_be_bytes_8 g g_fits i;
          number = from_be_bytes-to_be_bytes_8 m (omega (arith, numbers)) i;
          count = from_be_bytes-to_be_bytes_4 (length commands) few i;
          size = from_be_bytes-to_be_bytes_4 (length text) short i;
          zero_field = 0;
        })

    behind_head : (rest : List ℕ) → drop 32 (body_text g m commands ++ rest) ≡ behind rest
    behind_head rest = ap (λ (l : List ℕ). drop 32 l) (text_is g m commands rest)

    text_read : (rest : List ℕ) → take (length text) (drop 32 (body_text g m commands ++ rest)) ≡ text
    text_read rest = ap (λ (l : List ℕ). take (length text) l) (behind_head rest) ∙ take_at text (zeros_behind ++ rest) (length text) refl

    padding_read : (rest : List ℕ) → padding_of (body_text g m commands ++ rest) (length text) ≡ zeros_behind
    padding_read rest =
        let pad = 512 * body_sectors (length text) - (32 + length text) in
        ap (λ (l : List ℕ). take pad l)
        (sym (drop-drop (length text) 32 (body_text g m commands ++ rest)) ∙ ap (λ (l : List ℕ). drop (length text) l) (behind_head rest)
        ∙ drop_at text (zeros_behind ++ rest) (length text) refl)
        ∙ take_at zeros_behind rest pad (length-replicate pad 0)

    text_again : commands_at (length commands) text ≡ Ok (commands, [])
    text_again = ap (λ (l : List ℕ). commands_at (length commands) l) (sym (append-nil text)) ∙ commands_again commands [] good

    reads_is : (rest : List ℕ) → 512 ≤ length rest → body_at g m (body_text g m commands ++ rest) ≡ Some commands
    reads_is rest room =
        let body = body_text g m commands ++ rest in
        let long : 512 * (body_sectors (length text) + 1) ≤ length body = omega (arith, length-append (body_text g m commands) rest, body_length g m commands) in
        let three : ((g == g) && (m == m) && (0 == 0)) ≡ true = and_from ((g == g) && (m == m)) true (and_from (g == g) (m == m) (eq-eqb g g refl) (eq-eqb m m refl)) refl in
        let four = and_from ((g == g) && (m == m) && (0 == 0)) (nat_le (512 * (body_sectors (length text) + 1)) (length body)) three (le-leb _ _ long) in
        let head : is_head g m (length body) the_head ≡ true = and_from ((g == g) && (m == m) && (0 == 0) && nat_le (512 * (body_sectors (length text) + 1)) (length body)) (nat_le (m + length commands) (2 ^ 62 + 1)) four (le-leb _ _ numbers) in
        let test = is_head g m (length body) the_head && list_all (λ b. b == 0) zeros_behind in
        body_is g m body
        ∙ ap (λ (h : Head). body_by g m h (length body) (padding_of body h.size) (take h.size (drop 32 body))) (head_is rest)
        ∙ (λ i. body_by g m the_head (length body) (padding_read rest i) (text_read rest i))
        ∙ cond-true test (whole (commands_at (length commands) text)) None
        (and_from (is_head g m (length body) the_head) (list_all (λ b. b == 0) zeros_behind) head (zeros (512 * body_sectors (length text) - (32 + length text))))
        ∙ ap whole text_again

    pub spelled : IsSpelled g m commands (body_text g m commands)
    spelled = record { size = body_length g m commands; head = λ rest. ap (λ (h : Head). h.size) (head_is rest); reads = reads_is }
