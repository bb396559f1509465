-- What a body's bytes are read as.
use Rattle.std.proofs.Common.{◌≡◌, inl, inr, ℕ, ◌+◌, ◌-◌, ◌*◌, ◌^◌, ◌≤◌, ◌==◌, ◌&&◌, nat_le, List, length, take, drop, Option, Some, None, refl, sym, ◌∙◌, ap, arith}
use Rattle.std.proofs.lemmas.Bool.{cases_Bool, and_parts, cond-true, cond-false, leb-true}
use Rattle.std.specs.Prelude.{if◌then◌else◌}
use Rattle.std.specs.List.{list_all}
use Rattle.std.specs.Int.{w32, w64, from_be_bytes}
use Rattle.invoke_records.specs.declared.command.Command.{Command}
use Rattle.sector_disk.specs.laws.Written.{same_part}
use Rattle.gate_journal.specs.Frames.{Head, head_of, body_sectors, is_head, body_at, commands_at, whole}
use Rattle.gate_journal.proofs.Parts.{front_of}

-- the head is the first 32 bytes
pub head_same : (c b : List ℕ) → take 32 c ≡ take 32 b → head_of c ≡ head_of b
head_same c b same =
    let generation : take 8 c ≡ take 8 b = front_of 32 8 c b same (omega arith) in
    let number : take 8 (drop 8 c) ≡ take 8 (drop 8 b) = same_part 32 8 8 c b same (omega arith) in
    let count : take 4 (drop 16 c) ≡ take 4 (drop 16 b) = same_part 32 16 4 c b same (omega arith) in
    let size : take 4 (drop 20 c) ≡ take 4 (drop 20 b) = same_part 32 20 4 c b same (omega arith) in
    let zero_field : take 8 (drop 24 c) ≡ take 8 (drop 24 b) = same_part 32 24 8 c b same (omega arith) in
    λ i. record {
      generation = from_be_bytes w64 (generation i);
      number = from_be_bytes w64 (number i);
      count = from_be_bytes w32 (count i);
      size = from_be_bytes w32 (size i);
      zero_field = from_be_bytes w64 (zero_field i);
    }

-- a body by its head, the number of bytes from it on, the padding and the bytes of its commands
abbrev pub body_by : ℕ → ℕ → Head → ℕ → List ℕ → List ℕ → Option (List Command)
body_by g m head room padding text =
    if is_head g m room head && list_all (λ b. b == 0) padding then whole (commands_at head.count text) else None

abbrev pub padding_of : List ℕ → ℕ → List ℕ
padding_of body size = take (512 * body_sectors size - (32 + size)) (drop (32 + size) body)

pub body_is : (g m : ℕ) (b : List ℕ) → body_at g m b ≡ body_by g m (head_of b) (length b) (padding_of b (head_of b).size) (take (head_of b).size (drop 32 b))
unfolding body_at
body_is g m b = refl

-- a body is read from its own sectors, and how many bytes follow
pub body_same : (g m : ℕ) (b c : List ℕ) → length c ≡ length b → take (512 * body_sectors (head_of b).size) c ≡ take (512 * body_sectors (head_of b).size) b → body_at g m c ≡ body_at g m b
body_same g m b c size same =
    let s = (head_of b).size in
    let whole_body = 512 * body_sectors s in
    let head : head_of c ≡ head_of b = head_same c b (front_of whole_body 32 c b same (omega arith)) in
    let padding : padding_of c s ≡ padding_of b s = same_part whole_body (32 + s) (whole_body - (32 + s)) c b same (omega arith) in
    let text : take s (drop 32 c) ≡ take s (drop 32 b) = same_part whole_body 32 s c b same (omega arith) in
    body_is g m c
    ∙ ap (λ (h : Head). body_by g m h (length c) (padding_of c h.size) (take h.size (drop 32 c))) head
    ∙ (λ i. body_by g m (head_of b) (size i) (padding i) (text i))
    ∙ sym (body_is g m b)

-- what is known of a body
pub record IsBody (g m : ℕ) (b : List ℕ) (commands : List Command) : Type 0 where
  pub room : 512 * (body_sectors (head_of b).size + 1) ≤ length b
  pub numbers : m + (head_of b).count ≤ 2 ^ 62 + 1
  pub text : whole (commands_at (head_of b).count (take (head_of b).size (drop 32 b))) ≡ Some commands

body_known : (g m : ℕ) (head : Head) (room : ℕ) (padding text : List ℕ) (commands : List Command) → body_by g m head room padding text ≡ Some commands
    → (512 * (body_sectors head.size + 1) ≤ room) × (m + head.count ≤ 2 ^ 62 + 1) × (whole (commands_at head.count text) ≡ Some commands)
body_known g m head room padding text commands is =
    let test = is_head g m room head && list_all (λ b. b == 0) padding in
    elim (cases_Bool test) [
      | inl passed ↦
          let good = (and_parts (is_head g m room head) (list_all (λ b. b == 0) padding) passed).0 in
          let four = and_parts ((head.generation == g) && (head.number == m) && (head.zero_field == 0) && nat_le (512 * (body_sectors head.size + 1)) room) (nat_le (m + head.count) (2 ^ 62 + 1)) good in
          let three = and_parts ((head.generation == g) && (head.number == m) && (head.zero_field == 0)) (nat_le (512 * (body_sectors head.size + 1)) room) four.0 in
          (leb-true _ _ three.1, leb-true _ _ four.1, sym (cond-true test (whole (commands_at head.count text)) None passed) ∙ is)
      | inr failed ↦
          let none : None ≡ Some commands = sym (cond-false test (whole (commands_at head.count text)) None failed) ∙ is in absurd (cc)
    ]

pub body_facts : (g m : ℕ) (b : List ℕ) (commands : List Command) → body_at g m b ≡ Some commands → IsBody g m b commands
body_facts g m b commands is =
    let known = body_known g m (head_of b) (length b) (padding_of b (head_of b).size) (take (head_of b).size (drop 32 b)) commands (sym (body_is g m b) ∙ is) in
    record { room = known.0; numbers = known.1; text = known.2 }
