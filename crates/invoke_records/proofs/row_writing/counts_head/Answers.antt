use Rattle.std.proofs.Common.{◌≡◌, ℕ, List, [], ◌∷◌, ◌++◌, take, length, sym, ◌∙◌, append_assoc, arith}
use Rattle.std.specs.Int.{w32, to_be_bytes}
use Rattle.std.proofs.lemmas.List.{take_all}
use Rattle.invoke_records.specs.declared.row.EventRow.{EventRow}
use Rattle.invoke_records.specs.Spelling.{policy_text, answer_byte, answer_bytes, counts_text}
use Rattle.invoke_records.proofs.row_writing.counts_head.Goals as goal

-- each field behind those in front of it
filled : (r : EventRow) (h1 h2 h3 h4 h5 h6 h7 : List ℕ) → length h7 ≡ 26 → take 4 h1 ≡ to_be_bytes w32 r.starts → take 8 h2 ≡ take 4 h1 ++ to_be_bytes w32 r.failures
    → take 12 h3 ≡ take 8 h2 ++ to_be_bytes w32 r.push_backs → take 13 h4 ≡ take 12 h3 ++ (answer_byte r.answer ∷ []) → take 18 h5 ≡ take 13 h4 ++ policy_text r.policy
    → take 22 h6 ≡ take 18 h5 ++ to_be_bytes w32 (length r.payload) → take 26 h7 ≡ take 22 h6 ++ to_be_bytes w32 (length (answer_bytes r.answer)) → h7 ≡ counts_text r
filled r h1 h2 h3 h4 h5 h6 h7 size starts failures push_backs byte policy payload answer =
    sym (take_all 26 h7 (omega (arith, size))) ∙ rw (answer, payload, policy, byte, push_backs, failures, starts) (simp append_assoc)

pub returns : goal.returns
returns c =
    filled c.args.row.now c.put_at.new.out c.put_at-2.new.out c.put_at-3.new.out c.put_at-4.new.out c.put_at-5.new.out c.put_at-6.new.out c.put_at-7.new.out
    (omega (arith, c.put_at-7.auto.out, c.put_at-6.auto.out, c.put_at-5.auto.out, c.put_at-4.auto.out, c.put_at-3.auto.out, c.put_at-2.auto.out, c.put_at.auto.out))
    (rw c.to_be_bytes.ensures at c.put_at.ensures)
    (rw c.to_be_bytes-2.ensures at c.put_at-2.ensures)
    (rw c.to_be_bytes-3.ensures at c.put_at-3.ensures)
    (rw c.answer_byte_of.ensures at c.put_at-4.ensures)
    (rw c.policy_bytes.ensures at c.put_at-5.ensures)
    (rw (c.to_be_bytes-4.ensures, c.len-payload_size.ensures) at c.put_at-6.ensures)
    (rw (c.to_be_bytes-5.ensures, c.answer_bytes_of.ensures) at c.put_at-7.ensures)
