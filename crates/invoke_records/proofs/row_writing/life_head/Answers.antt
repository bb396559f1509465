use Rattle.std.proofs.Common.{◌≡◌, ℕ, ◌+◌, List, [], ◌∷◌, ◌++◌, take, length, sym, ◌∙◌, subst, append_assoc, arith}
use Rattle.std.specs.Int.{w16, w64, to_be_bytes}
use Rattle.std.proofs.lemmas.List.{take_all}
use Rattle.invoke_records.specs.declared.row.EventRow.{EventRow}
use Rattle.invoke_records.specs.Spelling.{standing_byte, ended_byte, environment_in, moment_in, life_text}
use Rattle.invoke_records.proofs.row_writing.life_head.Goals as goal

-- each field behind those in front of it
filled : (r : EventRow) (h1 h2 h3 h4 h5 h6 h7 : List ℕ) → length h7 ≡ 52 → take 16 h1 ≡ r.id → take 24 h2 ≡ take 16 h1 ++ to_be_bytes w64 r.accepted
    → take 32 h3 ≡ take 24 h2 ++ to_be_bytes w64 r.number → take 40 h4 ≡ take 32 h3 ++ to_be_bytes w64 r.last_number
    → take 42 h5 ≡ take 40 h4 ++ (standing_byte r.standing ∷ ended_byte r.standing ∷ []) → take 44 h6 ≡ take 42 h5 ++ to_be_bytes w16 (environment_in r.standing)
    → take 52 h7 ≡ take 44 h6 ++ to_be_bytes w64 (moment_in r.standing) → h7 ≡ life_text r
filled r h1 h2 h3 h4 h5 h6 h7 size id accepted number last_number bytes environment moment =
    sym (take_all 52 h7 (omega (arith, size))) ∙ rw (moment, environment, bytes, last_number, number, accepted, id) (simp append_assoc)

pub returns : goal.returns
returns c =
    let id = c.args.row.now.id in
    let size : 0 + length id ≡ 16 = omega (arith, c.id_has_16.ensures.len) in
    filled c.args.row.now c.put_at.new.out c.put_at-2.new.out c.put_at-3.new.out c.put_at-4.new.out c.put_at-5.new.out c.put_at-6.new.out c.put_at-7.new.out
    (omega (arith, c.put_at-7.auto.out, c.put_at-6.auto.out, c.put_at-5.auto.out, c.put_at-4.auto.out, c.put_at-3.auto.out, c.put_at-2.auto.out, c.put_at.auto.out))
    (subst (λ (n : ℕ). take n c.put_at.new.out ≡ id) size c.put_at.ensures)
    (rw c.to_be_bytes.ensures at c.put_at-2.ensures)
    (rw c.to_be_bytes-2.ensures at c.put_at-3.ensures)
    (rw c.to_be_bytes-3.ensures at c.put_at-4.ensures)
    (rw (c.standing_byte_of.ensures, c.ended_byte_of.ensures) at c.put_at-5.ensures)
    (rw (c.to_be_bytes-4.ensures, c.environment_of.ensures) at c.put_at-6.ensures)
    (rw (c.to_be_bytes-5.ensures, c.moment_of.ensures.value) at c.put_at-7.ensures)
