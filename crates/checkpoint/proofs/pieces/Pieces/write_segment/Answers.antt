use Rattle.std.proofs.Common.{◌≡◌, ℕ, ◌+◌, ◌-◌, ◌*◌, ◌%◌, ◌≤◌, List, length, length-append, replicate, Result, Ok, refl, ap, arith}
use Rattle.std.proofs.lemmas.Result.{IfOk-from_err}
use Rattle.std.proofs.lemmas.List.{length-replicate}
use Rattle.sector_disk.specs.declared.disk.Fault.{Fault}
use Rattle.sector_disk.specs.Disk.{DiskView, HasCause, HasRisen}
use Rattle.gate_journal.specs.Frames.{sectors_for}
use Rattle.checkpoint.specs.declared.pieces.Pieces.{Pieces}
use Rattle.checkpoint.specs.Pieces.{HasSpace, IsEmptyFrom, Puts, ending, reached}
use Rattle.invoke_records.specs.Spelling.{snapshot_text}
use Rattle.checkpoint.proofs.Puts.{puts_more, puts_as, leaves_within, written, same_parts}
use Rattle.checkpoint.proofs.pieces.Pieces.write_segment.Goals as goal

later : (a b c : ℕ) → a ≤ b → b ≤ c → a ≤ c
later a b c le more = omega (arith, le, more)

-- the call that failed came after others
fault_later : {T : Type 0} (a b c : ℕ) (result : Result T Fault) → a ≤ b → b ≤ c → HasRisen b c → HasCause a c result
fault_later a b c result le more risen = record { later = later a b c le more; risen = λ err high. omega (arith, le, risen high) }

-- the call whose result is returned came after others
cause_later : {T : Type 0} (a b c : ℕ) (result : Result T Fault) → a ≤ b → HasCause b c result → HasCause a c result
cause_later a b c result le cause = record { later = later a b c le cause.later; risen = λ err high. omega (arith, le, cause.risen err high) }

ending_length : (size : ℕ) → length (ending size) + size ≡ 512 * sectors_for size + 512
ending_length size =
    omega (arith, length-append {A = ℕ} (replicate (512 * sectors_for size - size) 0) (replicate 512 0), length-replicate {A = ℕ} (512 * sectors_for size - size) 0, length-replicate {A = ℕ} 512 0)

space_less : (disk : DiskView) (p : Pieces) (m n : ℕ) → m ≤ n → HasSpace disk p n → HasSpace disk p m
space_less disk p m n le space = record { within = omega (arith, le, space.within); inside = space.inside }

-- what was put took its part of the space
space_left : (a b : DiskView) (p q : Pieces) (bytes : List ℕ) (done : Unit {0}) (n : ℕ) → Puts a b p q bytes (Ok done) → HasSpace a p (length bytes + n) → HasSpace b q n
space_left a b p q bytes done n puts space = record {
  within = omega (arith, puts.reached, puts.last, space.within);
  inside = omega (arith, puts.last, puts.same.sectors, space.inside);
}

space_first : (disk : DiskView) (p : Pieces) (first last : ℕ) (header text : List ℕ) → IsEmptyFrom p first last → length header ≡ 512 → first + 1 + sectors_for (length text) + 1 ≤ last
    → last ≤ disk.sectors → HasSpace disk p (length header + (length text + length (ending (length text))))
space_first disk p first last header text empty size room inside = record {
  within = omega (arith, empty.at, empty.last, ap length empty.piece, ending_length (length text), size, room);
  inside = omega (arith, empty.last, inside);
}

-- all of it fills whole sectors
whole : (p q r s : Pieces) (first last : ℕ) (header text : List ℕ) → IsEmptyFrom p first last → length header ≡ 512 → reached q ≡ reached p + length header
    → reached r ≡ reached q + length text → reached s ≡ reached r + length (ending (length text)) → length s.piece.items % 512 ≡ 0
whole p q r s first last header text empty size one two three =
    omega (arith, empty.at, ap length empty.piece, ending_length (length text), size, one, two, three)

pub returns-in_err-put-clause-any_moment : goal.returns-in_err-put-clause-any_moment
returns-in_err-put-clause-any_moment g c = leaves_within c.args.first c.args.last c.start.ensures c.put.ensures.puts

pub returns-in_err-put_snapshot-clause-any_moment : goal.returns-in_err-put_snapshot-clause-any_moment
returns-in_err-put_snapshot-clause-any_moment g c =
    leaves_within c.args.first c.args.last c.start.ensures (puts_more c.put_snapshot.result c.in_ok-put.ensures.puts c.put_snapshot.ensures.puts)

pub returns-in_err-put_ending-clause-any_moment : goal.returns-in_err-put_ending-clause-any_moment
returns-in_err-put_ending-clause-any_moment g c =
    leaves_within c.args.first c.args.last c.start.ensures (puts_more c.put_ending.result (puts_more _ c.in_ok-put.ensures.puts c.in_ok-put_snapshot.ensures.puts) c.put_ending.ensures.puts)

pub returns-clause-any_moment : goal.returns-clause-any_moment
returns-clause-any_moment g c =
    leaves_within c.args.first c.args.last c.start.ensures
    (puts_more c.flush.result (puts_more _ (puts_more _ c.in_ok-put.ensures.puts c.in_ok-put_snapshot.ensures.puts) c.in_ok-put_ending.ensures.puts) c.flush.ensures.puts)

pub returns-clause-written : goal.returns-clause-written
returns-clause-written g c honest =
    let puts = puts_more c.flush.result (puts_more _ (puts_more _ c.in_ok-put.ensures.puts c.in_ok-put_snapshot.ensures.puts) c.in_ok-put_ending.ensures.puts) c.flush.ensures.puts in
    let inside : 512 * c.args.first ≤ length (g.D.Disk.view c.args.disk.now).content = omega (arith, (g.met.D.Disk.laws c.args.disk.now honest).size, c.requires.room, c.requires.inside) in
    written c.flush.result c.args.first c.args.last c.start.ensures (puts_as (same_parts c.args.header.now (snapshot_text c.args.snapshot.now) c.size.result c.size.ensures.exact) puts) c.flush.ensures.empty
    honest inside

pub returns-in_err-put-clause-same : goal.returns-in_err-put-clause-same
returns-in_err-put-clause-same g c = c.put.ensures.puts.same

pub returns-in_err-put-clause-written : goal.returns-in_err-put-clause-written
returns-in_err-put-clause-written g c honest = IfOk-from_err c.from_residual.result _ c.from_residual.ensures.0

pub returns-in_err-put_snapshot-clause-same : goal.returns-in_err-put_snapshot-clause-same
returns-in_err-put_snapshot-clause-same g c = (puts_more c.put_snapshot.result c.in_ok-put.ensures.puts c.put_snapshot.ensures.puts).same

pub returns-in_err-put_snapshot-clause-cause : goal.returns-in_err-put_snapshot-clause-cause
returns-in_err-put_snapshot-clause-cause g c = fault_later _ _ _ c.from_residual-in_err-put_snapshot.result c.put.ensures.cause.later c.put_snapshot.ensures.cause.later (c.in_err-put_snapshot.ensures.cause.risen refl)

pub returns-in_err-put_snapshot-clause-written : goal.returns-in_err-put_snapshot-clause-written
returns-in_err-put_snapshot-clause-written g c honest = IfOk-from_err c.from_residual-in_err-put_snapshot.result _ c.from_residual-in_err-put_snapshot.ensures.0

pub returns-in_err-put_ending-clause-same : goal.returns-in_err-put_ending-clause-same
returns-in_err-put_ending-clause-same g c = (puts_more c.put_ending.result (puts_more _ c.in_ok-put.ensures.puts c.in_ok-put_snapshot.ensures.puts) c.put_ending.ensures.puts).same

pub returns-in_err-put_ending-clause-cause : goal.returns-in_err-put_ending-clause-cause
returns-in_err-put_ending-clause-cause g c = fault_later _ _ _ c.from_residual-in_err-put_ending.result (later _ _ _ c.put.ensures.cause.later c.put_snapshot.ensures.cause.later) c.put_ending.ensures.cause.later (c.in_err-put_ending.ensures.cause.risen refl)

pub returns-in_err-put_ending-clause-written : goal.returns-in_err-put_ending-clause-written
returns-in_err-put_ending-clause-written g c honest = IfOk-from_err c.from_residual-in_err-put_ending.result _ c.from_residual-in_err-put_ending.ensures.0

pub returns-clause-same : goal.returns-clause-same
returns-clause-same g c = (puts_more c.flush.result (puts_more _ (puts_more _ c.in_ok-put.ensures.puts c.in_ok-put_snapshot.ensures.puts) c.in_ok-put_ending.ensures.puts) c.flush.ensures.puts).same

pub returns-clause-cause : goal.returns-clause-cause
returns-clause-cause g c = cause_later _ _ _ c.flush.result (later _ _ _ (later _ _ _ c.put.ensures.cause.later c.put_snapshot.ensures.cause.later) c.put_ending.ensures.cause.later) c.flush.ensures.cause

pub put-requires : goal.put-requires
put-requires g c =
    let text = snapshot_text c.args.snapshot.now in
    let old = g.D.Disk.view c.args.disk.now in
    let all = space_first old c.start.new.self c.args.first c.args.last c.args.header.now text c.start.ensures c.requires.header c.requires.room c.requires.inside in
    space_less _ _ (length c.args.header.now) _ (omega arith) all

pub put_snapshot-requires-clause-room : goal.put_snapshot-requires-clause-room
put_snapshot-requires-clause-room g c =
    let text = snapshot_text c.args.snapshot.now in
    let old = g.D.Disk.view c.args.disk.now in
    let all = space_first old c.start.new.self c.args.first c.args.last c.args.header.now text c.start.ensures c.requires.header c.requires.room c.requires.inside in
    let one = space_left _ _ _ _ c.args.header.now _ (length text + length (ending (length text))) c.in_ok-put.ensures.puts all in
    space_less _ _ (length text) _ (omega arith) one

pub put_ending-requires : goal.put_ending-requires
put_ending-requires g c =
    let text = snapshot_text c.args.snapshot.now in
    let old = g.D.Disk.view c.args.disk.now in
    let all = space_first old c.start.new.self c.args.first c.args.last c.args.header.now text c.start.ensures c.requires.header c.requires.room c.requires.inside in
    let one = space_left _ _ _ _ c.args.header.now _ (length text + length (ending (length text))) c.in_ok-put.ensures.puts all in
    let two = space_left _ _ _ _ text _ (length (ending (length text))) c.in_ok-put_snapshot.ensures.puts one in
    record { room = rw c.size.ensures.exact two; small = c.size.ensures.bounded }

pub flush-requires-clause-whole : goal.flush-requires-clause-whole
flush-requires-clause-whole g c =
    let text = snapshot_text c.args.snapshot.now in
    let ended = rw c.size.ensures.exact at c.in_ok-put_ending.ensures.puts.reached in
    whole c.start.new.self c.put.new.self c.put_snapshot.new.self c.put_ending.new.self c.args.first c.args.last c.args.header.now text c.start.ensures c.requires.header
    c.in_ok-put.ensures.puts.reached c.in_ok-put_snapshot.ensures.puts.reached ended
