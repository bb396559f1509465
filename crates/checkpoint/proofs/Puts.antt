-- What is written in pieces, by its bytes and by what a stop leaves.
use Rattle.std.proofs.Common.{◌≡◌, ℕ, ◌+◌, ◌-◌, ◌*◌, ◌<◌, ◌≤◌, List, [], ◌∷◌, ◌++◌, length, take, drop, replicate, get_or, Option, Some, None, Result, Ok, Err, IsErr, OnOk, refl, sym, ◌∙◌, ap, subst, append_assoc, length-append, arith}
use Rattle.std.proofs.lemmas.List.{append-nil, take-append-drop, take-replicate, replicate-append-replicate, drop_more, take_more, flat_map_more, take_at, drop_at, take-take, drop-take, length-take-le}
use Rattle.std.specs.List.{flat_map}
use Rattle.invoke_records.specs.declared.row.EventRow.{EventRow}
use Rattle.invoke_records.specs.declared.error.RecordError.{RecordError}
use Rattle.invoke_records.specs.Spelling.{row_text, row_fault, rows_fault, first_of_two}
use Rattle.gate_journal.specs.Frames.{sectors_for, padded}
use Rattle.sector_disk.specs.declared.disk.Fault.{Fault}
use Rattle.sector_disk.specs.Disk.{DiskView, IsDisk, HasCause, IsSameDisk, IsWrite, MayDiffer, Holds}
use Rattle.sector_disk.specs.laws.Moments.{started, writes, joined}
use Rattle.sector_disk.specs.laws.Written.{same_part}
use Rattle.std.proofs.lemmas.Result.{on_ok_weaker}
use Rattle.std.proofs.lemmas.Bool.{false≢true}
use Rattle.checkpoint.proofs.Ranges.{later_same}
use Rattle.checkpoint.specs.declared.pieces.Pieces.{Pieces}
use Rattle.checkpoint.specs.Pieces.{DiffersWithin, LeavesWithin, reached, front, HasSpace, IsEmptyFrom, Puts, StandsFrom, ending}

-- ## Ranges

-- a write within the range
written_within : (first last : ℕ) (was : List ℕ) (at n : ℕ) (earlier image : List ℕ) → first ≤ at → 512 * at + n ≤ 512 * last → DiffersWithin first last was earlier → MayDiffer (512 * at) n earlier image
    → DiffersWithin first last was image
written_within first last was at n earlier image le within differs differ = record {
  size = differ.size ∙ differs.size;
  before = same_part (512 * at) 0 (512 * first) image earlier differ.before (omega (arith, le)) ∙ differs.before;
  behind = later_same (512 * at + n) (512 * last) image earlier differ.after within ∙ differs.behind;
}

within_more : {a b c : DiskView} (first last : ℕ) → IsSameDisk a b → LeavesWithin a b first last → LeavesWithin b c first last → LeavesWithin a c first last
within_more first last same one two honest was left =
    let x = one honest was left in
    let y = two (same.honest.1 honest) was x.1 in
    (joined x.0 y.0 (DiffersWithin first last was) (λ image is. is) (λ image is. is), y.1)

-- ## Bytes

-- the piece, written behind what stands in front of it
front_flushed : (content new : List ℕ) (p q : Pieces) → reached p ≤ length content → 512 * q.at ≡ reached p → q.piece.items ≡ [] → Holds content (512 * p.at) p.piece.items new
    → front new q ≡ front content p ++ []
front_flushed content new p q inside at empty holds =
    let size : length (take (512 * p.at) content ++ p.piece.items) ≡ 512 * q.at =
    omega (arith, at, length-append (take (512 * p.at) content) p.piece.items, length-take-le (512 * p.at) content (omega (arith, inside))) in
    ap (λ (l : List ℕ). take (512 * q.at) new ++ l) empty ∙ append-nil (take (512 * q.at) new) ∙ ap (λ (l : List ℕ). take (512 * q.at) l) holds
    ∙ take_at (take (512 * p.at) content ++ p.piece.items) (drop (512 * p.at + length p.piece.items) content) (512 * q.at) size ∙ sym (append-nil (take (512 * p.at) content ++ p.piece.items))

-- what stands up to the end of the range's bytes, seen from its first sector on
stands : (first : ℕ) (text content new : List ℕ) (p q : Pieces) → p.piece.items ≡ [] → q.piece.items ≡ [] → p.at ≡ first → 512 * q.at ≡ 512 * first + length text → 512 * first ≤ length content
    → front new q ≡ front content p ++ text → StandsFrom first text new
stands first text content new p q p_empty q_empty p_at q_at inside is =
    let size = length-take-le (512 * first) content inside in
    let whole : take (512 * first + length text) new ≡ take (512 * first) content ++ text =
    ap (λ (n : ℕ). take n new) (sym q_at) ∙ sym (append-nil (take (512 * q.at) new)) ∙ ap (λ (l : List ℕ). take (512 * q.at) new ++ l) (sym q_empty) ∙ is
    ∙ ap (λ (l : List ℕ). (take (512 * p.at) content ++ l) ++ text) p_empty ∙ ap (λ (l : List ℕ). l ++ text) (append-nil (take (512 * p.at) content))
    ∙ ap (λ (n : ℕ). take (512 * n) content ++ text) p_at in
    sym (drop-take (512 * first) (length text) new) ∙ ap (λ (l : List ℕ). drop (512 * first) l) whole ∙ drop_at (take (512 * first) content) text (512 * first) size

pub written : {a b : DiskView} {p q : Pieces} {text : List ℕ} (result : Result (Unit {0}) Fault) (start end : ℕ) → IsEmptyFrom p start end → Puts a b p q text result → OnOk result (q.piece.items ≡ []) → a.honest
    → 512 * start ≤ length a.content → OnOk result (StandsFrom start text b.content)
written {a} {b} {p} {q} {text} (Ok done) start end is puts empty honest inside =
    stands start text a.content b.content p q is.piece empty is.at (omega (arith, puts.reached, ap length empty, ap length is.piece, is.at)) inside (puts.front honest)
written (Err fault) start end is puts empty honest inside = tt

-- ## Calls

-- one call after another
pub puts_more : {a b c : DiskView} {p q r : Pieces} {xs ys : List ℕ} {done : Unit {0}} (result : Result (Unit {0}) Fault) → Puts a b p q xs (Ok done) → Puts b c q r ys result → Puts a c p r (xs ++ ys) result
puts_more {a} {b} {c} {p} {q} {r} {xs} {ys} result one two =
    let later : LeavesWithin b c p.first p.last = subst (λ (n : ℕ). LeavesWithin b c p.first n) one.last (subst (λ (n : ℕ). LeavesWithin b c n q.last) one.first two.any_moment) in
    record {
      same = record {
        sectors = two.same.sectors ∙ one.same.sectors;
        honest = (λ is. one.same.honest.0 (two.same.honest.0 is), λ is. two.same.honest.1 (one.same.honest.1 is));
      };
      first = two.first ∙ one.first;
      last = two.last ∙ one.last;
      reached = on_ok_weaker result (λ is. omega (arith, is, one.reached, length-append xs ys)) two.reached;
      front = λ honest. on_ok_weaker result (λ is. is ∙ ap (λ (l : List ℕ). l ++ ys) (one.front honest) ∙ append_assoc (front a.content p) xs ys) (two.front (one.same.honest.1 honest));
      any_moment = within_more p.first p.last one.same one.any_moment later;
    }

not_ok : (P : Type 0) (result : Result (Unit {0}) Fault) → IsErr result → OnOk result P
not_ok P (Ok done) err = absurd (false≢true err)
not_ok P (Err fault) err = tt

-- after a fault it does not matter which bytes were to be taken
pub puts_failed : {a b : DiskView} {p q : Pieces} {xs ys : List ℕ} {other : Result (Unit {0}) Fault} (result : Result (Unit {0}) Fault) → IsErr result → Puts a b p q xs other → Puts a b p q ys result
puts_failed result err puts = record {
  same = puts.same;
  first = puts.first;
  last = puts.last;
  reached = not_ok _ result err;
  front = λ honest. not_ok _ result err;
  any_moment = puts.any_moment;
}

pub puts_as : {a b : DiskView} {p q : Pieces} {xs ys : List ℕ} {result : Result (Unit {0}) Fault} → xs ≡ ys → Puts a b p q xs result → Puts a b p q ys result
puts_as {a} {b} {p} {q} {xs} {ys} {result} same puts = subst (λ (l : List ℕ). Puts a b p q l result) same puts

pub cause_more : {a b c : ℕ} {first : Result (Unit {0}) Fault} (result : Result (Unit {0}) Fault) → HasCause a b first → HasCause b c result → HasCause a c result
cause_more result one two = record { later = omega (arith, one.later, two.later); risen = λ err below. omega (arith, one.later, two.risen err below) }

pub leaves_within : {a b : DiskView} {p q : Pieces} {xs : List ℕ} {result : Result (Unit {0}) Fault} (start end : ℕ) → IsEmptyFrom p start end → Puts a b p q xs result → LeavesWithin a b start end
leaves_within {a} {b} {p} start end is puts = subst (λ (n : ℕ). LeavesWithin a b start n) is.last (subst (λ (n : ℕ). LeavesWithin a b n p.last) is.first puts.any_moment)

pub room_left : {a b : DiskView} {p q : Pieces} {xs : List ℕ} {done : Unit {0}} (n m : ℕ) → HasSpace a p n → Puts a b p q xs (Ok done) → length xs + m ≤ n → HasSpace b q m
room_left n m room puts le = record {
  within = omega (arith, room.within, puts.reached, puts.last, le);
  inside = omega (arith, room.inside, puts.last, puts.same.sectors);
}

-- the calls of an honest disk
module _ {D : Type 0} (view : D → DiskView) (laws : (disk : D) → (view disk).honest → IsDisk (view disk)) where
  -- bytes that go into the piece alone
  pub taken : (disk : D) (p q : Pieces) (bytes : List ℕ) (done : Unit {0}) → q.first ≡ p.first → q.last ≡ p.last → q.at ≡ p.at → q.piece.items ≡ p.piece.items ++ bytes
      → Puts (view disk) (view disk) p q bytes (Ok done)
  taken disk p q bytes done first last at items = record {
    same = record { sectors = refl; honest = (λ is. is, λ is. is) };
    first = first;
    last = last;
    reached = omega (arith, at, ap length items, length-append p.piece.items bytes);
    front = λ honest.
        ap (λ (n : ℕ). take (512 * n) (view disk).content ++ q.piece.items) at ∙ ap (λ (l : List ℕ). take (512 * p.at) (view disk).content ++ l) items
        ∙ sym (append_assoc (take (512 * p.at) (view disk).content) p.piece.items bytes);
    any_moment = λ honest was left. let run = started view laws disk (DiffersWithin p.first p.last was) honest left in (run.leaves, run.now);
  }

  pub nothing : (disk : D) (p : Pieces) (done : Unit {0}) → Puts (view disk) (view disk) p p [] (Ok done)
  nothing disk p done = taken disk p p [] done refl refl refl (sym (append-nil p.piece.items))

  module _ (old new : D) (p : Pieces) (result : Result (Unit {0}) Fault) (room : HasSpace (view old) p 0) (behind : p.first ≤ p.at) (same : IsSameDisk (view old) (view new))
      (call : (view old).honest → IsWrite (view old) (view new) (512 * p.at) p.piece.items result) where
    moments : LeavesWithin (view old) (view new) p.first p.last
    moments honest was left =
        let run = writes view laws (view old) old new (DiffersWithin p.first p.last was) (512 * p.at) p.piece.items result
        (started view laws old (DiffersWithin p.first p.last was) honest left) same call
        (λ earlier image may differ. written_within p.first p.last was p.at (length p.piece.items) earlier image behind (omega (arith, room.within)) (left earlier may) differ) in
        (run.leaves, run.now)

    pub flush_failed : (outcome : Result (Unit {0}) Fault) → IsErr outcome → Puts (view old) (view new) p p [] outcome
    flush_failed outcome err = record { same = same; first = refl; last = refl; reached = not_ok _ outcome err; front = λ honest. not_ok _ outcome err; any_moment = moments }

    pub flush_done : (q : Pieces) (done : Unit {0}) → result ≡ Ok done → q.first ≡ p.first → q.last ≡ p.last → 512 * q.at ≡ reached p → q.piece.items ≡ [] → Puts (view old) (view new) p q [] (Ok done)
    flush_done q done was first last at empty = record {
      same = same;
      first = first;
      last = last;
      reached = omega (arith, at, ap length empty);
      front = λ honest.
          let write = subst (λ (r : Result (Unit {0}) Fault). IsWrite (view old) (view new) (512 * p.at) p.piece.items r) was (call honest) in
          front_flushed (view old).content (view new).content p q (omega (arith, (laws old honest).size, room.within, room.inside)) at empty write.content;
      any_moment = moments;
    }

-- ## The bytes that are put

none_of_two : (a b : Option RecordError) → first_of_two a b ≡ None → (a ≡ None) × (b ≡ None)
none_of_two (Some e) b is = absurd cc
none_of_two None b is = (refl, is)

pub zeros_ending : (size count : ℕ) → count ≡ 512 * sectors_for size - size → take (count + 512) (replicate 1024 0) ≡ ending size
zeros_ending size count is =
    take-replicate (count + 512) 1024 0 (omega (arith, is)) ∙ sym (replicate-append-replicate count 512 0) ∙ ap (λ (n : ℕ). replicate n 0 ++ replicate 512 0) is

-- the rows from this one on
pub rows_from : (rows : List EventRow) (i : ℕ) (row : EventRow) → i < length rows → row ≡ get_or rows i row → flat_map row_text (drop i rows) ≡ row_text row ++ flat_map row_text (drop (i + 1) rows)
rows_from rows i row lt is =
    ap (λ (l : List EventRow). flat_map row_text l) (drop_more rows i row lt) ∙ ap (λ (r : EventRow). row_text r ++ flat_map row_text (drop (i + 1) rows)) (sym is)

-- the rows up to this one
pub rows_to : (rows : List EventRow) (i : ℕ) (row : EventRow) → i < length rows → row ≡ get_or rows i row → flat_map row_text (take i rows) ++ row_text row ≡ flat_map row_text (take (i + 1) rows)
rows_to rows i row lt is =
    flat_map_more row_text [] (take i rows) row ∙ ap (λ (r : EventRow). flat_map row_text (take i rows ++ r ∷ [])) is ∙ ap (λ (l : List EventRow). flat_map row_text l) (sym (take_more rows i row lt))

-- the fault of the first row that has one
pub none_from : (rows : List EventRow) (i : ℕ) (row : EventRow) → i < length rows → row ≡ get_or rows i row → rows_fault (drop i rows) ≡ None → (row_fault row ≡ None) × (rows_fault (drop (i + 1) rows) ≡ None)
none_from rows i row lt is none =
    none_of_two (row_fault row) (rows_fault (drop (i + 1) rows))
    (ap (λ (r : EventRow). first_of_two (row_fault r) (rows_fault (drop (i + 1) rows))) is ∙ sym (ap rows_fault (drop_more rows i row lt)) ∙ none)

pub same_parts : (header text : List ℕ) (size : ℕ) → size ≡ length text → ((header ++ text) ++ ending size) ++ [] ≡ header ++ (padded text ++ replicate 512 0)
same_parts header text size is =
    append-nil ((header ++ text) ++ ending size) ∙ append_assoc header text (ending size)
    ∙ ap (λ (n : ℕ). header ++ (text ++ ending n)) is ∙ ap (λ (l : List ℕ). header ++ l) (sym (append_assoc text (replicate (512 * sectors_for (length text) - length text) 0) (replicate 512 0)))

-- the first bytes, and so many behind them
pub bytes_to : (bytes : List ℕ) (done count : ℕ) → (take done bytes ++ []) ++ take count (drop done bytes) ≡ take (done + count) bytes
bytes_to bytes done count =
    ap (λ (l : List ℕ). l ++ take count (drop done bytes)) (append-nil (take done bytes))
    ∙ ap (λ (l : List ℕ). l ++ take count (drop done bytes)) (sym (take-take done (done + count) bytes (omega arith)))
    ∙ ap (λ (l : List ℕ). take done (take (done + count) bytes) ++ l) (sym (drop-take done count bytes))
    ∙ take-append-drop done (take (done + count) bytes)
