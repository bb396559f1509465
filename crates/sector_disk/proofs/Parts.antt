-- A read or a write of a file that is done in parts.
use Rattle.std.proofs.Common.{◌≡◌, ℕ, ◌+◌, ◌-◌, ◌≤◌, List, [], ◌++◌, length, take, drop, Result, Ok, Err, inl, inr, ⊎_elim, refl, sym, ◌∙◌, ap, subst, arith, append_assoc, append-nil, take-add, take-append-drop, length-append, length-drop}
use borrow.Rule.Slice.PartMut.{put_mid, post_of}
use Rattle.std.proofs.Math.Seq.{take-append-add}
use Rattle.std.proofs.lemmas.List.{take_all, take_at, take-take, drop-drop, take-append-le, take_rest, length-take-le}
use Rattle.sector_disk.specs.declared.disk.Fault.{Fault}
use Rattle.sector_disk.specs.Disk.{Holds, MayDiffer, Elapses}
use Rattle.sector_disk.specs.RandomAccess.{FileView, seen_as, IsUnchanged, IsReadAt, IsWriteAt}
use Rattle.sector_disk.specs.WholeCalls.{IsWholeWrite}
use Rattle.sector_disk.specs.laws.Moments.{untouched_at_first, untouched_more}
use Rattle.sector_disk.specs.laws.Written.{written_behind}

pub unchanged_at_first : (file : FileView) → IsUnchanged file file
unchanged_at_first file sectors = untouched_at_first (seen_as sectors file)

pub unchanged_more : {a b c : FileView} → IsUnchanged a b → IsUnchanged b c → IsUnchanged a c
unchanged_more first second sectors = untouched_more (first sectors) (second sectors)

-- in front of out stand so many bytes of the file, which is as it was
pub record IsReadTo (old new : FileView) (at done : ℕ) (out : List ℕ) : Type 0 where
  pub bytes : take done out ≡ take done (drop at old.content)
  pub unchanged : IsUnchanged old new

pub read_at_first : (file : FileView) (at : ℕ) (out : List ℕ) → IsReadTo file file at 0 out
read_at_first file at out = record { bytes = refl; unchanged = unchanged_at_first file }

-- one part more
pub read_more : {old mid new : FileView} {at done count : ℕ} (k : ℕ) (out part : List ℕ) → done ≤ length out → count ≤ length part → IsReadTo old mid at done out
    → IsReadAt mid new (at + done) part (Ok count) → IsReadTo old new at (done + count) (put_mid done k out part)
read_more {old} {mid} {new} {at} {done} {count} k out part within enough was call = record {
  bytes = front ∙ (λ i. was.bytes i ++ here i) ∙ sym (take-add done count (drop at old.content));
  unchanged = unchanged_more was.unchanged call.unchanged;
}
  where
    size : length (take done out) ≡ done
    size = length-take-le done out within

    front : take (done + count) (put_mid done k out part) ≡ take done out ++ take count part
    front =
        ap (λ (n : ℕ). take (n + count) (put_mid done k out part)) (sym size)
        ∙ take-append-add (take done out) (part ++ post_of done k out) count
        ∙ ap (λ (l : List ℕ). take done out ++ l) (take-append-le count part (post_of done k out) enough)

    here : take count part ≡ take count (drop done (drop at old.content))
    here =
        call.bytes ∙ ap (λ (l : List ℕ). take count (drop (at + done) l)) (was.unchanged 0).content
        ∙ ap (λ (l : List ℕ). take count l) (sym (drop-drop done at old.content))

-- whatever a write of the n bytes from this place on did, it did no more
pub record MayWrite (old new : FileView) (at n : ℕ) : Type 0 where
  pub size : length new.content ≡ length old.content
  pub images : (image : List ℕ) → new.may_leave image → (earlier : List ℕ) × old.may_leave earlier × MayDiffer at n earlier image
  pub keeps : (image : List ℕ) → old.may_leave image → new.may_leave image
  pub time : (sectors : ℕ) → Elapses (seen_as sectors old) (seen_as sectors new)

pub may_write : {old new : FileView} {at : ℕ} {bytes : List ℕ} {result : Result ℕ Fault} → IsWriteAt old new at bytes result → MayWrite old new at (length bytes)
may_write call = record { size = call.size; images = call.images; keeps = call.keeps; time = call.time }

differs_not : (at n : ℕ) (image : List ℕ) → MayDiffer at n image image
differs_not at n image = record { size = refl; before = refl; after = refl }

differs_more : (at n done : ℕ) (a b c : List ℕ) → done ≤ n → MayDiffer at n a b → MayDiffer (at + done) (n - done) b c → MayDiffer at n a c
differs_more at n done a b c within first second =
    let end : at + done + (n - done) ≡ at + n = omega (arith, within) in
    let low : at ≤ at + done = omega arith in
    record {
      size = second.size ∙ first.size;
      before = sym (take-take at (at + done) c low) ∙ ap (λ (l : List ℕ). take at l) second.before ∙ take-take at (at + done) b low ∙ first.before;
      after = ap (λ (k : ℕ). drop k c) (sym end) ∙ second.after ∙ ap (λ (k : ℕ). drop k b) end ∙ first.after;
    }

may_write_more : {a b c : FileView} (at n done : ℕ) → done ≤ n → MayWrite a b at n → MayWrite b c (at + done) (n - done) → MayWrite a c at n
may_write_more {a} {b} {c} at n done within first second = record {
  size = second.size ∙ first.size;
  images = λ image left.
      let late = second.images image left in
      let early = first.images late.0 late.1 in
      (early.0, early.1, differs_more at n done early.0 late.0 image within early.2 late.2);
  keeps = λ image left. second.keeps image (first.keeps image left);
  time = λ sectors.
      let before = first.time sectors in
      let after = second.time sectors in
      record {
        later = omega (arith, before.later, after.later);
        nothing_else = λ t image le left.
            ⊎_elim (λ was. ⊎_elim (λ still. inl still) (λ then. inr (second.keeps image then)) (before.nothing_else t image le was)) (λ now. inr now)
            (after.nothing_else t image (omega (arith, le, before.later)) left);
        keeps = λ t image le left. after.keeps t image (omega (arith, le, before.later)) (before.keeps t image le left);
      };
}

-- so many of these bytes stand from this place on
pub record IsWrittenTo (old new : FileView) (at : ℕ) (bytes : List ℕ) (done : ℕ) : Type 0 where
  pub content : Holds old.content at (take done bytes) new.content
  pub may : MayWrite old new at (length bytes)

holds_nothing : (content : List ℕ) (at : ℕ) → Holds content at [] content
holds_nothing content at =
    let here : at ≡ at + 0 = omega arith in
    sym (take-append-drop at content) ∙ (λ i. sym (append-nil (take at content)) i ++ drop (here i) content)

pub written_at_first : (file : FileView) (at : ℕ) (bytes : List ℕ) → IsWrittenTo file file at bytes 0
written_at_first file at bytes = record {
  content = holds_nothing file.content at;
  may = record {
    size = refl;
    images = λ image left. (image, left, differs_not at (length bytes) image);
    keeps = λ image left. left;
    time = λ sectors. (untouched_at_first (seen_as sectors file)).time;
  };
}

holds_more : (old mid new bytes : List ℕ) (at done count : ℕ) → at + length bytes ≤ length old → done ≤ length bytes → count ≤ length bytes - done → Holds old at (take done bytes) mid
    → Holds mid (at + done) (take count (drop done bytes)) new → Holds old at (take (done + count) bytes) new
holds_more old mid new bytes at done count within le more first second =
    second ∙ (λ i. (front i ++ there) ++ behind i) ∙ (λ i. append_assoc (take at old) here there i ++ drop (end i) old)
    ∙ (λ i. take at old ++ sym both i ++ drop (at + length (sym both i)) old)
  where
    here : List ℕ
    here = take done bytes

    there : List ℕ
    there = take count (drop done bytes)

    both : take (done + count) bytes ≡ here ++ there
    both = take-add done count bytes

    here_size : length here ≡ done
    here_size = length-take-le done bytes le

    prefix_size : length (take at old ++ here) ≡ at + done
    prefix_size = omega (arith, length-append (take at old) here, length-take-le at old (omega (arith, within)), here_size)

    front : take (at + done) mid ≡ take at old ++ here
    front =
        ap (λ (l : List ℕ). take (at + done) l) first
        ∙ take_at (take at old ++ here) (drop (at + length here) old) (at + done) prefix_size

    behind : drop (at + done + length there) mid ≡ drop (at + done + length there) old
    behind = written_behind old at here mid (omega (arith, within, le, here_size)) first (at + done + length there) (omega (arith, here_size))

    end : at + done + length there ≡ at + length (here ++ there)
    end = omega (arith, length-append here there, here_size)

-- the bytes from the done ones on
abbrev pub rest_of : List ℕ → ℕ → List ℕ
rest_of bytes done = take (length bytes - done) (drop done bytes)

rest_size : (bytes : List ℕ) (done : ℕ) → length (rest_of bytes done) ≡ length bytes - done
rest_size bytes done = ap length (take_rest bytes done) ∙ length-drop done bytes

-- the rest has its places too
pub rest_fits : {old mid : FileView} {at done : ℕ} {bytes : List ℕ} → at + length bytes ≤ length old.content → done ≤ length bytes → IsWrittenTo old mid at bytes done
    → at + done + length (rest_of bytes done) ≤ length mid.content
rest_fits {old} {mid} {at} {done} {bytes} fits le was = omega (arith, fits, le, was.may.size, rest_size bytes done)

may_write_rest : {old mid new : FileView} {at done : ℕ} {bytes : List ℕ} {result : Result ℕ Fault} → done ≤ length bytes → IsWrittenTo old mid at bytes done
    → IsWriteAt mid new (at + done) (rest_of bytes done) result → MayWrite old new at (length bytes)
may_write_rest {old} {mid} {new} {at} {done} {bytes} le was call =
    may_write_more at (length bytes) done le was.may (subst (λ (n : ℕ). MayWrite mid new (at + done) n) (rest_size bytes done) (may_write call))

-- one part more
pub written_more : {old mid new : FileView} {at done count : ℕ} {bytes : List ℕ} → at + length bytes ≤ length old.content → done ≤ length bytes → count ≤ length (rest_of bytes done)
    → IsWrittenTo old mid at bytes done → IsWriteAt mid new (at + done) (rest_of bytes done) (Ok count) → IsWrittenTo old new at bytes (done + count)
written_more {old} {mid} {new} {at} {done} {count} {bytes} fits le enough was call = record {
  content = holds_more old.content mid.content new.content bytes at done count fits le (omega (arith, enough, rest_size bytes done)) was.content
      (subst (λ (l : List ℕ). Holds mid.content (at + done) (take count l) new.content) (take_rest bytes done) call.content);
  may = may_write_rest le was call;
}

-- a part that failed
pub written_failed : {old mid new : FileView} {at done : ℕ} {bytes : List ℕ} {result : Result ℕ Fault} (fault : Fault) → done ≤ length bytes → IsWrittenTo old mid at bytes done
    → IsWriteAt mid new (at + done) (rest_of bytes done) result → IsWholeWrite old new at bytes (Err fault)
written_failed fault le was call =
    let may = may_write_rest le was call in
    record { size = may.size; write = λ sectors. record { content = tt; images = may.images; time = may.time sectors } }

-- the last part
pub written_whole : {old new : FileView} {at done : ℕ} {bytes : List ℕ} → length bytes ≤ done → IsWrittenTo old new at bytes done → IsWholeWrite old new at bytes (Ok tt)
written_whole {old} {new} {at} {done} {bytes} all was = record {
  size = was.may.size;
  write = λ sectors. record {
    content = subst (λ (l : List ℕ). Holds old.content at l new.content) (take_all done bytes all) was.content;
    images = was.may.images;
    time = was.may.time sectors;
  };
}
