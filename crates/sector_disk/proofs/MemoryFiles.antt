-- What a file in memory gives and records.
use Rattle.std.proofs.Common.{◌≡◌, ℕ, ◌+◌, ◌-◌, ◌≤◌, min, List, [], ◌∷◌, ◌++◌, length, take, drop, Result, Ok, Err, OnOk, OnErr, inl, inr, sym, ◌∙◌, ap, subst, arith, length-drop}
use Rattle.std.proofs.lemmas.Bool.{cases_lt}
use Rattle.std.proofs.lemmas.List.{drop-drop, length-take-le}
use Rattle.sector_disk.specs.declared.replay.Call.{Call}
use Rattle.sector_disk.specs.declared.replay.Call.TheVariants.{Write, Barrier}
use Rattle.sector_disk.specs.Disk.{Holds, MayDiffer}
use Rattle.sector_disk.specs.Replay.{content_after, IsImage, LeftSince}
use Rattle.sector_disk.specs.RandomAccess.{FileView, IsReadAt, IsWriteAt}
use Rattle.sector_disk.specs.laws.Written.{written_size, written_here}
use Rattle.sector_disk.proofs.Calls.{content-barrier, images-write, images-keep, no_shorter, left_before, left_after}
use Rattle.sector_disk.proofs.Parts.{unchanged_at_first}

-- a file of this content, which had that at first, after these calls
abbrev pub seen : List ℕ → List Call → List ℕ → FileView
seen first calls content = record {
  content = content;
  may_leave = IsImage first calls;
  moment = length calls;
  left_since = LeftSince first calls;
  honest = Unit {0};
}

-- so many bytes from a place on that were copied to the front of out
front_of : (content out new part : List ℕ) (from count : ℕ) → from + count ≤ length content → count ≤ length out → part ≡ take count (drop from content) → Holds out 0 part new
    → take count new ≡ take count (drop from content)
front_of content out new part from count within enough is holds =
    let size : length part ≡ count = ap length is ∙ length-take-le count (drop from content) (omega (arith, within, length-drop from content)) in
    ap (λ (n : ℕ). take n new) (sym size) ∙ written_here out 0 part new (omega (arith, size, enough)) holds ∙ is

-- a place within the file or at its end, and how many bytes are read there
pub read_is : (file : FileView) (at from count : ℕ) (out new part : List ℕ) → from ≡ min (length file.content) at → count ≤ length file.content - from → count ≤ length out
    → part ≡ take count (drop from file.content) → Holds out 0 part new → IsReadAt file file at new (Ok count)
read_is file at from count out new part place within enough is holds = record {
  bytes = elim (cases_lt (length file.content) at) [
    | inl past ↦
        let none : count ≡ 0 = omega (arith, place, within, past) in
        ap (λ (n : ℕ). take n new) none ∙ sym (ap (λ (n : ℕ). take n (drop at file.content)) none)
    | inr inside ↦
        let here : from ≡ at = omega (arith, place, inside) in
        front_of file.content out new part from count (omega (arith, place, within)) enough is holds ∙ ap (λ (k : ℕ). take count (drop k file.content)) here
  ];
  unchanged = unchanged_at_first file;
}

-- the part that may differ may be longer
differs_longer : (at n more : ℕ) (old new : List ℕ) → n ≤ more → MayDiffer at n old new → MayDiffer at more old new
differs_longer at n more old new le differs =
    let end : at + n + (more - n) ≡ at + more = omega (arith, le) in
    let there = λ (xs : List ℕ). ap (λ (k : ℕ). drop k xs) (sym end) ∙ sym (drop-drop (more - n) (at + n) xs) in
    record {
      size = differs.size;
      before = differs.before;
      after = there new ∙ ap (λ (l : List ℕ). drop (more - n) l) differs.after ∙ sym (there old);
    }

-- a part of these bytes that was written, and recorded as a call
pub write_is : (first : List ℕ) (calls later : List Call) (content new bytes part : List ℕ) (at from count : ℕ) (copy : _) → at + length bytes ≤ length content → from ≡ at → count ≤ length bytes
    → part ≡ take count bytes → later ≡ calls ++ Write from copy ∷ [] → copy.items ≡ part → Holds content from part new
    → IsWriteAt (seen first calls content) (seen first later new) at bytes (Ok count)
write_is first calls later content new bytes part at from count copy fits here enough is adds copied holds = record {
  content = holds ∙ (λ i. take (here i) content ++ is i ++ drop (here i + length (is i)) content);
  size = written_size content from part new (omega (arith, fits, here, enough, size)) holds;
  images = λ image left.
      let was = images-write calls first (λ (l : List ℕ). l ≡ first) from copy image (subst (λ (cs : List Call). IsImage first cs image) adds left) in
      let placed : MayDiffer at (length copy.items) was.0 image = subst (λ (k : ℕ). MayDiffer k (length copy.items) was.0 image) here was.2 in
      (was.0, was.1, differs_longer at (length copy.items) (length bytes) was.0 image (omega (arith, enough, size, ap length copied)) placed);
  keeps = λ image may.
      subst (λ (cs : List Call). IsImage first cs image) (sym adds)
      (images-keep calls first (λ (l : List ℕ). l ≡ first) from copy image may);
  time = λ sectors. record {
    later = no_shorter first calls later (Write from copy) adds;
    nothing_else = λ t image le left. left_after first calls later (Write from copy) adds t image left;
    keeps = λ t image le left. left_before first calls later (Write from copy) adds t image left;
  };
}
  where
    size : length part ≡ count
    size = ap length is ∙ length-take-le count bytes enough

-- a sync leaves the content, whether there was memory to record it or not
pub sync_is : {E : Type 0} (result : Result (Unit {0}) E) (first bytes : List ℕ) (calls later : List Call) → OnOk result (later ≡ calls ++ Barrier ∷ []) → OnErr result (later ≡ calls)
    → bytes ≡ content_after calls first → bytes ≡ content_after later first
sync_is (Ok done) first bytes calls later adds same was =
    was ∙ sym (content-barrier calls first) ∙ ap (λ (cs : List Call). content_after cs first) (sym adds)
sync_is (Err why) first bytes calls later adds same was = was ∙ ap (λ (cs : List Call). content_after cs first) (sym same)
