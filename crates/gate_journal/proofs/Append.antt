-- The steps of an append.
use Rattle.std.proofs.Common.{◌≡◌, inl, inr, ℕ, ◌+◌, ◌*◌, ◌≤◌, ◌==◌, true, false, List, ◌++◌, length, take, drop, Result, Ok, refl, sym, ◌∙◌, ap, subst, arith, length-append}
use Rattle.std.proofs.lemmas.Bool.{cases_Bool}
use Rattle.std.proofs.lemmas.List.{get_or_append_left}
use Rattle.invoke_records.specs.declared.command.Command.{Command}
use Rattle.invoke_records.specs.Spelling.{commands_text}
use Rattle.sector_disk.specs.declared.disk.Fault.{Fault}
use Rattle.sector_disk.specs.Disk.{DiskView, IsDisk, IsSameDisk, HasOneImage, IsWrite, IsBarrier, Holds, MayDiffer}
use Rattle.sector_disk.specs.laws.Moments.{Run, started, writes, settles}
use Rattle.sector_disk.specs.laws.Written.{same_part, written_front, written_from, written_differs}
use Rattle.gate_journal.specs.declared.area.Area.{Area}
use Rattle.gate_journal.specs.Frames.{Frames, is_open, body_sectors, frames_in, frames_with, SameOutside}
use Rattle.gate_journal.specs.Journal.{IsBeforeOrAfter}
use Rattle.gate_journal.proofs.Parts.{byte, first_of}
use Rattle.gate_journal.proofs.Written.{IsSpelled}
use Rattle.gate_journal.proofs.Placed.{outside, outside_twice, place, closed, reads_before, reads_after}

-- an area of some content that holds these frames, a batch, its body's bytes and a closed gate
pub record Batch (content : List ℕ) : Type 0 where
  pub area : Area
  pub frames : Frames
  pub next : ℕ
  pub commands : List Command
  pub text : List ℕ
  pub gate : List ℕ
  pub reads : frames_in area content ≡ Ok frames
  pub next_is : next ≡ frames.next
  pub inside : 512 * area.end ≤ length content
  pub spelled : IsSpelled area.generation frames.number commands text
  pub room : frames.next + body_sectors (length (commands_text commands)) + 2 ≤ area.end
  pub whole : length gate ≡ 512
  pub shut : is_open gate ≡ false

module _ (content : List ℕ) (b : Batch content) where
  -- what is written behind the gate
  abbrev pub frame : List ℕ
  frame = b.text ++ b.gate

  -- where its gate stands
  abbrev pub at : ℕ
  at = 512 * b.frames.next

  -- what each image is
  abbrev pub P : List ℕ → Type 0
  P = IsBeforeOrAfter b.area b.frames b.commands content

  frame_size : length frame ≡ 512 * (body_sectors (length (commands_text b.commands)) + 1)
  frame_size = omega (arith, length-append b.text b.gate, b.whole, b.spelled.size)

  starts : b.area.start ≤ b.frames.next
  starts = place b.area content b.frames b.reads b.inside b.commands b.text b.spelled b.room

  fits : at + 512 + length frame ≤ 512 * b.area.end
  fits = omega (arith, frame_size, b.room)

  within : at + 512 + length frame ≤ length content
  within = omega (arith, fits, b.inside)

  -- what the content itself is
  pub untouched : P content
  untouched = record { reads = inl b.reads; outside = record { size = refl; front = refl; behind = refl } }

  -- a body behind the closed gate leaves the frames as they were
  pub staged : (c : List ℕ) → MayDiffer (at + 512) (length frame) content c → P c
  staged c differ = record {
    reads = inl (reads_before b.area content b.frames b.reads b.inside b.commands b.text b.spelled b.room c differ.size (same_part (at + 512) 0 at c content differ.before (omega arith))
        (ap (λ (x : ℕ). x == 1) (first_of at c ∙ byte (at + 512) at c content differ.before (omega arith) ∙ sym (first_of at content))
        ∙ closed b.area content b.frames b.reads b.inside b.commands b.text b.spelled b.room));
    outside = outside b.area (at + 512) (length frame) content c differ (omega (arith, starts)) fits;
  }

  -- the content with the body behind the gate, and the gate torn
  module _ (body : List ℕ) (holds : Holds content (at + 512) frame body) (c : List ℕ) (differ : MayDiffer at 512 body c) where
    size : length c ≡ length content
    size = differ.size ∙ (written_differs content (at + 512) frame body within holds).size

    front : take at c ≡ take at content
    front = differ.before ∙ same_part (at + 512) 0 at body content (written_front content (at + 512) frame body within holds) (omega arith)

    behind : drop (at + 512) c ≡ frame ++ drop (at + 512 + length frame) content
    behind = differ.after ∙ written_from content (at + 512) frame body within holds

    only_there : SameOutside b.area content c
    only_there =
        outside_twice b.area content body c
        (outside b.area (at + 512) (length frame) content body (written_differs content (at + 512) frame body within holds) (omega (arith, starts)) fits)
        (outside b.area at 512 body c differ (omega (arith, starts)) (omega (arith, fits)))

    opened_reads : is_open (drop at c) ≡ true → frames_in b.area c ≡ Ok (frames_with b.frames b.commands)
    opened_reads = reads_after b.area content b.frames b.reads b.inside b.commands b.text b.spelled b.room c size front b.gate (drop (at + 512 + length frame) content) b.whole b.shut behind

    pub gated : P c
    gated = record {
      reads = elim (cases_Bool (is_open (drop at c))) [
        | inl open_gate ↦ inr (opened_reads open_gate)
        | inr shut ↦ inl (reads_before b.area content b.frames b.reads b.inside b.commands b.text b.spelled b.room c size front shut)
      ];
      outside = only_there;
    }

  -- the gate open
  pub opened : (body : List ℕ) → Holds content (at + 512) frame body → (gate c : List ℕ) → length gate ≡ 512 → is_open gate ≡ true → Holds body at gate c
      → (frames_in b.area c ≡ Ok (frames_with b.frames b.commands)) × SameOutside b.area content c
  opened body holds gate c whole open_gate wrote =
      let long : length body ≡ length content = (written_differs content (at + 512) frame body within holds).size in
      let fits_in : at + length gate ≤ length body = omega (arith, whole, within, long) in
      let differ : MayDiffer at 512 body c = subst (λ (n : ℕ). MayDiffer at n body c) whole (written_differs body at gate c fits_in wrote) in
      let is_open_there : is_open (drop at c) ≡ true =
      ap is_open (written_from body at gate c fits_in wrote)
      ∙ ap (λ (x : ℕ). x == 1) (get_or_append_left gate (drop (at + length gate) body) 0 0 (omega (arith, whole))) ∙ open_gate in
      (opened_reads body holds c differ is_open_there, only_there body holds c differ)

-- the calls of an append on an honest disk
module _ {D : Type 0} (view : D → DiskView) (laws : (disk : D) → (view disk).honest → IsDisk (view disk)) (old : D) (b : Batch (view old).content) (honest : (view old).honest)
    (settled : HasOneImage (view old)) where
  abbrev content : List ℕ
  content = (view old).content

  abbrev Good : List ℕ → Type 0
  Good = P content b

  abbrev gate_at : at content b ≡ 512 * b.next
  gate_at = ap (λ (k : ℕ). 512 * k) (sym b.next_is)

  beside : 512 * (b.next + 1) ≡ at content b + 512
  beside = omega (arith, b.next_is)

  -- the body is written
  module _ (one : D) (done : Result (Unit {0}) Fault) (same : IsSameDisk (view old) (view one))
      (write : (view old).honest → IsWrite (view old) (view one) (512 * (b.next + 1)) (frame content b) done) where
    pub body_run : Run (view old) (view one) Good
    body_run =
        writes view laws (view old) old one Good _ _ done
        (started view laws old Good honest (λ image left. subst Good (sym (settled image left)) (untouched content b))) same write
        (λ earlier image left differ.
        staged content b image
        (subst (λ (k : ℕ). MayDiffer k (length (frame content b)) content image) beside
        (subst (λ (l : List ℕ). MayDiffer (512 * (b.next + 1)) (length (frame content b)) l image) (settled earlier left) differ)))

    -- and settled
    module _ (two : D) (done_two : Result (Unit {0}) Fault) (same_two : IsSameDisk (view one) (view two))
        (barrier : (view one).honest → IsBarrier (view one) (view two) done_two) where
      pub body_settled : Run (view old) (view two) Good
      body_settled = settles view laws (view old) one two Good done_two body_run same_two barrier

      -- and the gate is written
      module _ (wrote : (view old).honest → IsWrite (view old) (view one) (512 * (b.next + 1)) (frame content b) (Ok tt))
          (settles_it : (view one).honest → IsBarrier (view one) (view two) (Ok tt)) (gate : List ℕ) (whole : length gate ≡ 512)
          (three : D) (done_three : Result (Unit {0}) Fault) (same_three : IsSameDisk (view two) (view three))
          (gate_write : (view two).honest → IsWrite (view two) (view three) (512 * b.next) gate done_three) where
        one_image : HasOneImage (view two)
        one_image = (settles_it body_run.honest).done

        holds : Holds content (at content b + 512) (frame content b) (view two).content
        holds =
            subst (λ (k : ℕ). Holds content k (frame content b) (view two).content) beside
            (subst (λ (l : List ℕ). Holds content (512 * (b.next + 1)) (frame content b) l) (sym (settles_it body_run.honest).content) (wrote honest).content)

        pub gate_run : Run (view old) (view three) Good
        gate_run =
            writes view laws (view old) two three Good _ _ done_three body_settled same_three gate_write
            (λ earlier image left differ.
            gated content b (view two).content holds image
            (subst (λ (k : ℕ). MayDiffer k 512 (view two).content image) (sym gate_at)
            (subst (λ (n : ℕ). MayDiffer (512 * b.next) n (view two).content image) whole
            (subst (λ (l : List ℕ). MayDiffer (512 * b.next) (length gate) l image) (one_image earlier left) differ))))

        -- and settled
        module _ (four : D) (done_four : Result (Unit {0}) Fault) (same_four : IsSameDisk (view three) (view four))
            (barrier_two : (view three).honest → IsBarrier (view three) (view four) done_four) where
          pub gate_settled : Run (view old) (view four) Good
          gate_settled = settles view laws (view old) three four Good done_four gate_run same_four barrier_two

        -- what is there then
        pub appended : (four : D) → is_open gate ≡ true → ((view two).honest → IsWrite (view two) (view three) (512 * b.next) gate (Ok tt))
            → ((view three).honest → IsBarrier (view three) (view four) (Ok tt))
            → HasOneImage (view four) × (frames_in b.area (view four).content ≡ Ok (frames_with b.frames b.commands)) × SameOutside b.area content (view four).content
        appended four open_gate gate_wrote settles_two =
            let now = opened content b (view two).content holds gate (view three).content whole open_gate
            (subst (λ (k : ℕ). Holds (view two).content k gate (view three).content) (sym gate_at) (gate_wrote body_settled.honest).content) in
            let done = settles_two gate_run.honest in
            (done.done, ap (frames_in b.area) done.content ∙ now.0, subst (λ (l : List ℕ). SameOutside b.area content l) (sym done.content) now.1)
