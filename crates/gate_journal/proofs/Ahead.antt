-- What images hold while a staged frame is opened and the next one is staged.
use Rattle.std.proofs.Common.{◌≡◌, inl, inr, ℕ, ◌+◌, ◌*◌, ◌≤◌, ◌==◌, true, List, ◌++◌, length, take, drop, replicate, Result, Ok, refl, sym, ◌∙◌, ap, subst, arith, length-append, take-append-drop}
use Rattle.std.proofs.lemmas.Bool.{cases_Bool}
use Rattle.std.proofs.lemmas.List.{get_or_append_left, take_at}
use Rattle.invoke_records.specs.declared.command.Command.{Command}
use Rattle.invoke_records.specs.Spelling.{commands_text}
use Rattle.invoke_records.specs.laws.Commands.{command_again}
use Rattle.sector_disk.specs.declared.disk.Fault.{Fault}
use Rattle.sector_disk.specs.Disk.{DiskView, IsDisk, IsSameDisk, HasOneImage, IsWrite, IsBarrier, Holds, MayDiffer}
use Rattle.sector_disk.specs.Moments.{LeavesOnly}
use Rattle.sector_disk.specs.laws.Moments.{Run, started, writes, settles, leaves_weaker}
use Rattle.sector_disk.specs.laws.Written.{same_part, written_from, written_differs}
use Rattle.gate_journal.specs.declared.area.Area.{Area}
use Rattle.gate_journal.specs.declared.staged.Staged.{Staged}
use Rattle.gate_journal.specs.Frames.{Frames, is_open, body_sectors, body_text, frames_in, frames_with, SameOutside}
use Rattle.gate_journal.specs.Journal.{IsBeforeOrAfter}
use Rattle.gate_journal.specs.Staged.{IsStaged, IsBefore}
use Rattle.gate_journal.proofs.Parts.{byte, first_of, front_of}
use Rattle.gate_journal.proofs.Written.{IsSpelled, spelled, body_length}
use Rattle.gate_journal.proofs.Placed.{outside, outside_twice, place, closed, reads_before, reads_after}

-- how many bytes a frame has
pub frame_length : (g m : ℕ) (commands : List Command) (frame : List ℕ) → frame ≡ body_text g m commands ++ replicate 512 0
    → length frame ≡ 512 * (body_sectors (length (commands_text commands)) + 1)
frame_length g m commands frame is = ap length is ∙ omega (arith, length-append (body_text g m commands) (replicate {A = ℕ} 512 0), body_length g m commands)

-- an area of some content in which a frame of these commands fits behind these frames
module _ (content : List ℕ) (area : Area) (frames : Frames) (commands : List Command) (reads : frames_in area content ≡ Ok frames) (inside : 512 * area.end ≤ length content)
    (text_spelled : IsSpelled area.generation frames.number commands (body_text area.generation frames.number commands))
    (room : frames.next + body_sectors (length (commands_text commands)) + 2 ≤ area.end) where
  abbrev gate_here : ℕ
  gate_here = 512 * frames.next

  abbrev body : List ℕ
  body = body_text area.generation frames.number commands

  pub before_nothing : IsBefore area frames content content
  before_nothing = record { reads = reads; outside = record { size = refl; front = refl; behind = refl } }

  -- any bytes behind the closed gate leave the frames as they were
  pub before_still : (n : ℕ) (c : List ℕ) → gate_here + 512 + n ≤ 512 * area.end → MayDiffer (gate_here + 512) n content c → IsBefore area frames content c
  before_still n c within differ = record {
    reads = reads_before area content frames reads inside commands body text_spelled room c differ.size
        (same_part (gate_here + 512) 0 gate_here c content differ.before (omega arith))
        (ap (λ (x : ℕ). x == 1) (first_of gate_here c ∙ byte (gate_here + 512) gate_here c content differ.before (omega arith) ∙ sym (first_of gate_here content))
        ∙ closed area content frames reads inside commands body text_spelled room);
    outside = outside area (gate_here + 512) n content c differ (omega (arith, place area content frames reads inside commands body text_spelled room)) within;
  }

  -- the calls of a staging, on an honest disk
  module _ {D : Type 0} (view : D → DiskView) (laws : (disk : D) → (view disk).honest → IsDisk (view disk)) (old : D) (is_content : content ≡ (view old).content)
      (honest : (view old).honest) (settled : HasOneImage (view old)) (frame : List ℕ) (within : gate_here + 512 + length frame ≤ 512 * area.end) (next : ℕ) (next_is : next ≡ frames.next)
      (one : D) (done : Result (Unit {0}) Fault) (same : IsSameDisk (view old) (view one))
      (write : (view old).honest → IsWrite (view old) (view one) (512 * (next + 1)) frame done) where
    abbrev Unchanged : List ℕ → Type 0
    Unchanged = IsBefore area frames content

    beside : 512 * (next + 1) ≡ gate_here + 512
    beside = omega (arith, next_is)

    pub staging_run : Run (view old) (view one) Unchanged
    staging_run =
        writes view laws (view old) old one Unchanged _ _ done
        (started view laws old Unchanged honest (λ image left. subst Unchanged (is_content ∙ sym (settled image left)) before_nothing)) same write
        (λ earlier image left differ.
        before_still (length frame) image within
        (subst (λ (k : ℕ). MayDiffer k (length frame) content image) beside
        (subst (λ (l : List ℕ). MayDiffer (512 * (next + 1)) (length frame) l image) (settled earlier left ∙ sym is_content) differ)))

    module _ (two : D) (done_two : Result (Unit {0}) Fault) (same_two : IsSameDisk (view one) (view two))
        (barrier : (view one).honest → IsBarrier (view one) (view two) done_two) where
      pub staging_settled : Run (view old) (view two) Unchanged
      staging_settled = settles view laws (view old) one two Unchanged done_two staging_run same_two barrier

    -- what is there then
    pub staged_there : (two : D) → ((view old).honest → IsWrite (view old) (view one) (512 * (next + 1)) frame (Ok tt))
        → ((view one).honest → IsBarrier (view one) (view two) (Ok tt))
        → HasOneImage (view two) × IsBefore area frames content (view two).content
        × (drop (gate_here + 512) (view two).content ≡ frame ++ drop (gate_here + 512 + length frame) content)
    staged_there two wrote settles_it =
        let done_it = settles_it staging_run.honest in
        let fits_in : gate_here + 512 + length frame ≤ length content = omega (arith, within, inside) in
        let there : Holds content (gate_here + 512) frame (view one).content =
        subst (λ (k : ℕ). Holds content k frame (view one).content) beside
        (subst (λ (l : List ℕ). Holds l (512 * (next + 1)) frame (view one).content) (sym is_content) (wrote honest).content) in (
          done_it.done,
          subst Unchanged (sym done_it.content) (before_still (length frame) (view one).content within (written_differs content (gate_here + 512) frame (view one).content fits_in there)),
          ap (drop (gate_here + 512)) done_it.content ∙ written_from content (gate_here + 512) frame (view one).content fits_in there,
        )

-- an area of some content with a frame staged behind these frames
module _ (content : List ℕ) (area : Area) (frames : Frames) (commands : List Command) (staged : Staged) (reads : frames_in area content ≡ Ok frames)
    (inside : 512 * area.end ≤ length content) (s : IsStaged area frames commands staged content) where
  abbrev text : List ℕ
  text = body_text area.generation frames.number commands

  text_spelled : IsSpelled area.generation frames.number commands text
  text_spelled = spelled command_again area.generation frames.number commands s.commands_fit s.generation_fits s.numbers_fit s.count_fits s.size_fits

  room : frames.next + body_sectors (length (commands_text commands)) + 2 ≤ area.end
  room = omega (arith, s.room, s.sectors)

  -- where the gate before the staged frame stands, and the first byte behind the closed one that follows it
  abbrev pub at : ℕ
  at = 512 * frames.next

  abbrev pub kept : ℕ
  kept = length text + 512

  abbrev pub behind : ℕ
  behind = 512 * (frames.next + staged.sectors + 1)

  pub behind_is : behind ≡ at + 512 + kept
  behind_is = omega (arith, s.sectors, text_spelled.size)

  starts : area.start ≤ frames.next
  starts = place area content frames reads inside commands text text_spelled room

  -- an image in which the gate may be any, and so may be what stands behind the closed gate
  pub record Torn (c : List ℕ) : Type 0 where
    pub size : length c ≡ length content
    pub front : take at c ≡ take at content
    pub kept_is : take kept (drop (at + 512) c) ≡ take kept (drop (at + 512) content)
    pub only_there : SameOutside area content c

  pub torn_nowhere : Torn content
  torn_nowhere = record { size = refl; front = refl; kept_is = refl; only_there = record { size = refl; front = refl; behind = refl } }

  pub torn_gate : (c : List ℕ) → MayDiffer at 512 content c → Torn c
  torn_gate c differ = record {
    size = differ.size;
    front = differ.before;
    kept_is = ap (take kept) differ.after;
    only_there = outside area at 512 content c differ (omega (arith, starts)) (omega (arith, room));
  }

  pub torn_behind : (n : ℕ) (b c : List ℕ) → behind + n ≤ 512 * area.end → Torn b → MayDiffer behind n b c → Torn c
  torn_behind n b c within torn differ = record {
    size = differ.size ∙ torn.size;
    front = front_of behind at c b differ.before (omega (arith, behind_is)) ∙ torn.front;
    kept_is = same_part behind (at + 512) kept c b differ.before (omega (arith, behind_is)) ∙ torn.kept_is;
    only_there = outside_twice area content b c torn.only_there (outside area behind n b c differ (omega (arith, starts, behind_is)) within);
  }

  -- the staged body and its closed gate stand in each such image
  there : (c : List ℕ) → Torn c → drop (at + 512) c ≡ (text ++ s.gate) ++ drop kept (drop (at + 512) c)
  there c torn =
      let front : take kept (drop (at + 512) c) ≡ text ++ s.gate =
      torn.kept_is ∙ ap (take kept) s.is ∙ take_at (text ++ s.gate) s.rest kept (length-append text s.gate ∙ ap (λ (n : ℕ). length text + n) s.whole) in
      sym (take-append-drop kept (drop (at + 512) c)) ∙ ap (λ (l : List ℕ). l ++ drop kept (drop (at + 512) c)) front

  pub opened_reads : (c : List ℕ) → Torn c → is_open (drop at c) ≡ true → frames_in area c ≡ Ok (frames_with frames commands)
  opened_reads c torn open_gate =
      reads_after area content frames reads inside commands text text_spelled room c torn.size torn.front s.gate (drop kept (drop (at + 512) c)) s.whole s.shut (there c torn) open_gate

  pub before_or_after : (c : List ℕ) → Torn c → IsBeforeOrAfter area frames commands content c
  before_or_after c torn = record {
    reads = elim (cases_Bool (is_open (drop at c))) [
      | inl open_gate ↦ inr (opened_reads c torn open_gate)
      | inr shut ↦ inl (reads_before area content frames reads inside commands text text_spelled room c torn.size torn.front shut)
    ];
    outside = torn.only_there;
  }

  -- the gate is open once it is written
  module _ (gate : List ℕ) (whole : length gate ≡ 512) (open_gate : is_open gate ≡ true) (c : List ℕ) (wrote : Holds content at gate c) where
    gate_fits : at + length gate ≤ length content
    gate_fits = omega (arith, whole, room, inside)

    pub gate_differs : MayDiffer at 512 content c
    gate_differs = subst (λ (n : ℕ). MayDiffer at n content c) whole (written_differs content at gate c gate_fits wrote)

    pub is_open_now : is_open (drop at c) ≡ true
    is_open_now =
        ap is_open (written_from content at gate c gate_fits wrote)
        ∙ ap (λ (x : ℕ). x == 1) (get_or_append_left gate (drop (at + length gate) content) 0 0 (omega (arith, whole))) ∙ open_gate

    -- and stays open when the next frame is written
    module _ (frame d : List ℕ) (within : behind + length frame ≤ 512 * area.end) (wrote_next : Holds c behind frame d) where
      long : length c ≡ length content
      long = gate_differs.size

      next_fits : behind + length frame ≤ length c
      next_fits = omega (arith, within, inside, long)

      next_differs : MayDiffer behind (length frame) c d
      next_differs = written_differs c behind frame d next_fits wrote_next

      pub torn_now : Torn d
      torn_now = torn_behind (length frame) c d within (torn_gate c gate_differs) next_differs

      pub is_open_still : is_open (drop at d) ≡ true
      is_open_still =
          ap (λ (x : ℕ). x == 1) (first_of at d ∙ byte behind at d c next_differs.before (omega (arith, behind_is)) ∙ sym (first_of at c)) ∙ is_open_now

      pub next_there : drop behind d ≡ frame ++ drop (behind + length frame) c
      next_there = written_from c behind frame d next_fits wrote_next

-- the calls of an opening and of an advance, on an honest disk
module _ {D : Type 0} (view : D → DiskView) (laws : (disk : D) → (view disk).honest → IsDisk (view disk)) (old : D) (honest : (view old).honest) (settled : HasOneImage (view old))
    (area : Area) (frames : Frames) (commands : List Command) (staged : Staged) (reads : frames_in area (view old).content ≡ Ok frames)
    (inside : 512 * area.end ≤ length (view old).content) (s : IsStaged area frames commands staged (view old).content) where
  abbrev content : List ℕ
  content = (view old).content

  abbrev Good : List ℕ → Type 0
  Good = Torn content area frames commands staged reads inside s

  abbrev here : ℕ
  here = at content area frames commands staged reads inside s

  abbrev next_place : ℕ
  next_place = behind content area frames commands staged reads inside s

  weaker : (image : List ℕ) → Good image → IsBeforeOrAfter area frames commands content image
  weaker = before_or_after content area frames commands staged reads inside s

  -- what a run leaves
  pub leaves : (new : DiskView) → Run (view old) new Good → LeavesOnly (view old) new (IsBeforeOrAfter area frames commands content)
  leaves new run = leaves_weaker (IsBeforeOrAfter area frames commands content) weaker run.leaves

  -- the gate is written
  module _ (next : ℕ) (next_is : next ≡ frames.next) (gate : List ℕ) (whole : length gate ≡ 512) (one : D) (done : Result (Unit {0}) Fault) (same : IsSameDisk (view old) (view one))
      (write : (view old).honest → IsWrite (view old) (view one) (512 * next) gate done) where
    gate_at : 512 * next ≡ here
    gate_at = ap (λ (k : ℕ). 512 * k) next_is

    pub gate_run : Run (view old) (view one) Good
    gate_run =
        writes view laws (view old) old one Good _ _ done
        (started view laws old Good honest (λ image left. subst Good (sym (settled image left)) (torn_nowhere content area frames commands staged reads inside s))) same write
        (λ earlier image left differ.
        torn_gate content area frames commands staged reads inside s image
        (subst (λ (k : ℕ). MayDiffer k 512 content image) gate_at
        (subst (λ (n : ℕ). MayDiffer (512 * next) n content image) whole
        (subst (λ (l : List ℕ). MayDiffer (512 * next) (length gate) l image) (settled earlier left) differ))))

    -- and settled
    module _ (two : D) (done_two : Result (Unit {0}) Fault) (same_two : IsSameDisk (view one) (view two))
        (barrier : (view one).honest → IsBarrier (view one) (view two) done_two) where
      pub gate_settled : Run (view old) (view two) Good
      gate_settled = settles view laws (view old) one two Good done_two gate_run same_two barrier

    -- the bytes that are there then
    gate_there : (view old).honest → ((view old).honest → IsWrite (view old) (view one) (512 * next) gate (Ok tt)) → Holds content here gate (view one).content
    gate_there h wrote = subst (λ (k : ℕ). Holds content k gate (view one).content) gate_at (wrote h).content

    -- the staged frame is opened
    pub opened : (two : D) → is_open gate ≡ true → ((view old).honest → IsWrite (view old) (view one) (512 * next) gate (Ok tt))
        → ((view one).honest → IsBarrier (view one) (view two) (Ok tt))
        → HasOneImage (view two) × (frames_in area (view two).content ≡ Ok (frames_with frames commands)) × SameOutside area content (view two).content
    opened two open_gate wrote settles_it =
        let done = settles_it gate_run.honest in
        let there = gate_there honest wrote in
        let torn = torn_gate content area frames commands staged reads inside s (view one).content
        (gate_differs content area frames commands staged reads inside s gate whole open_gate (view one).content there) in
        let read = opened_reads content area frames commands staged reads inside s (view one).content torn
        (is_open_now content area frames commands staged reads inside s gate whole open_gate (view one).content there) in
        (done.done, ap (frames_in area) done.content ∙ read, subst (λ (l : List ℕ). SameOutside area content l) (sym done.content) torn.only_there)

    -- the next frame is written behind it
    module _ (frame : List ℕ) (within : next_place + length frame ≤ 512 * area.end) (place_next : ℕ) (place_is : 512 * place_next ≡ next_place)
        (two : D) (done_two : Result (Unit {0}) Fault) (same_two : IsSameDisk (view one) (view two))
        (write_next : (view one).honest → IsWrite (view one) (view two) (512 * place_next) frame done_two) where
      pub next_run : Run (view old) (view two) Good
      next_run =
          writes view laws (view old) one two Good _ _ done_two gate_run same_two write_next
          (λ earlier image left differ.
          torn_behind content area frames commands staged reads inside s (length frame) earlier image within (gate_run.now earlier left)
          (subst (λ (k : ℕ). MayDiffer k (length frame) earlier image) place_is differ))

      -- and settled
      module _ (three : D) (done_three : Result (Unit {0}) Fault) (same_three : IsSameDisk (view two) (view three))
          (barrier : (view two).honest → IsBarrier (view two) (view three) done_three) where
        pub next_settled : Run (view old) (view three) Good
        next_settled = settles view laws (view old) two three Good done_three next_run same_three barrier

      -- what is there then: the staged frame, and behind its gate the next one
      pub advanced : (three : D) → is_open gate ≡ true → ((view old).honest → IsWrite (view old) (view one) (512 * next) gate (Ok tt))
          → ((view one).honest → IsWrite (view one) (view two) (512 * place_next) frame (Ok tt))
          → ((view two).honest → IsBarrier (view two) (view three) (Ok tt))
          → HasOneImage (view three) × (frames_in area (view three).content ≡ Ok (frames_with frames commands)) × SameOutside area content (view three).content
          × (drop next_place (view three).content ≡ frame ++ drop (next_place + length frame) (view one).content)
      advanced three open_gate wrote wrote_next settles_it =
          let done = settles_it next_run.honest in
          let there = gate_there honest wrote in
          let there_next = subst (λ (k : ℕ). Holds (view one).content k frame (view two).content) place_is (wrote_next gate_run.honest).content in
          let torn = torn_now content area frames commands staged reads inside s gate whole open_gate (view one).content there frame (view two).content within there_next in
          let read = opened_reads content area frames commands staged reads inside s (view two).content torn
          (is_open_still content area frames commands staged reads inside s gate whole open_gate (view one).content there frame (view two).content within there_next) in
          let behind_it = next_there content area frames commands staged reads inside s gate whole open_gate (view one).content there frame (view two).content within there_next in (
            done.done,
            ap (frames_in area) done.content ∙ read,
            subst (λ (l : List ℕ). SameOutside area content l) (sym done.content) torn.only_there,
            ap (drop next_place) done.content ∙ behind_it,
          )
