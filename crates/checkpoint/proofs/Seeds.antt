-- A disk that is formatted with a whole table: what a stop leaves of it, and what it then recovers to.
use Rattle.std.proofs.Common.{◌≡◌, ◌⊎◌, inl, inr, ⊎_elim, ℕ, ◌+◌, ◌-◌, ◌*◌, ◌/◌, ◌≤◌, true, false, List, length, take, None, Err, refl, sym, ◌∙◌, ap, arith}
use Rattle.std.proofs.lemmas.Bool.{cases_Bool, true≢false, false≢true}
use Rattle.sector_disk.specs.Disk.{DiskView, IsDisk}
use Rattle.sector_disk.specs.laws.Written.{same_part}
use Rattle.retry_rules.specs.declared.settings.Settings.{Settings}
use Rattle.retry_rules.specs.Settings.{bad_field}
use Rattle.invoke_records.specs.declared.snapshot.Snapshot.{Snapshot}
use Rattle.invoke_records.specs.Spelling.{IsSnapshot}
use Rattle.gate_journal.specs.Frames.{is_open}
use Rattle.checkpoint.specs.declared.error.OpenError.TheVariants.{NotFormatted}
use Rattle.checkpoint.specs.Image.{sector_at, least_sectors, segment_text, recovered, HasGeneration}
use Rattle.checkpoint.specs.Live.{RecoversTo, may_stand}
use Rattle.checkpoint.specs.Pieces.{DiffersWithin, StandsFrom}
use Rattle.checkpoint.specs.Formatting.{DiffersInGates, IsOldButForGates, IsSeeding, IsNoneOrWhole, IsUnformatted}
use Rattle.checkpoint.specs.FormatSteps.{HoldsFirst, IsClosed}
use Rattle.checkpoint.specs.SwitchSteps.{IsBeingClosed, IsSwitching, IsSwitched}
use Rattle.checkpoint.specs.SeedSteps.{HasOpenGate, IsClosing, IsBeingSeeded}
use Rattle.checkpoint.proofs.Ranges.{later_same}
use Rattle.checkpoint.proofs.Stops.{unchanged}
use Rattle.checkpoint.proofs.Lives.{image_refused}
use Rattle.checkpoint.proofs.Firsts.{none_open}
use Rattle.checkpoint.proofs.Held.{recovered_as_written}
use Rattle.checkpoint.proofs.Unread.{closed_there}

-- ## A gate that is closed if it is open

-- an image while it is, by what the gate was
abbrev pub Shutting : ℕ → List ℕ → List ℕ → Type 0
Shutting sector was = IsBeingClosed sector (is_open (sector_at sector was)) was

-- ## Both gates

module _ (old : DiskView) (disk : IsDisk old) (second : ℕ) (far : 1 ≤ second) where
  a_differs : (image : List ℕ) → DiffersWithin 0 1 old.content image → DiffersInGates second old.content image
  a_differs image differs = record {
    size = differs.size;
    between = ap (λ (l : List ℕ). take (512 * second - 512) l) differs.behind;
    behind = later_same 512 (512 * second + 512) image old.content differs.behind (omega (arith, far));
  }

  b_differs : (mid image : List ℕ) → DiffersWithin 0 1 old.content mid → DiffersWithin second (second + 1) mid image → DiffersInGates second old.content image
  b_differs mid image one two = record {
    size = two.size ∙ one.size;
    between =
        same_part (512 * second) 512 (512 * second - 512) image mid two.before (omega (arith, far))
        ∙ ap (λ (l : List ℕ). take (512 * second - 512) l) one.behind;
    behind =
        later_same (512 * (second + 1)) (512 * second + 512) image mid two.behind (omega arith)
        ∙ later_same 512 (512 * second + 512) mid old.content one.behind (omega (arith, far));
  }

  gate_b_kept : (image : List ℕ) → DiffersWithin 0 1 old.content image → sector_at second image ≡ sector_at second old.content
  gate_b_kept image differs = ap (λ (l : List ℕ). take 512 l) (later_same 512 (512 * second) image old.content differs.behind (omega (arith, far)))

  gate_a_kept : (mid image : List ℕ) → DiffersWithin second (second + 1) mid image → sector_at 0 image ≡ sector_at 0 mid
  gate_a_kept mid image differs = same_part (512 * second) 0 512 image mid differs.before (omega (arith, far))

  -- that of A is closed first
  pub first_closing : (image : List ℕ) → Shutting 0 old.content image → IsClosing old second image
  first_closing image is =
      let was : IsOldButForGates old second image = (old.content, disk.reads_an_image, a_differs image is.0) in
      ⊎_elim (λ opened. inl (inr (inl opened, was)))
      (λ shut.
      ⊎_elim (λ opened. inl (inr (inr opened, was)))
      (λ closed. inr (is.0.size ∙ disk.size, record { gate_a = shut; gate_b = ap is_open (gate_b_kept image is.0) ∙ closed }))
      (cases_Bool (is_open (sector_at second old.content))))
      is.1

  module _ (mid : List ℕ) (one : DiffersWithin 0 1 old.content mid) (shut_a : is_open (sector_at 0 mid) ≡ false) where
    -- and then that of B
    pub second_closing : (image : List ℕ) → Shutting second mid image → IsClosing old second image
    second_closing image is = ⊎_elim
        (λ opened. inl (inr (inr (ap is_open (sym (gate_b_kept mid one)) ∙ opened), (old.content, disk.reads_an_image, b_differs mid image one is.0))))
        (λ shut. inr (is.0.size ∙ one.size ∙ disk.size, record { gate_a = ap is_open (gate_a_kept mid image is.0) ∙ shut_a; gate_b = shut }))
        is.1

    pub both_shut : (image : List ℕ) → DiffersWithin second (second + 1) mid image → is_open (sector_at second image) ≡ false → IsClosed second image
    both_shut image two shut = record { gate_a = ap is_open (gate_a_kept mid image two) ∙ shut_a; gate_b = shut }

-- ## The segment

module _ (second : ℕ) (segment mid : List ℕ) (closed : IsClosed second mid) where
  gate_b_shut : (image : List ℕ) → DiffersWithin 0 (0 + second) mid image → is_open (sector_at second image) ≡ false
  gate_b_shut image differs =
      ap (λ (l : List ℕ). is_open (take 512 l)) (later_same (512 * (0 + second)) (512 * second) image mid differs.behind (omega arith)) ∙ closed.gate_b

  closed_or_whole : (image : List ℕ) → DiffersWithin 0 (0 + second) mid image → (is_open (sector_at 0 image) ≡ false) ⊎ StandsFrom 1 segment image
      → IsClosed second image ⊎ HoldsFirst second segment image
  closed_or_whole image differs is =
      let gate_b = gate_b_shut image differs in
      ⊎_elim (λ shut. inl (record { gate_a = shut; gate_b = gate_b }))
      (λ stands.
      ⊎_elim (λ opened. inr (record { gate_a = opened; gate_b = gate_b; behind = stands })) (λ shut. inl (record { gate_a = shut; gate_b = gate_b }))
      (cases_Bool (is_open (sector_at 0 image))))
      is

  -- behind closed gates it is written, and its gate is opened
  pub being_written : (old : DiskView) → length mid ≡ 512 * old.sectors → (image : List ℕ) → IsSwitching 0 second false segment mid image → IsBeingSeeded old second segment image
  being_written old size image = ⊎_elim
      (λ no. absurd (false≢true no.0))
      (λ writing.
      let whole : length image ≡ 512 * old.sectors = writing.0.size ∙ size in
      ⊎_elim (λ shut. inl (inr (whole, shut))) (λ holds. inr (whole, holds)) (closed_or_whole image writing.0 writing.1))

  pub first_there : (image : List ℕ) → IsSwitched 0 second segment mid image → HoldsFirst second segment image
  first_there image is = record { gate_a = is.gate; gate_b = gate_b_shut image is.differs; behind = is.stands }

-- ## What is recovered

module _ (s : Settings) (good : bad_field s ≡ None) (snapshot : Snapshot) (spelled : IsSnapshot snapshot) (stands : may_stand s snapshot ≡ true) (sectors : ℕ) (room : least_sectors s ≤ sectors) where
  -- a segment that stands alone recovers to its snapshot
  pub alone_recovers : (image : List ℕ) → length image ≡ 512 * sectors → HoldsFirst (sectors / 2) (segment_text 1 s snapshot) image → RecoversTo s snapshot image × HasGeneration 1 image
  alone_recovers image size holds = recovered_as_written 1 s snapshot 0 (sectors / 2) image (record {
    good = good;
    spelled = spelled;
    stands = stands;
    low = omega arith;
    high = omega arith;
    sectors = sectors;
    size = size;
    room = room;
    sides = inl (refl, refl);
    gate = holds.gate_a;
    behind = holds.behind;
    beside = inl holds.gate_b;
  })

module _ (old : DiskView) (s : Settings) (good : bad_field s ≡ None) (snapshot : Snapshot) (spelled : IsSnapshot snapshot) (stands : may_stand s snapshot ≡ true) (room : least_sectors s ≤ old.sectors) where
  abbrev Step : List ℕ → Type 0
  Step = IsBeingSeeded old (old.sectors / 2) (segment_text 1 s snapshot)

  enough : 6 ≤ old.sectors
  enough = omega (arith, room)

  closed_is_none : (image : List ℕ) → length image ≡ 512 * old.sectors → IsClosed (old.sectors / 2) image → recovered image ≡ Err NotFormatted
  closed_is_none image size closed = image_refused image NotFormatted (none_open old.sectors image size enough closed)

  whole_there : (image : List ℕ) → (length image ≡ 512 * old.sectors) × HoldsFirst (old.sectors / 2) (segment_text 1 s snapshot) image → RecoversTo s snapshot image
  whole_there image holds = (alone_recovers s good snapshot spelled stands old.sectors room image holds.0 holds.1).0

  -- what a stop leaves on the way
  pub being_seeded : (image : List ℕ) → Step image → IsSeeding old s snapshot image
  being_seeded image = ⊎_elim
      (λ closing.
      ⊎_elim (λ was. inl (⊎_elim (λ left. unchanged old image left) (λ gates. gates.1) was)) (λ closed. inr (inl (closed_is_none image closed.0 closed.1))) closing)
      (λ holds. inr (inr (whole_there image holds)))

  -- where the disk reads as not formatted, no gate is open that could be torn
  pub old_or_whole : IsDisk old → recovered old.content ≡ Err NotFormatted → (image : List ℕ) → Step image → old.may_leave image ⊎ IsNoneOrWhole s snapshot image
  old_or_whole disk none image =
      let was = closed_there old.sectors old.content disk.size enough none in
      let shut : HasOpenGate (old.sectors / 2) old.content → ⊥ = ⊎_elim (λ a. true≢false (sym a ∙ was.gate_a)) (λ b. true≢false (sym b ∙ was.gate_b)) in
      ⊎_elim
      (λ closing.
      ⊎_elim (λ was. ⊎_elim (λ left. inl left) (λ gates. absurd (shut gates.0)) was) (λ closed. inr (inl (closed_is_none image closed.0 closed.1))) closing)
      (λ holds. inr (inr (whole_there image holds)))

  pub none_or_whole : IsDisk old → IsUnformatted old → (image : List ℕ) → Step image → IsNoneOrWhole s snapshot image
  none_or_whole disk none image step =
      ⊎_elim (λ left. inl (none image left)) (λ is. is) (old_or_whole disk (none old.content disk.reads_an_image) image step)
