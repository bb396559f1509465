-- What an image reads while the other segment is made the live one, and once it is.
use Rattle.std.proofs.Common.{◌≡◌, ◌⊎◌, inl, inr, ⊎_elim, ℕ, ◌+◌, ◌-◌, ◌*◌, ◌/◌, ◌^◌, ◌<◌, ◌≤◌, true, false, List, length, take, drop, Option, Some, None, is_some, is_none, Ok, refl, sym, ◌∙◌, ap, subst, arith}
use Rattle.std.proofs.lemmas.Bool.{cases_Bool, and_parts}
use Rattle.sector_disk.specs.laws.Written.{same_part}
use Rattle.sector_disk.specs.Disk.{DiskView, IsDisk, HasOneImage}
use Rattle.sector_disk.specs.Moments.{LeavesOnly}
use Rattle.retry_rules.specs.declared.settings.Settings.{Settings}
use Rattle.retry_rules.specs.Settings.{bad_field}
use Rattle.invoke_records.specs.declared.snapshot.Snapshot.{Snapshot}
use Rattle.invoke_records.specs.Spelling.{snapshot_text, snapshot_fault, IsSnapshot}
use Rattle.invoke_records.specs.declared.version.Version.{Version}
use Rattle.invoke_records.specs.declared.version.Version.TheVariants.{Two}
use Rattle.invoke_records.specs.Reading.{whole_at}
use Rattle.invoke_records.specs.laws.Snapshots.{whole_again}
use Rattle.async_core.specs.Limits.{is_within}
use Rattle.async_core.specs.laws.Limits.{spelled_within}
use Rattle.gate_journal.specs.declared.area.Area.{Area}
use Rattle.gate_journal.specs.Frames.{is_open, sectors_for, Frames, frames_in, no_frames}
use Rattle.gate_journal.specs.Journal as journal
use Rattle.checkpoint.specs.declared.opened.Opened.{Opened}
use Rattle.checkpoint.specs.Image.{SegmentImage, DiskImage, half, sector_at, segment_sectors, least_sectors, header_text, segment_text, area_of, open_header, segment_at, read_image}
use Rattle.checkpoint.specs.Live.{IsLiveIn, IsLive, RecoversTo, RecoversToEither, ReadsAs, ReadsToEither, settings_of, may_stand, live_reads, reads_as, as_new}
use Rattle.checkpoint.specs.Pieces.{DiffersWithin, StandsFrom, parts_text}
use Rattle.checkpoint.specs.Image.{other_base}
use Rattle.checkpoint.specs.SwitchSteps.{HasGate, IsSwitching, IsSwitched}
use Rattle.checkpoint.specs.Held.{AreSides}
use Rattle.checkpoint.proofs.Images.{is_open_at, IsBeside, IsDiskImage, image_is, header_is, header_is_not, header_there, shut_header}
use Rattle.checkpoint.proofs.Parts.{parts, header_room, inner, behind, open_header_same, segment_same}
use Rattle.checkpoint.proofs.Sides as sides
use Rattle.checkpoint.proofs.Appends.{beside_same}
use Rattle.checkpoint.proofs.Rewrites.{wider, leaves_one}
use Rattle.checkpoint.proofs.Placed.{header, placed, header_found, segment_found, no_frames_yet}

-- an image whose live segment, at this sector, is a snapshot without frames
pub record IsNext (s : Settings) (snapshot : Snapshot) (generation base h : ℕ) (image : List ℕ) : Type 0 where
  pub what : DiskImage
  pub is : IsDiskImage h image what
  pub version : what.live.version ≡ Two
  pub settings : what.live.settings ≡ s
  pub table : what.live.table ≡ snapshot
  pub base_is : what.live.base ≡ base
  pub generation_is : what.live.generation ≡ generation
  pub older : is_some what.older ≡ true
  pub area : what.live.area ≡ area_of base h (record { version = Two; generation = generation; size = length (snapshot_text snapshot); settings = s }) snapshot
  pub frames : what.live.frames ≡ no_frames (snapshot.number + 1) (base + 2 + sectors_for (length (snapshot_text snapshot)))
  pub reads : frames_in what.live.area image ≡ Ok what.live.frames

-- an image that differs from one in the other segment alone
module _ (h : ℕ) (was image : List ℕ) (what : DiskImage) (is : IsDiskImage h was what) (differs : DiffersWithin is.other (is.other + h) was image) where
  room : sectors_for is.header.size + 5 ≤ h
  room = header_room h _ is.header (header_is is.base h was is.header is.opened).1

  base_same : (behind is.base h image ≡ behind is.base h was) × (is_open_at is.base image ≡ is_open_at is.base was)
  base_same = elim is.sides [
    | inl a ↦
        let place : 512 * (is.base + 1) + 512 * (h - 1) ≤ 512 * is.other = omega (arith, a.0, a.1, room) in (
          same_part (512 * is.other) (512 * (is.base + 1)) (512 * (h - 1)) image was differs.before place,
          ap is_open (same_part (512 * is.other) (512 * is.base) 512 image was differs.before (omega (arith, a.0, a.1, room))),
        )
    | inr b ↦
        let from : is.base ≡ is.other + h = omega (arith, b.0, b.1) in
        let all : drop (512 * is.base) image ≡ drop (512 * is.base) was = ap (λ (n : ℕ). drop (512 * n) image) from ∙ differs.behind ∙ ap (λ (n : ℕ). drop (512 * n) was) (sym from) in (
          inner (512 * is.base) (512 * h) (512 * (is.base + 1)) (512 * (h - 1)) image was (ap (λ (l : List ℕ). take (512 * h) l) all) (omega arith) (omega (arith, room)),
          ap (λ (l : List ℕ). is_open (take 512 l)) all,
        )
  ]

  opened_still : open_header is.base h image ≡ Ok (Some is.header)
  opened_still = open_header_same is.base h (omega (arith, room)) image was base_same.0 base_same.1 ∙ is.opened

  live_still : segment_at is.base h is.header image ≡ Ok what.live
  live_still = segment_same is.base h (omega (arith, room)) image was base_same.0 is.header room ∙ is.live

  halves : half image ≡ h
  halves = ap (λ (n : ℕ). n / 512 / 2) differs.size ∙ is.halves

  -- while its gate is closed, the live segment stands alone
  pub alone_there : is_open_at is.other image ≡ false → IsDiskImage h image (record { live = what.live; older = None })
  alone_there shut = record {
    enough = omega (arith, is.enough, differs.size);
    halves = halves;
    base = is.base;
    other = is.other;
    sides = is.sides;
    header = is.header;
    opened = opened_still;
    live = live_still;
    beside = shut_header is.other h image shut;
  }

  -- while only its gate differs and is open, it stands as it stood
  pub both_there : DiffersWithin is.other (is.other + 1) was image → is_open_at is.other image ≡ is_open_at is.other was → IsDiskImage h image what
  both_there gate same = record {
    enough = omega (arith, is.enough, differs.size);
    halves = halves;
    base = is.base;
    other = is.other;
    sides = is.sides;
    header = is.header;
    opened = opened_still;
    live = live_still;
    beside = beside_same h is.other is.header.version is.header.generation image was (omega (arith, room))
        (ap (λ (l : List ℕ). take (512 * (h - 1)) l) gate.behind) same what.older is.beside;
  }

  other_sides : AreSides h is.other is.base
  other_sides = ⊎_elim (λ a. inr (a.1, a.0)) (λ b. inl (b.1, b.0)) is.sides

  -- once its gate is open over a spelled segment of the next generation, that is live
  module _ (s : Settings) (good : bad_field s ≡ None) (snapshot : Snapshot) (spelled : IsSnapshot snapshot) (within : is_within s snapshot ≡ true) (generation : ℕ)
      (next : generation ≡ is.header.generation + 1) (high : generation ≤ 2 ^ 62) (below : length (snapshot_text snapshot) < 2 ^ 64) (fits : segment_sectors s ≤ h)
      (opened : is_open_at is.other image ≡ true) (text : StandsFrom (is.other + 1) (segment_text generation s snapshot) image) where
    pub again : whole_at Two (snapshot_text snapshot) ≡ Ok snapshot
    again = whole_again snapshot spelled

    pub low : 1 ≤ generation
    low = omega (arith, next)

    pub switched_there : IsNext s snapshot generation is.other h image
    switched_there =
        let small = spelled_within s snapshot within spelled in
        record {
          what = record { live = placed generation s good snapshot low high small below again within is.other h fits image text; older = Some what.live };
          is = record {
            enough = omega (arith, is.enough, differs.size);
            halves = halves;
            base = is.other;
            other = is.base;
            sides = other_sides;
            header = header generation s good snapshot;
            opened = header_there is.other h image (header generation s good snapshot) opened
                (header_found generation s good snapshot low high small below again within is.other h fits image text);
            live = segment_found generation s good snapshot low high small below again within is.other h fits image text;
            beside = (is.header, opened_still, omega (arith, next), refl, live_still);
          };
          version = refl;
          settings = refl;
          table = refl;
          base_is = refl;
          generation_is = refl;
          older = refl;
          area = refl;
          frames = refl;
          reads = no_frames_yet generation s good snapshot low high small below again within is.other h fits image text;
        }

-- ## A live disk

-- a snapshot that may stand is within the limits
pub stands_within : (s : Settings) (snapshot : Snapshot) → may_stand s snapshot ≡ true → is_within s snapshot ≡ true
stands_within s snapshot stands = (and_parts (is_none (snapshot_fault snapshot)) (is_within s snapshot) stands).1

-- the bytes of the segment, its header spelled before
pub parts_are : (generation size : ℕ) (s : Settings) (snapshot : Snapshot) (header given : List ℕ) → given ≡ header → header ≡ header_text generation size s → size ≡ length (snapshot_text snapshot)
    → parts_text given snapshot ≡ segment_text generation s snapshot
parts_are generation size s snapshot header given same is told =
    ap (λ (l : List ℕ). parts_text l snapshot) (same ∙ is ∙ ap (λ (n : ℕ). header_text generation n s) told)

-- no call yet
pub not_called : {D : Type 0} (view : D → DiskView) (laws : (disk : D) → (view disk).honest → IsDisk (view disk)) (disk : D) (version : Version) (opened : Opened) (before snapshot : Snapshot) → (view disk).honest
    → IsLiveIn version (view disk) opened before → LeavesOnly (view disk) (view disk) (ReadsToEither version (settings_of opened) before snapshot)
not_called view laws disk version opened before snapshot honest live =
    leaves_one view laws disk (ReadsToEither version (settings_of opened) before snapshot) honest live.settled
    (inl (live_reads version (view disk) opened before live (view disk).content (laws disk honest).reads_an_image))

-- of version 2, what reads to either recovers to it
pub both_new : (s : Settings) (before snapshot : Snapshot) (image : List ℕ) → ReadsToEither Two s before snapshot image → RecoversToEither s before snapshot image
both_new s before snapshot image = ⊎_elim (λ reads. inl (as_new s before image reads)) (λ is. inr is)

pub recovers : (s : Settings) (image : List ℕ) (what : DiskImage) (table : Snapshot) → read_image image ≡ Ok what → what.live.version ≡ Two → what.live.settings ≡ s → what.live.table ≡ table → RecoversTo s table image
recovers s image what table reads version settings is = as_new s table image (reads_as Two s image what table reads version settings is)

beside_open : (h other : ℕ) (version : Version) (generation : ℕ) (image : List ℕ) (older : Option SegmentImage) → IsBeside h other version generation image (open_header other h image) older → is_open_at other image ≡ is_some older
beside_open h other version generation image None is = header_is_not other h image is
beside_open h other version generation image (Some older) (o, opened, below, kept, is) = (header_is other h image o opened).0

module _ (version : Version) (disk : DiskView) (opened : Opened) (before : Snapshot) (live : IsLiveIn version disk opened before) (good : bad_field (settings_of opened) ≡ None) (snapshot : Snapshot) (spelled : IsSnapshot snapshot)
    (within : is_within (settings_of opened) snapshot ≡ true) (below : opened.generation < 2 ^ 62) (small : length (snapshot_text snapshot) < 2 ^ 64) (sectors : ℕ)
    (size : length disk.content ≡ 512 * sectors) (fits : least_sectors (settings_of opened) ≤ sectors) where
  abbrev pub h : ℕ
  h = sectors / 2

  is : IsDiskImage h disk.content live.image
  is = sides.is version disk opened before live sectors size

  abbrev pub other : ℕ
  other = other_base h opened.base

  generation_is : is.header.generation ≡ opened.generation
  generation_is = ap (λ (x : SegmentImage). x.generation) (parts is.base h is.header disk.content live.image.live is.live).is_live ∙ live.generation

  other_is : other ≡ is.other
  unfolding is
  other_is = sides.other_is version disk opened before live sectors size fits

  abbrev pub text : List ℕ
  text = segment_text (opened.generation + 1) (settings_of opened) snapshot

  -- the other segment's gate is as what was opened says
  pub gate_is : is_open (sector_at other disk.content) ≡ opened.other_open
  gate_is = ap (λ (n : ℕ). is_open (sector_at n disk.content)) other_is ∙ beside_open h is.other is.header.version is.header.generation disk.content live.image.older is.beside ∙ live.other

  module _ (image : List ℕ) (differs : DiffersWithin other (other + h) disk.content image) where
    there : DiffersWithin is.other (is.other + h) disk.content image
    there = subst (λ (n : ℕ). DiffersWithin n (n + h) disk.content image) other_is differs

    alone : is_open (sector_at other image) ≡ false → ReadsAs version (settings_of opened) before image
    alone shut = reads_as version (settings_of opened) image (record { live = live.image.live; older = None }) before
        (image_is h image (record { live = live.image.live; older = None })
        (alone_there h disk.content image live.image is there (ap (λ (n : ℕ). is_open (sector_at n image)) (sym other_is) ∙ shut)))
        live.version_is live.settings live.table_is

    switched : is_open (sector_at other image) ≡ true → StandsFrom (other + 1) text image → IsNext (settings_of opened) snapshot (opened.generation + 1) is.other h image
    switched gate stands = switched_there h disk.content image live.image is there (settings_of opened) good snapshot spelled within (opened.generation + 1)
        (omega (arith, generation_is)) (omega (arith, below)) small (omega (arith, fits)) (ap (λ (n : ℕ). is_open (sector_at n image)) (sym other_is) ∙ gate)
        (subst (λ (n : ℕ). StandsFrom (n + 1) text image) other_is stands)

    pub behind_gate : (is_open (sector_at other image) ≡ false) ⊎ StandsFrom (other + 1) text image → ReadsToEither version (settings_of opened) before snapshot image
    behind_gate = ⊎_elim (λ shut. inl (alone shut))
        (λ stands. elim (cases_Bool (is_open (sector_at other image))) [
          | inl gate ↦
              let next = switched gate stands in
              inr (recovers (settings_of opened) image next.what snapshot (image_is h image next.what next.is) next.version next.settings next.table)
          | inr shut ↦ inl (alone shut)
        ])

  -- what a stop leaves of a switch
  pub either : (image : List ℕ) → IsSwitching other h opened.other_open text disk.content image → ReadsToEither version (settings_of opened) before snapshot image
  either image = ⊎_elim
      (λ closing.
      let wide = wider other (other + 1) other (other + h) disk.content image (omega arith) (omega (arith, fits)) closing.1 in
      elim (cases_Bool (is_open (sector_at other image))) [
        | inl gate ↦
            let differs = subst (λ (n : ℕ). DiffersWithin n (n + 1) disk.content image) other_is closing.1 in
            let same = ap (λ (n : ℕ). is_open (sector_at n image)) (sym other_is) ∙ gate ∙ sym (ap (λ (n : ℕ). is_open (sector_at n disk.content)) (sym other_is) ∙ gate_is ∙ closing.0) in
            inl (reads_as version (settings_of opened) image live.image before
            (image_is h image live.image (both_there h disk.content image live.image is (there image wide) differs same))
            live.version_is live.settings live.table_is)
        | inr shut ↦ inl (alone image wide shut)
      ])
      (λ writing. behind_gate image writing.0 writing.1)

  -- and once it is done, the disk is live with the snapshot
  pub live_switched : (new : DiskView) (next : Opened) → HasOneImage new → IsSwitched other h text disk.content new.content → next.base ≡ other → next.generation ≡ opened.generation + 1
      → next.settings ≡ opened.settings → next.other_open ≡ true → journal.generation_of next.journal ≡ opened.generation + 1 → journal.number_of next.journal ≡ snapshot.number + 1
      → journal.next_of next.journal ≡ other + 2 + sectors_for (length (snapshot_text snapshot)) → journal.end_of next.journal ≡ other + h → IsLive new next snapshot
  live_switched new next settled done base generation settings open_now j_generation j_number j_next j_end =
      let made = switched new.content done.differs done.gate done.stands in
      record {
        settled = settled;
        image = made.what;
        reads = image_is h new.content made.what made.is;
        version_is = made.version;
        base = made.base_is ∙ sym other_is ∙ sym base;
        generation = made.generation_is ∙ sym generation;
        settings = made.settings ∙ sym settings;
        other = made.older ∙ sym open_now;
        holds = record {
          reads = made.reads;
          next = j_next ∙ ap (λ (n : ℕ). n + 2 + sectors_for (length (snapshot_text snapshot))) other_is ∙ sym (ap (λ (f : Frames). f.next) made.frames);
          number = j_number ∙ sym (ap (λ (f : Frames). f.number) made.frames);
          end = j_end ∙ ap (λ (n : ℕ). n + h) other_is ∙ sym (ap (λ (a : Area). a.end) made.area);
          generation = j_generation ∙ sym (ap (λ (a : Area). a.generation) made.area);
        };
        table_is = made.table;
      }

  -- the same, where the place and the bytes are known by other names
  module _ (base : ℕ) (bytes : List ℕ) (base_known : base ≡ other) (bytes_known : bytes ≡ text) where
    pub gate_there : HasGate disk base opened.other_open
    gate_there = ap (λ (n : ℕ). is_open (sector_at n disk.content)) base_known ∙ gate_is

    pub either_there : (image : List ℕ) → IsSwitching base h opened.other_open bytes disk.content image → ReadsToEither version (settings_of opened) before snapshot image
    either_there image is =
        either image
        (subst (λ (l : List ℕ). IsSwitching other h opened.other_open l disk.content image) bytes_known
        (subst (λ (n : ℕ). IsSwitching n h opened.other_open bytes disk.content image) base_known is))

    pub live_there : (new : DiskView) (next : Opened) → HasOneImage new → IsSwitched base h bytes disk.content new.content → next.base ≡ base → next.generation ≡ opened.generation + 1
        → next.settings ≡ opened.settings → next.other_open ≡ true → journal.generation_of next.journal ≡ opened.generation + 1 → journal.number_of next.journal ≡ snapshot.number + 1
        → journal.next_of next.journal ≡ base + 2 + sectors_for (length (snapshot_text snapshot)) → journal.end_of next.journal ≡ base + h → IsLive new next snapshot
    live_there new next settled done at generation settings open_now j_generation j_number j_next j_end =
        live_switched new next settled
        (subst (λ (l : List ℕ). IsSwitched other h l disk.content new.content) bytes_known
        (subst (λ (n : ℕ). IsSwitched n h bytes disk.content new.content) base_known done))
        (at ∙ base_known) generation settings open_now j_generation j_number (j_next ∙ ap (λ (n : ℕ). n + 2 + sectors_for (length (snapshot_text snapshot))) base_known)
        (j_end ∙ ap (λ (n : ℕ). n + h) base_known)
