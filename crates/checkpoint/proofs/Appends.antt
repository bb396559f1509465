-- What an image reads that differs from another in the journal's area alone.
use Rattle.std.proofs.Common.{◌≡◌, ◌⊎◌, inl, inr, ⊎_elim, ℕ, ◌+◌, ◌-◌, ◌*◌, ◌/◌, ◌≤◌, List, [], take, drop, Option, Some, None, Ok, refl, sym, ◌∙◌, ap, subst, arith}
use Rattle.sector_disk.specs.Disk.{DiskView, HasOneImage}
use Rattle.sector_disk.specs.laws.Written.{same_part}
use Rattle.retry_rules.specs.declared.settings.Settings.{Settings}
use Rattle.invoke_records.specs.declared.command.Command.{Command}
use Rattle.invoke_records.specs.declared.snapshot.Snapshot.{Snapshot}
use Rattle.invoke_records.specs.declared.version.Version.{Version}
use Rattle.invoke_records.specs.declared.version.Version.TheVariants.{Two}
use Rattle.async_core.specs.Rules.{replay}
use Rattle.gate_journal.specs.declared.area.Area.{Area}
use Rattle.gate_journal.specs.declared.journal.Journal.{Journal}
use Rattle.gate_journal.specs.Frames.{is_open, sectors_for, Frames, frames_in, frames_with, SameOutside}
use Rattle.gate_journal.specs.Journal as journal
use Rattle.gate_journal.specs.declared.staged.Staged.{Staged}
use Rattle.gate_journal.specs.Staged.{IsStaged}
use Rattle.checkpoint.specs.declared.header.Header.{Header}
use Rattle.checkpoint.specs.declared.opened.Opened.{Opened}
use Rattle.checkpoint.specs.Image.{SegmentImage, DiskImage, half, header_at, snapshot_of, area_of, segment_at, open_header, read_image, folded, folded_in}
use Rattle.checkpoint.specs.ReadSteps.{with_table}
use Rattle.checkpoint.specs.Live.{IsLive, RecoversTo, settings_of, reads_as, as_new}
use Rattle.checkpoint.specs.Ahead.{IsLiveAhead}
use Rattle.checkpoint.proofs.Segments.{snapshot_same, behind_snapshot}
use Rattle.checkpoint.specs.Held.{AreSides}
use Rattle.checkpoint.proofs.Images.{is_open_at, IsBeside, IsDiskImage, disk_image, image_is, header_is, header_there}
use Rattle.checkpoint.proofs.Parts.{parts, segment_of, header_room, inner, behind, open_header_same, segment_same}
use Rattle.checkpoint.proofs.Folds.{folds_more, folded_new}

-- ## Another segment's header and parts stand

-- beside a live segment stands what stood there, where its sectors did not change
pub beside_same : (h other : ℕ) (version : Version) (generation : ℕ) (new old : List ℕ) → 2 ≤ h → behind other h new ≡ behind other h old → is_open_at other new ≡ is_open_at other old
    → (older : Option SegmentImage) → IsBeside h other version generation old (open_header other h old) older → IsBeside h other version generation new (open_header other h new) older
beside_same h other version generation new old enough same gate None beside = open_header_same other h enough new old same gate ∙ beside
beside_same h other version generation new old enough same gate (Some older) (o, opened, below, kept, is) =
    let room = header_room h _ o (header_is other h old o opened).1 in
    (o, open_header_same other h enough new old same gate ∙ opened, below, kept, segment_same other h enough new old same o room ∙ is)

-- ## Other frames in the live segment's area

abbrev pub live_with : SegmentImage → Frames → Snapshot → SegmentImage
live_with live frames table = record live { frames = frames; table = table }

abbrev pub image_with : DiskImage → Frames → Snapshot → DiskImage
image_with what frames table = record what { live = live_with what.live frames table }

-- the live segment's parts stand outside its area, and so does the other one
module _ (h base other : ℕ) (sides : AreSides h base other) (old new : List ℕ) (header : Header) (room : sectors_for header.size + 5 ≤ h) (snapshot : Snapshot)
    (outside : SameOutside (area_of base h header snapshot) old new) where
  start : ℕ
  start = 512 * (base + 2 + sectors_for header.size)

  front_same : (at j : ℕ) → at + j ≤ 512 * (base + 2) → take j (drop at new) ≡ take j (drop at old)
  unfolding start
  front_same at j low = same_part start at j new old outside.front (omega (arith, low))

  snapshot_there : (some : Snapshot) → snapshot_of header (drop (512 * (base + 2)) old) ≡ Some some → snapshot_of header (drop (512 * (base + 2)) new) ≡ Some some
  unfolding start
  snapshot_there some is =
      let all = 512 * sectors_for header.size in
      snapshot_same header (drop (512 * (base + 2)) new) (drop (512 * (base + 2)) old) (same_part start (512 * (base + 2)) all new old outside.front (omega arith)) ∙ is

  pub live_there : (frames : Frames) (table : Snapshot) → open_header base h old ≡ Ok (Some header) → snapshot_of header (drop (512 * (base + 2)) old) ≡ Some snapshot
      → frames_in (area_of base h header snapshot) new ≡ Ok frames → folded_in header.version header.settings snapshot frames.commands ≡ Ok table
      → (open_header base h new ≡ Ok (Some header)) × (segment_at base h header new ≡ Ok (segment_of base header snapshot (area_of base h header snapshot) frames table))
  live_there frames table opened is_snapshot read folds =
      let was = header_is base h old header opened in
      let gate = ap is_open (front_same (512 * base) 512 (omega arith)) in
      let found = ap (header_at h) (front_same (512 * (base + 1)) 512 (omega arith)) in (
        header_there base h new header (gate ∙ was.0) (found ∙ was.1),
        behind_snapshot base h header new snapshot (Ok frames) (snapshot_there snapshot is_snapshot) read
            ∙ ap (with_table base header snapshot (area_of base h header snapshot) frames) folds,
      )

  -- the other segment lies in front of the area, or behind it
  other_same : (behind other h new ≡ behind other h old) × (is_open_at other new ≡ is_open_at other old)
  unfolding start
  other_same = elim sides [
    | inl a ↦
        let from : other ≡ base + h = omega (arith, a.0, a.1) in
        let all : drop (512 * other) new ≡ drop (512 * other) old = ap (λ (n : ℕ). drop (512 * n) new) from ∙ outside.behind ∙ ap (λ (n : ℕ). drop (512 * n) old) (sym from) in (
          inner (512 * other) (512 * h) (512 * (other + 1)) (512 * (h - 1)) new old (ap (λ (l : List ℕ). take (512 * h) l) all) (omega arith) (omega (arith, room)),
          ap (λ (l : List ℕ). is_open (take 512 l)) all,
        )
    | inr b ↦ (
      same_part start (512 * (other + 1)) (512 * (h - 1)) new old outside.front (omega (arith, b.0, b.1)),
      ap is_open (same_part start (512 * other) 512 new old outside.front (omega (arith, b.0, b.1))),
    )
  ]

module _ (h : ℕ) (old new : List ℕ) (what : DiskImage) (frames : Frames) (table : Snapshot) (was : IsDiskImage h old what) (outside : SameOutside what.live.area old new)
    (read : frames_in what.live.area new ≡ Ok frames) (folds : folded_in what.live.version what.live.settings what.live.snapshot frames.commands ≡ Ok table) where
  pub still : IsDiskImage h new (image_with what frames table)
  still =
      let p = parts was.base h was.header old what.live was.live in
      let room = header_room h _ was.header (header_is was.base h old was.header was.opened).1 in
      let area : what.live.area ≡ area_of was.base h was.header p.snapshot = sym (ap (λ (x : SegmentImage). x.area) p.is_live) in
      let there = subst (λ (a : Area). SameOutside a old new) area outside in
      let live = live_there h was.base was.other was.sides old new was.header room p.snapshot there frames table was.opened p.is_snapshot
      (subst (λ (a : Area). frames_in a new ≡ Ok frames) area read)
      ((λ i. folded_in (p.is_live i).version (p.is_live i).settings (p.is_live i).snapshot frames.commands) ∙ folds) in
      let others = other_same h was.base was.other was.sides old new was.header room p.snapshot there in
      record {
        enough = omega (arith, was.enough, outside.size);
        halves = ap (λ (n : ℕ). n / 512 / 2) outside.size ∙ was.halves;
        base = was.base;
        other = was.other;
        sides = was.sides;
        header = was.header;
        opened = live.0;
        live = live.1 ∙ ap (λ (x : SegmentImage). Ok (live_with x frames table)) p.is_live;
        beside = beside_same h was.other was.header.version was.header.generation new old (omega (arith, room)) others.0 others.1 what.older was.beside;
      }

-- ## Before and after an append

module _ (disk : DiskView) (opened : Opened) (before after : Snapshot) (batch : List Command) (live : IsLive disk opened before) (replays : replay (settings_of opened) before batch ≡ Some after) where
  abbrev now : SegmentImage
  now = live.image.live

  abbrev longer : Frames
  longer = frames_with now.frames batch

  was : IsDiskImage (half disk.content) disk.content live.image
  was = disk_image disk.content live.image live.reads

  is_folded : folded_in now.version now.settings now.snapshot now.frames.commands ≡ Ok before
  is_folded =
      let p = parts was.base (half disk.content) was.header disk.content now was.live in
      (λ i. folded_in (sym p.is_live i).version (sym p.is_live i).settings (sym p.is_live i).snapshot (sym p.is_live i).frames.commands) ∙ p.is_folded
      ∙ ap (λ (x : SegmentImage). Ok x.table) p.is_live ∙ ap (λ (t : Snapshot). Ok t) live.table_is

  -- version 2 asks for no more than that they are legal
  as_folded : (frames : Frames) → folded_in now.version now.settings now.snapshot frames.commands ≡ folded now.settings now.snapshot frames.commands
  as_folded frames = (λ i. folded_in (live.version_is i) now.settings now.snapshot frames.commands) ∙ folded_new now.settings now.snapshot frames.commands

  folds_longer : folded_in now.version now.settings now.snapshot longer.commands ≡ Ok after
  folds_longer = as_folded longer ∙ folds_more now.settings now.snapshot now.frames.commands before now.frames.next batch after (sym (as_folded now.frames) ∙ is_folded)
      (subst (λ (s : Settings). replay s before batch ≡ Some after) (sym live.settings) replays)

  reads_still : (image : List ℕ) (frames : Frames) (table : Snapshot) → SameOutside now.area disk.content image → frames_in now.area image ≡ Ok frames
      → folded_in now.version now.settings now.snapshot frames.commands ≡ Ok table → read_image image ≡ Ok (image_with live.image frames table)
  reads_still image frames table outside read folds =
      image_is (half disk.content) image (image_with live.image frames table) (still (half disk.content) disk.content image live.image frames table was outside read folds)

  recovers : (image : List ℕ) (frames : Frames) (table : Snapshot) → read_image image ≡ Ok (image_with live.image frames table) → RecoversTo (settings_of opened) table image
  recovers image frames table reads =
      as_new (settings_of opened) table image
      (reads_as Two (settings_of opened) image (image_with live.image frames table) table reads live.version_is live.settings refl)

  pub before_or_after : (image : List ℕ) → journal.IsBeforeOrAfter now.area now.frames batch disk.content image
      → RecoversTo (settings_of opened) before image ⊎ RecoversTo (settings_of opened) after image
  before_or_after image is = ⊎_elim
      (λ old. inl (recovers image now.frames before (reads_still image now.frames before is.outside old is_folded)))
      (λ more. inr (recovers image longer after (reads_still image longer after is.outside more folds_longer)))
      is.reads

  -- once the batch is there, what was opened goes on behind it
  pub live_after : (new : DiskView) (journal_new : Journal) → HasOneImage new → journal.Holds now.area longer journal_new new.content
      → SameOutside now.area disk.content new.content → IsLive new (record opened { journal = journal_new }) after
  live_after new journal_new settled holds outside = record {
    settled = settled;
    image = image_with live.image longer after;
    reads = reads_still new.content longer after outside holds.reads folds_longer;
    version_is = live.version_is;
    base = live.base;
    generation = live.generation;
    settings = live.settings;
    other = live.other;
    holds = holds;
    table_is = refl;
  }

  -- and so it is where another is staged behind it
  pub ahead_after : (new : DiskView) (journal_new : Journal) (settled : HasOneImage new) (holds : journal.Holds now.area longer journal_new new.content)
      (outside : SameOutside now.area disk.content new.content) (more : List Command) (staged : Staged) → IsStaged now.area longer more staged new.content
      → IsLiveAhead new (record opened { journal = journal_new }) after more staged
  unfolding live_after
  ahead_after new journal_new settled holds outside more staged ahead = record { live = live_after new journal_new settled holds outside; ahead = ahead }

-- ## While a batch is staged

module _ (disk : DiskView) (opened : Opened) (table : Snapshot) (live : IsLive disk opened table) where
  nothing_replays : replay (settings_of opened) table [] ≡ Some table
  nothing_replays = refl

  pub table_still : (image : List ℕ) → SameOutside live.image.live.area disk.content image → frames_in live.image.live.area image ≡ Ok live.image.live.frames
      → RecoversTo (settings_of opened) table image
  table_still image outside reads =
      recovers disk opened table table [] live nothing_replays image live.image.live.frames table
      (reads_still disk opened table table [] live nothing_replays image live.image.live.frames table outside reads (is_folded disk opened table table [] live nothing_replays))

  pub live_still : (new : DiskView) → HasOneImage new → journal.Holds live.image.live.area live.image.live.frames opened.journal new.content
      → SameOutside live.image.live.area disk.content new.content → IsLive new opened table
  live_still new settled holds outside = record {
    settled = settled;
    image = image_with live.image live.image.live.frames table;
    reads = reads_still disk opened table table [] live nothing_replays new.content live.image.live.frames table outside holds.reads (is_folded disk opened table table [] live nothing_replays);
    version_is = live.version_is;
    base = live.base;
    generation = live.generation;
    settings = live.settings;
    other = live.other;
    holds = holds;
    table_is = refl;
  }

  pub ahead_still : (new : DiskView) (settled : HasOneImage new) (holds : journal.Holds live.image.live.area live.image.live.frames opened.journal new.content)
      (outside : SameOutside live.image.live.area disk.content new.content) (commands : List Command) (staged : Staged)
      → IsStaged live.image.live.area live.image.live.frames commands staged new.content → IsLiveAhead new opened table commands staged
  unfolding live_still
  ahead_still new settled holds outside commands staged ahead = record { live = live_still new settled holds outside; ahead = ahead }
