-- What segments that were read say of their image.
use Rattle.std.proofs.Common.{◌≡◌, ℕ, Bool, false, List, map, Option, None, Some, Result, Ok, refl, sym, ◌∙◌, ap}
use Rattle.sector_disk.specs.Disk.{DiskView, HasOneImage}
use Rattle.invoke_records.specs.declared.command.Command.{Command}
use Rattle.invoke_records.specs.declared.snapshot.Snapshot.{Snapshot}
use Rattle.async_core.specs.Rules.{replay}
use Rattle.gate_journal.specs.declared.area.Area.{Area}
use Rattle.checkpoint.specs.declared.choosing.Found.{Found}
use Rattle.checkpoint.specs.declared.error.OpenError.{OpenError}
use Rattle.checkpoint.specs.declared.segment.Segment.{Segment}
use Rattle.checkpoint.specs.declared.opened.Opened.{Opened}
use Rattle.checkpoint.specs.Image.{SegmentImage, DiskImage, area_of, found_in, read_image, folded_in, recovered}
use Rattle.checkpoint.specs.ReadSteps.{with_older, segments_in, with_table, live_read, new_read}
use Rattle.checkpoint.specs.Live.{IsLiveIn}
use Rattle.checkpoint.specs.Opening.{Refuses}
use Rattle.checkpoint.specs.OpenSteps.{IsRead, Opens, IsOpened, AreBoth, IsOpenedAs}
use Rattle.checkpoint.proofs.Refusals.{refuses_along}
use Rattle.checkpoint.proofs.Folds.{replays, folds_so}
use Rattle.checkpoint.proofs.Segments.{behind_snapshot}

-- what is wrong with what an image holds is wrong with what it recovers to
pub image_refused : (content : List ℕ) (why : OpenError) → Refuses why (read_image content) → Refuses why (recovered content)
unfolding recovered
image_refused content why = refuses_along why (read_image content) (new_read (live_read (read_image content))) (λ e is. ap (λ (r : Result DiskImage OpenError). new_read (live_read r)) is)

pub opened_replays : (segment : Segment) (other_open : Bool) (opened : Opened) (snapshot : Snapshot) (commands : List Command) (opens : Opens segment other_open opened snapshot commands)
    → replay opened.settings snapshot commands ≡ Some opens.table
opened_replays segment other_open opened snapshot commands opens =
    (λ i. replay (opens.settings i) (opens.first i) (opens.others i)) ∙ replays segment.settings segment.snapshot segment.behind.items opens.table
    (folds_so segment.version segment.settings segment.snapshot segment.behind.items opens.table opens.folds)

module _ (sectors : ℕ) (content : List ℕ) (found : Found) (segment : Segment) (read : IsRead sectors found content segment) where
  abbrev area : Area
  area = area_of found.base sectors found.header segment.snapshot

  is_read : found_in sectors found content ≡ with_table found.base found.header segment.snapshot area read.frames
      (folded_in segment.version segment.settings segment.snapshot segment.behind.items)
  is_read =
      behind_snapshot found.base sectors found.header content segment.snapshot (Ok read.frames) read.snapshot read.holds.reads
      ∙ (λ i. with_table found.base found.header segment.snapshot area read.frames (folded_in (sym read.version i) (sym read.settings i) segment.snapshot (read.behind i)))

  -- where a command is not legal, its gate is damaged
  pub fold_refused : (why : OpenError) → Refuses why (folded_in segment.version segment.settings segment.snapshot segment.behind.items) → Refuses why (found_in sectors found content)
  fold_refused why = refuses_along why (folded_in segment.version segment.settings segment.snapshot segment.behind.items) (found_in sectors found content)
      (λ e is. is_read ∙ ap (with_table found.base found.header segment.snapshot area read.frames) is)

  pub is_opened : (other_open : Bool) (opened : Opened) (snapshot : Snapshot) (commands : List Command) (opens : Opens segment other_open opened snapshot commands)
      → IsOpened sectors found content other_open opened snapshot commands
  is_opened other_open opened snapshot commands opens = record {
    image = record {
      version = found.header.version;
      base = found.base;
      generation = found.header.generation;
      settings = found.header.settings;
      snapshot = segment.snapshot;
      area = area;
      frames = read.frames;
      table = opens.table;
    };
    reads = is_read ∙ ap (with_table found.base found.header segment.snapshot area read.frames) opens.folds;
    version = sym (opens.version ∙ read.version);
    base = sym (opens.base ∙ read.base);
    generation = sym (opens.generation ∙ read.generation);
    settings = sym (opens.settings ∙ read.settings);
    holds = rw opens.journal read.holds;
    other = opens.other;
    replays = opened_replays segment other_open opened snapshot commands opens;
    parts = λ i. (sym opens.first i, (ap (map (λ c. c.1)) read.behind ∙ sym opens.others) i);
  }

-- the live segment alone
pub opened_alone : (sectors : ℕ) (live : Found) (bytes : List ℕ) (opened : Opened) (snapshot : Snapshot) (commands : List Command) → IsOpened sectors live bytes false opened snapshot commands
    → IsOpenedAs (segments_in sectors bytes (Ok (live, None))) bytes opened snapshot commands
opened_alone sectors live bytes opened snapshot commands is = record {
  image = record { live = is.image; older = None };
  reads = ap (λ (r : Result SegmentImage OpenError). with_older r None) is.reads;
  version = is.version;
  base = is.base;
  generation = is.generation;
  settings = is.settings;
  other = sym is.other;
  holds = is.holds;
  replays = is.replays;
  parts = is.parts;
}

-- and the older one beside it
pub opened_both : (sectors : ℕ) (live older : Found) (bytes : List ℕ) (opened : Opened) (snapshot : Snapshot) (commands : List Command) → AreBoth sectors live older bytes opened snapshot commands
    → IsOpenedAs (segments_in sectors bytes (Ok (live, Some older))) bytes opened snapshot commands
opened_both sectors live older bytes opened snapshot commands are = record {
  image = record { live = are.first.image; older = Some are.beside };
  reads = λ i. with_older (are.first.reads i) (Some (are.beside_reads i));
  version = are.first.version;
  base = are.first.base;
  generation = are.first.generation;
  settings = are.first.settings;
  other = sym are.first.other;
  holds = are.first.holds;
  replays = are.first.replays;
  parts = are.first.parts;
}

-- what is wrong with the live segment is told first, and then what is wrong with the older one
pub live_refused : (older : Option (Result SegmentImage OpenError)) (why : OpenError) (read : Result SegmentImage OpenError) → Refuses why read → Refuses why (with_older read older)
live_refused older why read = refuses_along why read (with_older read older) (λ e is. ap (λ (r : Result SegmentImage OpenError). with_older r older) is)

pub older_refused : (live : SegmentImage) (read : Result SegmentImage OpenError) → read ≡ Ok live → (why : OpenError) (older : Result SegmentImage OpenError) → Refuses why older
    → Refuses why (with_older read (Some older))
older_refused live read reads why older = refuses_along why older (with_older read (Some older)) (λ e is. λ i. with_older (reads i) (Some (is i)))

-- what was read of one image was read of it by another way
pub opened_along : (read other : Result DiskImage OpenError) (bytes : List ℕ) (opened : Opened) (snapshot : Snapshot) (commands : List Command) → other ≡ read → IsOpenedAs read bytes opened snapshot commands
    → IsOpenedAs other bytes opened snapshot commands
opened_along read other bytes opened snapshot commands same is = record {
  image = is.image;
  reads = same ∙ is.reads;
  version = is.version;
  base = is.base;
  generation = is.generation;
  settings = is.settings;
  other = is.other;
  holds = is.holds;
  replays = is.replays;
  parts = is.parts;
}

-- a disk with one image, which was read so, is live in that version
module _ (content : List ℕ) (disk : DiskView) (settled : HasOneImage disk) (same : disk.content ≡ content) (opened : Opened) (snapshot : Snapshot) (commands : List Command)
    (was : IsOpenedAs (read_image content) content opened snapshot commands) where
  pub is_live : IsLiveIn opened.version disk opened was.image.live.table
  is_live = record {
    settled = settled;
    image = was.image;
    reads = ap read_image same ∙ was.reads;
    version_is = was.version;
    base = was.base;
    generation = was.generation;
    settings = was.settings;
    other = was.other;
    holds = rw same was.holds;
    table_is = refl;
  }
