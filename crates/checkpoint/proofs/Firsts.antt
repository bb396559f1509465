-- What a disk recovers to that was formatted.
use Rattle.std.proofs.Common.{◌≡◌, inl, inr, ⊎_elim, ℕ, ◌+◌, ◌*◌, ◌/◌, ◌≤◌, true, List, length, None, Some, Result, Ok, Err, refl, sym, ◌∙◌, ap, subst, arith}
use Rattle.std.proofs.lemmas.Bool.{and_from, le-leb}
use Rattle.sector_disk.specs.Disk.{IsOnDisk}
use Rattle.retry_rules.specs.declared.settings.Settings.{Settings}
use Rattle.retry_rules.specs.Settings.{bad_field}
use Rattle.invoke_records.specs.declared.snapshot.Snapshot.{Snapshot}
use Rattle.invoke_records.specs.Spelling.{snapshot_text, IsSnapshot}
use Rattle.invoke_records.specs.laws.Snapshots.{whole_again}
use Rattle.async_core.specs.Rules.{empty_table}
use Rattle.invoke_records.specs.declared.version.Version.TheVariants.{Two}
use Rattle.invoke_records.specs.Reading.{whole_at}
use Rattle.std.specs.Result.{IsOkAnd}
use Rattle.checkpoint.specs.declared.error.OpenError.{OpenError}
use Rattle.checkpoint.specs.declared.error.OpenError.TheVariants.{NotFormatted}
use Rattle.async_core.specs.Limits.{most_snapshot, is_within}
use Rattle.async_core.specs.laws.Limits.{empty_fit}
use Rattle.checkpoint.specs.Image.{SegmentImage, DiskImage, HasGeneration, segment_sectors, least_sectors, segment_text, open_header, read_image, recovered}
use Rattle.checkpoint.specs.ReadSteps.{with_older, by_headers, live_read, new_read}
use Rattle.sector_disk.specs.Disk.{DiskView}
use Rattle.checkpoint.specs.Formatting.{IsFormatting}
use Rattle.checkpoint.specs.FormatSteps.{HoldsFirst, IsClosed, IsBeingFormatted}
use Rattle.checkpoint.proofs.Lives.{image_refused}
use Rattle.checkpoint.proofs.Images.{by_both, shut_header, header_there}
use Rattle.checkpoint.proofs.Placed.{segment_size, header, placed, header_found, segment_found}

-- the segment fits in front of segment B
module _ (s : Settings) (good : bad_field s ≡ None) (snapshot : Snapshot) (small : length (snapshot_text snapshot) ≤ most_snapshot s) (sectors : ℕ) (room : least_sectors s ≤ sectors) where
  pub segment_whole : IsOnDisk sectors 1 (length (segment_text 1 s snapshot))
  segment_whole = record { whole = omega (arith, segment_size 1 s good snapshot); inside = omega (arith, segment_size 1 s good snapshot, small, room) }

  pub segment_before : 512 + length (segment_text 1 s snapshot) ≤ 512 * (sectors / 2)
  segment_before = omega (arith, segment_size 1 s good snapshot, small, room)

-- ## The empty snapshot

pub empty_size : (s : Settings) → length (snapshot_text (empty_table s)) ≡ 25
unfolding snapshot_text
empty_size s = refl

is_empty : (s : Settings) → bad_field s ≡ None → IsSnapshot (empty_table s)
is_empty s good = record { within = tt; fault = (empty_fit s good).fault }

pub empty_small : (s : Settings) → length (snapshot_text (empty_table s)) ≤ most_snapshot s
empty_small s = omega (arith, empty_size s)

empty_again : (s : Settings) → bad_field s ≡ None → whole_at Two (snapshot_text (empty_table s)) ≡ Ok (empty_table s)
empty_again s good = whole_again (empty_table s) (is_empty s good)

module _ (s : Settings) (good : bad_field s ≡ None) (sectors : ℕ) (room : least_sectors s ≤ sectors) (image : List ℕ) (size : length image ≡ 512 * sectors)
    (holds : HoldsFirst (sectors / 2) (segment_text 1 s (empty_table s)) image) where
  abbrev half : ℕ
  half = sectors / 2

  empty_within : is_within s (empty_table s) ≡ true
  empty_within = and_from _ _ (le-leb 0 s.events (omega arith)) refl

  within_half : segment_sectors s ≤ half
  within_half = omega (arith, room)

  found : open_header 0 half image ≡ Ok (Some (header 1 s good (empty_table s)))
  found = header_there 0 half image (header 1 s good (empty_table s)) holds.gate_a
      (header_found 1 s good (empty_table s) (omega arith) (omega arith) (empty_small s) (omega (arith, empty_size s)) (empty_again s good) empty_within 0 half within_half image holds.behind)

  abbrev first : SegmentImage
  first = placed 1 s good (empty_table s) (omega arith) (omega arith) (empty_small s) (omega (arith, empty_size s)) (empty_again s good) empty_within 0 half within_half image holds.behind

  first_read : read_image image ≡ Ok (record { live = first; older = None })
  first_read =
      by_both image sectors size (omega (arith, room))
      ∙ (λ i. by_headers half image (found i) (shut_header half half image holds.gate_b i))
      ∙ ap (λ (r : Result SegmentImage OpenError). with_older r None)
      (segment_found 1 s good (empty_table s) (omega arith) (omega arith) (empty_small s) (omega (arith, empty_size s)) (empty_again s good) empty_within 0 half within_half image holds.behind)

  -- a disk that was formatted recovers to it
  pub empty_recovers : recovered image ≡ Ok (record { settings = s; table = empty_table s })
  unfolding recovered
  empty_recovers = ap (λ (r : Result DiskImage OpenError). new_read (live_read r)) first_read

  pub empty_generation : HasGeneration 1 image
  empty_generation = subst (λ (r : Result DiskImage OpenError). IsOkAnd r (λ image. image.live.generation ≡ 1)) (sym first_read) refl

-- neither gate is open
pub none_open : (sectors : ℕ) (image : List ℕ) → length image ≡ 512 * sectors → 6 ≤ sectors → IsClosed (sectors / 2) image → read_image image ≡ Err NotFormatted
none_open sectors image size enough closed =
    by_both image sectors size enough
    ∙ (λ i. by_headers (sectors / 2) image (shut_header 0 (sectors / 2) image closed.gate_a i) (shut_header (sectors / 2) (sectors / 2) image closed.gate_b i))

-- what a stop leaves on the way is no formatted disk, save for the old one
pub being_formatted : (old : DiskView) (s : Settings) → bad_field s ≡ None → least_sectors s ≤ old.sectors → (image : List ℕ)
    → IsBeingFormatted old (old.sectors / 2) (segment_text 1 s (empty_table s)) image → IsFormatting old s image
being_formatted old s good room image is = ⊎_elim (λ was. inl was)
    (λ now. inr (⊎_elim
    (λ closed. inl (image_refused image NotFormatted (none_open old.sectors image now.0 (omega (arith, room)) closed)))
    (λ holds. inr (empty_recovers s good old.sectors room image now.0 holds))
    now.1))
    is
