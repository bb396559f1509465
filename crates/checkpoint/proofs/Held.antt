-- What an image recovers to that holds a segment which a switch wrote.
use Rattle.std.proofs.Common.{◌≡◌, ⊎_elim, ℕ, ◌+◌, ◌/◌, ◌^◌, ◌<◌, ◌≤◌, true, List, length, Option, Some, None, Ok, refl, arith, mul-le-mul_right}
use Rattle.retry_rules.specs.declared.settings.Settings.{Settings}
use Rattle.retry_rules.specs.Settings.{bad_field}
use Rattle.invoke_records.specs.declared.snapshot.Snapshot.{Snapshot}
use Rattle.invoke_records.specs.Spelling.{snapshot_text}
use Rattle.invoke_records.specs.declared.version.Version.TheVariants.{Two}
use Rattle.invoke_records.specs.Reading.{whole_at}
use Rattle.invoke_records.specs.laws.Snapshots.{whole_again}
use Rattle.async_core.specs.Limits.{most_snapshot, is_within}
use Rattle.async_core.specs.laws.Limits.{spelled_within}
use Rattle.async_core.specs.laws.Shapes.{limits}
use Rattle.checkpoint.specs.Image.{SegmentImage, DiskImage, segment_sectors, open_header, HasGeneration}
use Rattle.checkpoint.specs.Live.{RecoversTo}
use Rattle.checkpoint.specs.Held.{IsOlder, HoldsSegment}
use Rattle.checkpoint.proofs.Images.{IsBeside, IsDiskImage, image_is, header_there, shut_header}
use Rattle.checkpoint.proofs.Placed.{header, placed, header_found, segment_found}
use Rattle.checkpoint.proofs.Switches.{stands_within, recovers}

-- the greatest snapshot under good settings
most_bytes : (s : Settings) → bad_field s ≡ None → most_snapshot s < 2 ^ 64
most_bytes s good =
    let fit = limits s good in
    omega (arith, fit.payload, fit.response, mul-le-mul_right (78 + s.payload + s.response) fit.events)

module _ (generation : ℕ) (s : Settings) (snapshot : Snapshot) (base other : ℕ) (image : List ℕ) (holds : HoldsSegment generation s snapshot base other image) where
  abbrev h : ℕ
  h = holds.sectors / 2

  within : is_within s snapshot ≡ true
  within = stands_within s snapshot holds.stands

  small : length (snapshot_text snapshot) ≤ most_snapshot s
  small = spelled_within s snapshot within holds.spelled

  below : length (snapshot_text snapshot) < 2 ^ 64
  below = omega (arith, small, most_bytes s holds.good)

  again : whole_at Two (snapshot_text snapshot) ≡ Ok snapshot
  again = whole_again snapshot holds.spelled

  room : segment_sectors s ≤ h
  room = omega (arith, holds.room)

  -- the segment, beside this one
  abbrev with_it : Option SegmentImage → DiskImage
  with_it older = record { live = placed generation s holds.good snapshot holds.low holds.high small below again within base h room image holds.behind; older = older }

  is_image : (older : Option SegmentImage) → IsBeside h other Two generation image (open_header other h image) older → IsDiskImage h image (with_it older)
  is_image older beside = record {
    enough = omega (arith, holds.room, holds.size);
    halves = omega (arith, holds.size);
    base = base;
    other = other;
    sides = holds.sides;
    header = header generation s holds.good snapshot;
    opened = header_there base h image (header generation s holds.good snapshot) holds.gate (header_found generation s holds.good snapshot holds.low holds.high small below again within base h room image holds.behind);
    live = segment_found generation s holds.good snapshot holds.low holds.high small below again within base h room image holds.behind;
    beside = beside;
  }

  recovers_with : (older : Option SegmentImage) → IsBeside h other Two generation image (open_header other h image) older → RecoversTo s snapshot image × HasGeneration generation image
  recovers_with older beside =
      let reads = image_is h image (with_it older) (is_image older beside) in (
        recovers s image (with_it older) snapshot reads refl refl refl,
        rw reads refl,
      )

  older_there : (o : IsOlder other h generation image) → IsBeside h other Two generation image (open_header other h image) (Some o.segment)
  older_there o = (o.header, header_there other h image o.header o.gate o.header_reads, o.below, refl, o.segment_reads)

  pub recovered_as_written : RecoversTo s snapshot image × HasGeneration generation image
  recovered_as_written = ⊎_elim (λ shut. recovers_with None (shut_header other h image shut)) (λ o. recovers_with (Some o.segment) (older_there o)) holds.beside
