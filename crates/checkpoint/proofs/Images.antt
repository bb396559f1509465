-- Which segments of an image are open, and which one is live.
use Rattle.std.proofs.Common.{◌≡◌, ◌⊎◌, inl, inr, ⊎_elim, ℕ, ◌+◌, ◌*◌, ◌/◌, ◌<◌, ◌≤◌, Bool, true, false, nat_lt, nat_eq, List, length, Option, Some, None, Result, Ok, Err, refl, sym, ◌∙◌, ap, subst, arith}
use Rattle.std.proofs.lemmas.Bool.{cases_Bool, lt-ltb, le-ltb, ltb-false, ltb-true, cond-true, cond-false, eqb-false, ne_eqb}
use Rattle.std.proofs.Math.Arith.{lt_of_le-ne}
use Rattle.gate_journal.specs.Frames.{is_open}
use Rattle.invoke_records.specs.declared.version.Version.{Version}
use Rattle.checkpoint.specs.declared.header.Header.{Header}
use Rattle.checkpoint.specs.declared.choosing.Found.{Found}
use Rattle.checkpoint.specs.declared.error.OpenError.{OpenError}
use Rattle.checkpoint.specs.declared.error.OpenError.TheVariants.{NotFormatted}
use Rattle.checkpoint.specs.Image.{SegmentImage, DiskImage, sector_at, header_in, half, open_header, is_later_than, in_order, found_at, chosen, segment_at, read_image}
use Rattle.checkpoint.specs.ReadSteps.{or_damaged, with_older, segments_in, by_headers}
use Rattle.checkpoint.specs.Held.{AreSides}

-- the gate at this sector is open
abbrev pub is_open_at : ℕ → List ℕ → Bool
is_open_at sector image = is_open (sector_at sector image)

-- ## The header behind a gate

pub shut_header : (base sectors : ℕ) (image : List ℕ) → is_open_at base image ≡ false → open_header base sectors image ≡ Ok None
unfolding open_header
shut_header base sectors image shut = cond-false _ _ _ shut

-- what an open gate has behind it
abbrev pub header_or_damage : ℕ → Option Header → Result (Option Header) OpenError
header_or_damage base header = or_damaged (base + 1) header (λ header. Ok (Some header))

pub behind_gate : (base sectors : ℕ) (image : List ℕ) → is_open_at base image ≡ true → open_header base sectors image ≡ header_or_damage base (header_in (base + 1) sectors image)
unfolding open_header
behind_gate base sectors image opened = cond-true _ _ _ opened

pub header_there : (base sectors : ℕ) (image : List ℕ) (header : Header) → is_open_at base image ≡ true → header_in (base + 1) sectors image ≡ Some header → open_header base sectors image ≡ Ok (Some header)
header_there base sectors image header opened is = behind_gate base sectors image opened ∙ ap (header_or_damage base) is

some_header : (base : ℕ) (found : Option Header) (header : Header) → header_or_damage base found ≡ Ok (Some header) → found ≡ Some header
some_header base None header is = absurd cc
some_header base (Some other) header is = let same : other ≡ header = cc in ap (λ (h : Header). Some h) same

no_header : (base : ℕ) (found : Option Header) → header_or_damage base found ≡ Ok None → ⊥
no_header base None is = absurd cc
no_header base (Some other) is = absurd cc

pub header_is : (base sectors : ℕ) (image : List ℕ) (header : Header) → open_header base sectors image ≡ Ok (Some header) → (is_open_at base image ≡ true) × (header_in (base + 1) sectors image ≡ Some header)
header_is base sectors image header is = elim (cases_Bool (is_open_at base image)) [
  | inl opened ↦ (opened, some_header base (header_in (base + 1) sectors image) header (sym (behind_gate base sectors image opened) ∙ is))
  | inr shut ↦ absurd (let no = sym (shut_header base sectors image shut) ∙ is in cc)
]

pub header_is_not : (base sectors : ℕ) (image : List ℕ) → open_header base sectors image ≡ Ok None → is_open_at base image ≡ false
header_is_not base sectors image is = elim (cases_Bool (is_open_at base image)) [
  | inl opened ↦ absurd (no_header base (header_in (base + 1) sectors image) (sym (behind_gate base sectors image opened) ∙ is))
  | inr shut ↦ shut
]

-- ## The live segment and the older one

-- beside a live segment of this version and generation the other one is closed, or it is older and of no later version
abbrev pub IsBeside : (half other : ℕ) → Version → ℕ → List ℕ → Result (Option Header) OpenError → Option SegmentImage → Type 0
IsBeside half other version generation image read None = read ≡ Ok None
IsBeside half other version generation image read (Some older) =
    (o : Header) × (read ≡ Ok (Some o)) × (o.generation < generation) × (is_later_than version o.version ≡ false) × (segment_at other half o image ≡ Ok older)

-- how an image of two halves of so many sectors was read that holds these segments
pub record IsDiskImage (h : ℕ) (image : List ℕ) (what : DiskImage) : Type 0 where
  pub enough : 6 ≤ length image / 512
  pub halves : half image ≡ h
  pub base : ℕ
  pub other : ℕ
  pub sides : AreSides h base other
  pub header : Header
  pub opened : open_header base h image ≡ Ok (Some header)
  pub live : segment_at base h header image ≡ Ok what.live
  pub beside : IsBeside h other header.version header.generation image (open_header other h image) what.older

disk_is : (a b : DiskImage) → ◌≡◌ {A = Result DiskImage OpenError} (Ok a) (Ok b) → a ≡ b
disk_is a b is = cc

live_alone : (read : Result SegmentImage OpenError) (what : DiskImage) → with_older read None ≡ Ok what → (read ≡ Ok what.live) × (what.older ≡ None)
live_alone (Err why) what is = absurd cc
live_alone (Ok live) what is = let same = disk_is _ what is in (ap (λ (w : DiskImage). Ok w.live) same, sym (ap (λ (w : DiskImage). w.older) same))

live_and_older : (read older : Result SegmentImage OpenError) (what : DiskImage) → with_older read (Some older) ≡ Ok what
    → (read ≡ Ok what.live) × ((o : SegmentImage) × (older ≡ Ok o) × (what.older ≡ Some o))
live_and_older (Err why) older what is = absurd cc
live_and_older (Ok live) (Err why) what is = absurd cc
live_and_older (Ok live) (Ok o) what is =
    let same = disk_is _ what is in
    (ap (λ (w : DiskImage). Ok w.live) same, (o, refl, sym (ap (λ (w : DiskImage). w.older) same)))

-- one segment is live, the other one stands beside it
pub record IsBased (half base other : ℕ) (image : List ℕ) (read beside : Result (Option Header) OpenError) (what : DiskImage) : Type 0 where
  pub header : Header
  pub opened : read ≡ Ok (Some header)
  pub live : segment_at base half header image ≡ Ok what.live
  pub beside_it : IsBeside half other header.version header.generation image beside what.older

based_alone : (half base other : ℕ) (image : List ℕ) (header : Header) (what : DiskImage) → with_older (segment_at base half header image) None ≡ Ok what
    → IsBased half base other image (Ok (Some header)) (Ok None) what
based_alone half base other image header what is =
    let parts = live_alone (segment_at base half header image) what is in
    record { header = header; opened = refl; live = parts.0; beside_it = subst (λ (o : Option SegmentImage). IsBeside half other header.version header.generation image (Ok None) o) (sym parts.1) refl }

based_beside : (half base other : ℕ) (image : List ℕ) (header o : Header) (what : DiskImage) → o.generation < header.generation → is_later_than header.version o.version ≡ false
    → with_older (segment_at base half header image) (Some (segment_at other half o image)) ≡ Ok what
    → IsBased half base other image (Ok (Some header)) (Ok (Some o)) what
based_beside half base other image header o what below kept is =
    let parts = live_and_older (segment_at base half header image) (segment_at other half o image) what is in
    record {
      header = header;
      opened = refl;
      live = parts.0;
      beside_it = subst (λ (s : Option SegmentImage). IsBeside half other header.version header.generation image (Ok (Some o)) s) (sym parts.1.2) (o, refl, below, kept, parts.1.1);
    }

-- an older segment that was kept is of no later version
ordered : (half : ℕ) (image : List ℕ) (live older : Found) (what : DiskImage) → segments_in half image (in_order live older) ≡ Ok what
    → (is_later_than live.header.version older.header.version ≡ false) × (segments_in half image (Ok (live, Some older)) ≡ Ok what)
ordered half image live older what is = elim (cases_Bool (is_later_than live.header.version older.header.version)) [
  | inl later ↦ absurd (let no = sym (ap (segments_in half image) (cond-true _ _ _ later)) ∙ is in cc)
  | inr kept ↦ (kept, sym (ap (segments_in half image) (cond-false _ _ _ kept)) ∙ is)
]

both_open : (half : ℕ) (image : List ℕ) (a b : Header) (what : DiskImage) → segments_in half image (chosen half (Some a) (Some b)) ≡ Ok what
    → IsBased half 0 half image (Ok (Some a)) (Ok (Some b)) what ⊎ IsBased half half 0 image (Ok (Some b)) (Ok (Some a)) what
both_open half image a b what is = elim (cases_Bool (nat_eq a.generation b.generation)) [
  | inl same ↦ absurd (let no = sym (ap (segments_in half image) (cond-true _ _ _ same)) ∙ is in cc)
  | inr differ ↦ elim (cases_Bool (nat_lt b.generation a.generation)) [
    | inl newer ↦
        let kept = ordered half image (found_at 0 a) (found_at half b) what (sym (ap (segments_in half image) (cond-false _ _ _ differ ∙ cond-true _ _ _ newer)) ∙ is) in
        inl (based_beside half 0 half image a b what (ltb-true _ _ newer) kept.0 kept.1)
    | inr older ↦
        let kept = ordered half image (found_at half b) (found_at 0 a) what (sym (ap (segments_in half image) (cond-false _ _ _ differ ∙ cond-false _ _ _ older)) ∙ is) in
        inr (based_beside half half 0 image b a what (lt_of_le-ne (ltb-false _ _ older) (eqb-false _ _ differ)) kept.0 kept.1)
  ]
]

-- A is live, or B is
by_headers_ok : (half : ℕ) (image : List ℕ) (a b : Result (Option Header) OpenError) (what : DiskImage) → by_headers half image a b ≡ Ok what
    → IsBased half 0 half image a b what ⊎ IsBased half half 0 image b a what
by_headers_ok half image (Err why) b what is = absurd cc
by_headers_ok half image (Ok a) (Err why) what is = absurd cc
by_headers_ok half image (Ok None) (Ok None) what is = absurd cc
by_headers_ok half image (Ok (Some a)) (Ok None) what is = inl (based_alone half 0 half image a what is)
by_headers_ok half image (Ok None) (Ok (Some b)) what is = inr (based_alone half half 0 image b what is)
by_headers_ok half image (Ok (Some a)) (Ok (Some b)) what is = both_open half image a b what is

-- what is read of an image of so many sectors
module _ (image : List ℕ) (sectors : ℕ) (size : length image ≡ 512 * sectors) where
  count : length image / 512 ≡ sectors
  count = omega (arith, size)

  pub half_is : half image ≡ sectors / 2
  half_is = ap (λ (n : ℕ). n / 2) count

  pub too_few : sectors < 6 → read_image image ≡ Err NotFormatted
  unfolding read_image
  too_few few = cond-true _ _ _ (lt-ltb (length image / 512) 6 (omega (arith, few, count)))

  pub by_both : 6 ≤ sectors → read_image image ≡ by_headers (sectors / 2) image (open_header 0 (sectors / 2) image) (open_header (sectors / 2) (sectors / 2) image)
  unfolding read_image
  by_both enough =
      cond-false _ _ _ (le-ltb (length image / 512) 6 (omega (arith, enough, count)))
      ∙ ap (λ (n : ℕ). by_headers n image (open_header 0 n image) (open_header n n image)) half_is

by_halves : (h : ℕ) (image : List ℕ) → half image ≡ h → 6 ≤ length image / 512 → read_image image ≡ by_headers h image (open_header 0 h image) (open_header h h image)
unfolding read_image
by_halves h image halves enough =
    cond-false _ _ _ (le-ltb (length image / 512) 6 enough) ∙ ap (λ (n : ℕ). by_headers n image (open_header 0 n image) (open_header n n image)) halves

based_image : (image : List ℕ) (what : DiskImage) (base other : ℕ) → 6 ≤ length image / 512 → AreSides (half image) base other
    → IsBased (half image) base other image (open_header base (half image) image) (open_header other (half image) image) what → IsDiskImage (half image) image what
based_image image what base other enough sides based = record {
  enough = enough;
  halves = refl;
  base = base;
  other = other;
  sides = sides;
  header = based.header;
  opened = based.opened;
  live = based.live;
  beside = based.beside_it;
}

pub disk_image : (image : List ℕ) (what : DiskImage) → read_image image ≡ Ok what → IsDiskImage (half image) image what
unfolding read_image
disk_image image what reads = elim (cases_Bool (nat_lt (length image / 512) 6)) [
  | inl few ↦ absurd (let no = sym (cond-true _ _ _ few) ∙ reads in cc)
  | inr enough ↦
      let there = ltb-false _ _ enough in
      ⊎_elim (based_image image what 0 (half image) there (inl (refl, refl))) (based_image image what (half image) 0 there (inr (refl, refl)))
      (by_headers_ok (half image) image (open_header 0 (half image) image) (open_header (half image) (half image) image) what (sym (cond-false _ _ _ enough) ∙ reads))
]

-- ## What is live, by its header and the one beside it

older_ok : (live older : SegmentImage) → with_older (Ok live) (Some (Ok older)) ≡ Ok (record { live = live; older = Some older })
older_ok live older = refl

module _ (half : ℕ) (image : List ℕ) (header : Header) where
  a_live : (b : Result (Option Header) OpenError) (what : DiskImage) → segment_at 0 half header image ≡ Ok what.live → IsBeside half half header.version header.generation image b what.older
      → (older : Option SegmentImage) → what.older ≡ older → by_headers half image (Ok (Some header)) b ≡ Ok what
  a_live b what live beside None is =
      let shut : b ≡ Ok None = subst (λ (o : Option SegmentImage). IsBeside half half header.version header.generation image b o) is beside in
      ap (λ (r : Result (Option Header) OpenError). by_headers half image (Ok (Some header)) r) shut
      ∙ ap (λ (r : Result SegmentImage OpenError). with_older r None) live ∙ ap (λ (o : Option SegmentImage). Ok (record { live = what.live; older = o })) (sym is)
  a_live b what live beside (Some older) is =
      let there : IsBeside half half header.version header.generation image b (Some older) = subst (λ (o : Option SegmentImage). IsBeside half half header.version header.generation image b o) is beside in
      ap (λ (r : Result (Option Header) OpenError). by_headers half image (Ok (Some header)) r) there.1
      ∙ ap (segments_in half image) (cond-false _ _ _ (ne_eqb header.generation there.0.generation (λ same. absurd (omega (arith, same, there.2)))) ∙ cond-true _ _ _ (lt-ltb there.0.generation header.generation there.2) ∙ cond-false _ _ _ there.3)
      ∙ (λ i. with_older (live i) (Some (there.4 i))) ∙ ap (λ (o : Option SegmentImage). Ok (record { live = what.live; older = o })) (sym is)

  b_live : (a : Result (Option Header) OpenError) (what : DiskImage) → segment_at half half header image ≡ Ok what.live → IsBeside half 0 header.version header.generation image a what.older
      → (older : Option SegmentImage) → what.older ≡ older → by_headers half image a (Ok (Some header)) ≡ Ok what
  b_live a what live beside None is =
      let shut : a ≡ Ok None = subst (λ (o : Option SegmentImage). IsBeside half 0 header.version header.generation image a o) is beside in
      ap (λ (r : Result (Option Header) OpenError). by_headers half image r (Ok (Some header))) shut
      ∙ ap (λ (r : Result SegmentImage OpenError). with_older r None) live ∙ ap (λ (o : Option SegmentImage). Ok (record { live = what.live; older = o })) (sym is)
  b_live a what live beside (Some older) is =
      let there : IsBeside half 0 header.version header.generation image a (Some older) = subst (λ (o : Option SegmentImage). IsBeside half 0 header.version header.generation image a o) is beside in
      ap (λ (r : Result (Option Header) OpenError). by_headers half image r (Ok (Some header))) there.1
      ∙ ap (segments_in half image) (cond-false _ _ _ (ne_eqb there.0.generation header.generation (λ same. absurd (omega (arith, same, there.2)))) ∙ cond-false _ _ _ (le-ltb header.generation there.0.generation (omega (arith, there.2))) ∙ cond-false _ _ _ there.3)
      ∙ (λ i. with_older (live i) (Some (there.4 i))) ∙ ap (λ (o : Option SegmentImage). Ok (record { live = what.live; older = o })) (sym is)

pub image_is : (h : ℕ) (image : List ℕ) (what : DiskImage) → IsDiskImage h image what → read_image image ≡ Ok what
image_is h image what is = by_halves h image is.halves is.enough ∙ elim is.sides [
  | inl a ↦
      let live = subst (λ (n : ℕ). segment_at n h is.header image ≡ Ok what.live) a.0 is.live in
      let opened = subst (λ (n : ℕ). open_header n h image ≡ Ok (Some is.header)) a.0 is.opened in
      let beside = subst (λ (n : ℕ). IsBeside h n is.header.version is.header.generation image (open_header n h image) what.older) a.1 is.beside in
      ap (λ (r : Result (Option Header) OpenError). by_headers h image r (open_header h h image)) opened
      ∙ a_live h image is.header (open_header h h image) what live beside what.older refl
  | inr b ↦
      let live = subst (λ (n : ℕ). segment_at n h is.header image ≡ Ok what.live) b.0 is.live in
      let opened = subst (λ (n : ℕ). open_header n h image ≡ Ok (Some is.header)) b.0 is.opened in
      let beside = subst (λ (n : ℕ). IsBeside h n is.header.version is.header.generation image (open_header n h image) what.older) b.1 is.beside in
      ap (λ (r : Result (Option Header) OpenError). by_headers h image (open_header 0 h image) r) opened
      ∙ b_live h image is.header (open_header 0 h image) what live beside what.older refl
]
