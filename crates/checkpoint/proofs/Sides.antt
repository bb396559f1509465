-- Where the segments of a live disk stand, and what the one beside the live one holds.
use Rattle.std.proofs.Common.{◌≡◌, inl, inr, ℕ, ◌*◌, ◌/◌, ◌≤◌, List, length, Option, Some, None, option_map, Result, Ok, sym, ◌∙◌, ap, subst, arith, IfOk, IfErr, Vec}
use Rattle.std.proofs.lemmas.Bool.{eq-eqb, ne_eqb, cond-true, cond-false}
use Rattle.std.proofs.lemmas.Result.{IfOk-weaker, IfErr-weaker}
use Rattle.std.specs.Global.{Global}
use Rattle.sector_disk.specs.Disk.{DiskView}
use Rattle.invoke_records.specs.declared.command.Command.{Command}
use Rattle.invoke_records.specs.declared.snapshot.Snapshot.{Snapshot}
use Rattle.invoke_records.specs.declared.version.Version.{Version}
use Rattle.invoke_records.specs.declared.version.Version.TheVariants.{Two}
use Rattle.checkpoint.specs.declared.opened.Opened.{Opened}
use Rattle.checkpoint.specs.declared.error.OpenError.{OpenError}
use Rattle.checkpoint.specs.declared.error.OpenError.TheVariants.{Fault, OutOfMemory, NotFormatted, Damaged, OldVersion}
use Rattle.checkpoint.specs.Image.{SegmentImage, parts_of, half, least_sectors, open_header, other_base}
use Rattle.checkpoint.specs.Live.{IsLiveIn, IsLive, settings_of}
use Rattle.checkpoint.specs.Opening.{IsNoFinding, Refuses}
use Rattle.checkpoint.specs.Older.{read_parts, parts_behind, parts_at, older_parts, told_parts, IsOlderOf}
use Rattle.checkpoint.proofs.Images.{IsBeside, IsDiskImage, disk_image}
use Rattle.checkpoint.proofs.Parts.{parts}

module _ (version : Version) (disk : DiskView) (opened : Opened) (before : Snapshot) (live : IsLiveIn version disk opened before) (sectors : ℕ) (size : length disk.content ≡ 512 * sectors) where
  abbrev pub h : ℕ
  h = sectors / 2

  half_is : half disk.content ≡ h
  half_is = omega (arith, size)

  pub is : IsDiskImage h disk.content live.image
  is = subst (λ (n : ℕ). IsDiskImage n disk.content live.image) half_is (disk_image disk.content live.image live.reads)

  pub base_is : is.base ≡ opened.base
  base_is = ap (λ (x : SegmentImage). x.base) (parts is.base h is.header disk.content live.image.live is.live).is_live ∙ live.base

  pub other_is : least_sectors (settings_of opened) ≤ sectors → other_base h opened.base ≡ is.other
  other_is fits = elim is.sides [
    | inl a ↦ cond-true _ _ _ (eq-eqb opened.base 0 (sym base_is ∙ a.0)) ∙ sym a.1
    | inr b ↦ cond-false _ _ _ (ne_eqb opened.base 0 (λ zero. absurd (omega (arith, zero, base_is, b.0, fits)))) ∙ sym b.1
  ]

-- what stands beside a live segment has the parts of the older one
beside_parts : (h other : ℕ) (version : Version) (generation : ℕ) (image : List ℕ) (older : Option SegmentImage) → IsBeside h other version generation image (open_header other h image) older
    → parts_at other h image ≡ Ok (option_map parts_of older)
beside_parts h other version generation image None is = ap (parts_behind other h image) is
beside_parts h other version generation image (Some older) (o, opened, below, kept, is) = ap (parts_behind other h image) opened ∙ ap read_parts is

pub older_is : (disk : DiskView) (opened : Opened) (table : Snapshot) (live : IsLive disk opened table) → length disk.content ≡ 512 * disk.sectors → least_sectors (settings_of opened) ≤ disk.sectors
    → older_parts disk opened ≡ Ok (option_map parts_of live.image.older)
older_is disk opened table live size fits =
    let there = is Two disk opened table live disk.sectors size in
    ap (λ (n : ℕ). parts_at n (disk.sectors / 2) disk.content) (other_is Two disk opened table live disk.sectors size fits)
    ∙ beside_parts (disk.sectors / 2) there.other there.header.version there.header.generation disk.content live.image.older there.beside

-- what can be read is refused by the device and the memory alone
no_finding : {A : Type 0} (why : OpenError) (read : Result A OpenError) (x : A) → read ≡ Ok x → Refuses why read → IsNoFinding why
no_finding Fault read x is refused = tt
no_finding OutOfMemory read x is refused = tt
no_finding NotFormatted read x is refused = absurd (let no = sym is ∙ refused in cc)
no_finding (Damaged sector) read x is refused = absurd (let no = sym is ∙ refused in cc)
no_finding OldVersion read x is refused = absurd (let no = sym is ∙ refused in cc)

some_is : {A : Type 0} (a b : A) → ◌≡◌ {A = Result A OpenError} (Ok a) (Ok b) → a ≡ b
some_is a b is = cc

-- what the bytes say of the segment beside, said of a live disk
pub is_older_of : (disk : DiskView) (opened : Opened) (table : Snapshot) (result : Result (Option (Snapshot × Vec Command Global)) OpenError) → length disk.content ≡ 512 * disk.sectors
    → least_sectors (settings_of opened) ≤ disk.sectors → IfOk result (λ told. older_parts disk opened ≡ Ok (option_map told_parts told))
    → IfErr result (λ why. Refuses why (older_parts disk opened)) → IsOlderOf disk opened table result
is_older_of disk opened table result size fits exact refused live =
    let older = older_is disk opened table live size fits in (
      IfOk-weaker result _ _ (λ told is. some_is _ _ (sym is ∙ older)) exact,
      IfErr-weaker result _ _ (λ why is. no_finding why (older_parts disk opened) _ older is) refused,
    )
