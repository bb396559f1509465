-- What a copy answers, and that its disk goes on with the broker's histories.
use Rattle.std.proofs.Common.{◌≡◌, ◌↔◌, ℕ, ◌≤◌, Bool, true, false, is_none, nat_lt, List, length, Option, None, Some, Result, Err, refl, sym, ap, subst, ◌∙◌, arith, ⊎_elim}
use Rattle.std.specs.Prelude.{if◌then◌else◌}
use Rattle.std.proofs.lemmas.List.{take_all}
use Rattle.std.proofs.lemmas.Bool.{and_from, cases_lt, le-ltb, lt-ltb, false≢true}
use Rattle.sector_disk.specs.Disk.{DiskView}
use Rattle.sector_disk.specs.declared.disk.Disk.{Ghosts}
use Rattle.retry_rules.specs.declared.settings.Settings.{Settings}
use Rattle.invoke_records.specs.declared.command.Command.{Command}
use Rattle.invoke_records.specs.declared.snapshot.Snapshot.{Snapshot}
use Rattle.invoke_records.specs.Spelling.{snapshot_fault}
use Rattle.async_core.specs.History.{table_of}
use Rattle.async_core.specs.Limits.{is_within}
use Rattle.async_core.specs.laws.Limits.{history_fit}
use Rattle.async_core.specs.laws.Tables.{number-table_of}
use Rattle.checkpoint.specs.declared.error.SeedError.{SeedError}
use Rattle.checkpoint.specs.declared.error.SeedError.TheVariants as seed_error
use Rattle.checkpoint.specs.Image.{least_sectors}
use Rattle.checkpoint.specs.Live.{RecoversTo, may_stand}
use Rattle.checkpoint.specs.Formatting.{IsTooSmall, IsBadToSeed, IsSeeded}
use Rattle.broker_core.specs.declared.broker.Broker.{Broker}
use Rattle.broker_core.specs.Broker.{settings_of, table_in, Stands}
use Rattle.disk_copy.specs.Limits.{AllowsAll}
use Rattle.disk_copy.specs.laws.Histories.{IsLegal-kept, table_of-same}
use Rattle.disk_copy.specs.laws.Tables.{may_stand-kept}
use Rattle.disk_copy.specs.Change.{refusal_between}
use Rattle.disk_copy.specs.declared.change.Change.{Change}
use Rattle.disk_copy.specs.declared.error.CopyError.{CopyError}
use Rattle.disk_copy.specs.declared.error.CopyError.TheVariants as copy_error
use Rattle.disk_copy.specs.Copying.{settings_for, of_seed, misfit, first_cause, refusal_for, IsCopyReason, GoesOnWith}

-- ## Why it is refused

-- by whether the disk is too small, and whether the table may stand on it
abbrev cause_by : Bool → Bool → ℕ → Option CopyError
cause_by small stands least = if small then Some (copy_error.TooSmall least) else if stands then None else Some copy_error.BadTable

no_cause : (small stands : Bool) (least : ℕ) → (small ≡ true → ⊥) → (stands ≡ false → ⊥) → cause_by small stands least ≡ None
no_cause true stands least large good = absurd (large refl)
no_cause false false least large good = absurd (good refl)
no_cause false true least large good = refl

module _ (disk : DiskView) (s : Settings) (table : Snapshot) (result : Result (Unit {0}) SeedError)
    (least : (n : ℕ) → result ≡ Err (seed_error.TooSmall n) → (n ≡ least_sectors s) × IsTooSmall disk s)
    (small : IsTooSmall disk s → result ≡ Err (seed_error.TooSmall (least_sectors s)))
    (bad : (result ≡ Err seed_error.BadKind) ↔ IsBadToSeed disk s table) where
  -- neither of its own refusals was told
  pub fits : ((n : ℕ) → result ≡ Err (seed_error.TooSmall n) → ⊥) → (result ≡ Err seed_error.BadKind → ⊥) → misfit disk.sectors s table ≡ None
  fits not_small not_bad =
      let large : least_sectors s ≤ disk.sectors =
      ⊎_elim (λ below. absurd (not_small (least_sectors s) (small below))) (λ (le : least_sectors s ≤ disk.sectors). le) (cases_lt disk.sectors (least_sectors s)) in
      no_cause (nat_lt disk.sectors (least_sectors s)) (may_stand s table) (least_sectors s)
      (λ is. false≢true (sym (le-ltb disk.sectors (least_sectors s) large) ∙ is)) (λ is. not_bad (bad.1 (large, is)))

  -- what was told is the first that holds
  pub told : (why : SeedError) → result ≡ Err why → IsCopyReason (misfit disk.sectors s table) (of_seed why)
  told (seed_error.TooSmall n) is =
      let says = least n is in
      rw (lt-ltb disk.sectors (least_sectors s) says.1, says.0) refl
  told seed_error.BadKind is =
      let says = bad.0 is in
      rw (le-ltb disk.sectors (least_sectors s) says.0, says.1) refl
  told seed_error.OutOfMemory is = tt
  told seed_error.Fault is = fits (λ n wrong. let no = sym is ∙ wrong in cc) (λ wrong. let no = sym is ∙ wrong in cc)

-- the disk calls it bad alone where it says so
pub seed_bad : (why : SeedError) → of_seed why ≡ copy_error.BadTable → why ≡ seed_error.BadKind
seed_bad (seed_error.TooSmall n) is = cc
seed_bad seed_error.BadKind is = refl
seed_bad seed_error.OutOfMemory is = cc
seed_bad seed_error.Fault is = cc

-- ## What was prepared

-- the settings were not refused, and these settings and this table were prepared
module _ {D : Type 0} {g : Ghosts D} (broker : Broker D g) (change : Change) (s : Settings) (table : Snapshot)
    (settings : s ≡ settings_for broker change) (same : table ≡ table_in broker) (none : refusal_between (settings_of broker) (settings_for broker change) ≡ None) where
  same_refusal : (sectors : ℕ) → refusal_for sectors broker change ≡ misfit sectors s table
  same_refusal sectors =
      ap (λ b. first_cause b (misfit sectors (settings_for broker change) (table_in broker))) none ∙ sym (λ i. misfit sectors (settings i) (same i))

  pub granted : (sectors : ℕ) → misfit sectors s table ≡ None → refusal_for sectors broker change ≡ None
  granted sectors fits = same_refusal sectors ∙ fits

  pub refused : (sectors : ℕ) (why : CopyError) → IsCopyReason (misfit sectors s table) why → IsCopyReason (refusal_for sectors broker change) why
  refused sectors why reason = subst (λ (r : Option CopyError). IsCopyReason r why) (sym (same_refusal sectors)) reason

  pub bad_so : may_stand s table ≡ false → may_stand (settings_for broker change) (table_in broker) ≡ false
  bad_so bad = sym (λ i. may_stand (settings i) (same i)) ∙ bad

  pub copied : (disk : DiskView) → IsSeeded disk s table → IsSeeded disk (settings_for broker change) (table_in broker)
  copied disk seeded = (
    seeded.0,
    subst (λ (x : Settings). RecoversTo x (table_in broker) disk.content) settings (subst (λ (t : Snapshot). RecoversTo s t disk.content) same seeded.1),
  )

-- ## The histories

module _ {D : Type 0} {g : Ghosts D} (view : D → DiskView) (broker : Broker D g) (history : List Command) (stands : Stands view broker history)
    (new : Settings) (allows : AllowsAll (settings_of broker) new) where
  abbrev s : Settings
  s = settings_of broker

  number : table_in broker ≡ table_of s history → (table_in broker).number ≡ length history
  number is = ap (λ (t : Snapshot). t.number) is ∙ number-table_of s history

  -- its table may stand on a disk under the new settings
  pub never_bad : may_stand new (table_in broker) ≡ false → ⊥
  never_bad bad =
      let fit = history_fit s history stands.good.check stands.legal (omega (arith, broker.below, number stands.table_is)) in
      let there : may_stand s (table_of s history) ≡ true = and_from (is_none (snapshot_fault (table_of s history))) (is_within s (table_of s history)) (ap is_none fit.fault) fit.within in
      let here : may_stand s (table_in broker) ≡ true = ap (may_stand s) stands.table_is ∙ there in
      false≢true (sym bad ∙ may_stand-kept s new allows (table_in broker) here)

  -- a disk that has its table goes on with it
  pub goes_on : (disk : DiskView) → IsSeeded disk new (table_in broker) → GoesOnWith disk new history
  goes_on disk seeded =
      let table_is : table_in broker ≡ table_of new history = stands.table_is ∙ sym (table_of-same s new allows history) in
      record {
        legal = IsLegal-kept s new allows history stands.legal;
        stops = λ image left. record {
          size = length history;
          least = omega arith;
          most = omega arith;
          recovers =
              subst (λ (h : List Command). RecoversTo new (table_of new h) image) (sym (take_all (length history) history (omega arith)))
              (subst (λ (t : Snapshot). RecoversTo new t image) table_is
              (subst (λ (i : List ℕ). RecoversTo new (table_in broker) i) (sym (seeded.0 image left)) seeded.1));
        };
      }
