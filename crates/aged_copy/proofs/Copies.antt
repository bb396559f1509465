-- What a copy with a longer age answers, and that its disk goes on with a history.
use Rattle.std.proofs.Common.{◌≡◌, ◌↔◌, inl, inr, ℕ, ◌+◌, ◌*◌, ◌^◌, ◌≤◌, ◌<◌, Bool, true, false, is_none, nat_lt, List, length, Option, None, Some, Result, Err, refl, sym, ap, subst, ◌∙◌, arith, ⊎_elim}
use Rattle.std.specs.Prelude.{if◌then◌else◌}
use Rattle.std.proofs.lemmas.List.{take_all}
use Rattle.std.proofs.lemmas.Bool.{and_from, cases_lt, le-ltb, lt-ltb, false≢true, true≢false}
use Rattle.sector_disk.specs.Disk.{DiskView}
use Rattle.sector_disk.specs.declared.disk.Disk.{Ghosts}
use Rattle.retry_rules.specs.declared.settings.Settings.{Settings}
use Rattle.retry_rules.specs.declared.settings.Field.TheVariants as field
use Rattle.retry_rules.specs.Settings.{bad_field, is_outside}
use Rattle.invoke_records.specs.declared.command.Command.{Command}
use Rattle.invoke_records.specs.declared.snapshot.Snapshot.{Snapshot}
use Rattle.invoke_records.specs.Spelling.{snapshot_fault}
use Rattle.async_core.specs.History.{IsLegal, table_of}
use Rattle.async_core.specs.Limits.{is_within}
use Rattle.async_core.specs.laws.Limits.{history_fit}
use Rattle.async_core.specs.laws.Tables.{number-table_of}
use Rattle.checkpoint.specs.declared.error.SeedError.{SeedError}
use Rattle.checkpoint.specs.declared.error.SeedError.TheVariants as seed_error
use Rattle.checkpoint.specs.Image.{least_sectors}
use Rattle.checkpoint.specs.Live.{RecoversTo, may_stand}
use Rattle.checkpoint.specs.Formatting.{IsTooSmall, IsBadToSeed, IsSeeded}
use Rattle.broker_core.specs.declared.broker.Broker.{Broker}
use Rattle.broker_core.specs.Broker.{settings_of, table_in, Stands}
use Rattle.disk_copy.specs.Limits.{AllowsAll}
use Rattle.disk_copy.specs.laws.Histories.{IsLegal-kept, table_of-same}
use Rattle.disk_copy.specs.Change.{refusal_between}
use Rattle.disk_copy.specs.declared.change.Change.{Change}
use Rattle.disk_copy.specs.declared.change.ChangeError.{ChangeError}
use Rattle.disk_copy.specs.declared.change.ChangeError.TheVariants as change_error
use Rattle.disk_copy.specs.declared.error.CopyError.{CopyError}
use Rattle.disk_copy.specs.declared.error.CopyError.TheVariants as copy_error
use Rattle.disk_copy.specs.Copying.{settings_for, of_change, of_seed, misfit, first_cause, IsCopyReason}
use Rattle.aged_copy.specs.Aging.{aged}
use Rattle.aged_copy.specs.Copying.{age_cause, refusal_with_age, has_numbers, IsAgedReason, GoesOnFrom}
use Rattle.aged_copy.specs.CopySteps.{IsUnprepared}
use Rattle.aged_copy.proofs.Histories.{aged_history}
use Rattle.aged_copy.proofs.Numbers.{numbers_of}

-- ## Why it is refused

-- by whether the disk is too small, and whether the table may stand on it
abbrev cause_by : Bool → Bool → ℕ → Option CopyError
cause_by small stands least = if small then Some (copy_error.TooSmall least) else if stands then None else Some copy_error.BadTable

no_cause : (small stands : Bool) (least : ℕ) → (small ≡ true → ⊥) → (stands ≡ false → ⊥) → cause_by small stands least ≡ None
no_cause true stands least large good = absurd (large refl)
no_cause false false least large good = absurd (good refl)
no_cause false true least large good = refl

module _ (disk : DiskView) (s : Settings) (table : Snapshot) (result : Result (Unit {0}) SeedError)
    (least : (n : ℕ) → result ≡ Err (seed_error.TooSmall n) → (n ≡ least_sectors s) × IsTooSmall disk s)
    (small : IsTooSmall disk s → result ≡ Err (seed_error.TooSmall (least_sectors s)))
    (bad : (result ≡ Err seed_error.BadKind) ↔ IsBadToSeed disk s table) where
  -- neither of its own refusals was told
  pub fits : ((n : ℕ) → result ≡ Err (seed_error.TooSmall n) → ⊥) → (result ≡ Err seed_error.BadKind → ⊥) → misfit disk.sectors s table ≡ None
  fits not_small not_bad =
      let large : least_sectors s ≤ disk.sectors =
      ⊎_elim (λ below. absurd (not_small (least_sectors s) (small below))) (λ (le : least_sectors s ≤ disk.sectors). le) (cases_lt disk.sectors (least_sectors s)) in
      no_cause (nat_lt disk.sectors (least_sectors s)) (may_stand s table) (least_sectors s)
      (λ is. false≢true (sym (le-ltb disk.sectors (least_sectors s) large) ∙ is)) (λ is. not_bad (bad.1 (large, is)))

  -- what was told is the first that holds
  pub told : (why : SeedError) → result ≡ Err why → IsCopyReason (misfit disk.sectors s table) (of_seed why)
  told (seed_error.TooSmall n) is =
      let says = least n is in
      rw (lt-ltb disk.sectors (least_sectors s) says.1, says.0) refl
  told seed_error.BadKind is =
      let says = bad.0 is in
      rw (le-ltb disk.sectors (least_sectors s) says.0, says.1) refl
  told seed_error.OutOfMemory is = tt
  told seed_error.Fault is = fits (λ n wrong. let no = sym is ∙ wrong in cc) (λ wrong. let no = sym is ∙ wrong in cc)

-- the disk calls it bad alone where it says so
pub seed_bad : (why : SeedError) → of_seed why ≡ copy_error.BadTable → why ≡ seed_error.BadKind
seed_bad (seed_error.TooSmall n) is = cc
seed_bad seed_error.BadKind is = refl
seed_bad seed_error.OutOfMemory is = cc
seed_bad seed_error.Fault is = cc

never_of_change : (why : ChangeError) → of_change why ≡ copy_error.BadTable → ⊥
never_of_change (change_error.BadSettings bad) is = cc
never_of_change (change_error.Smaller smaller) is = cc
never_of_change change_error.OutOfMemory is = cc

-- before the disk it is called bad for its numbers alone
pub bad_numbers : (old new : Settings) (age : ℕ) (table : Snapshot) (why : CopyError) → IsUnprepared old new age table why → why ≡ copy_error.BadTable → has_numbers table ≡ false
bad_numbers old new age table why (inl memory) is = let no = sym memory ∙ is in cc
bad_numbers old new age table why (inr (inl change)) is = absurd (never_of_change change.0 (sym change.2 ∙ is))
bad_numbers old new age table why (inr (inr (inl range))) is = let no = sym range.2 ∙ is in cc
bad_numbers old new age table why (inr (inr (inr numbers))) is = numbers.0

-- a reason of the disk is one of the copy
reason : (refusal : Option CopyError) (table : Snapshot) (why : CopyError) → IsCopyReason refusal why → IsAgedReason refusal table why
reason refusal table (copy_error.BadSettings bad) is = is
reason refusal table (copy_error.Smaller smaller) is = is
reason refusal table (copy_error.TooSmall least) is = is
reason refusal table copy_error.BadTable is = inl is
reason refusal table copy_error.OutOfMemory is = is
reason refusal table copy_error.Fault is = is

-- ## What was prepared

module _ {D : Type 0} {g : Ghosts D} (broker : Broker D g) (change : Change) (age : ℕ) (s : Settings) (table : Snapshot)
    (settings : s ≡ settings_for broker change) (same : table ≡ aged age (table_in broker))
    (none : refusal_between (settings_of broker) (settings_for broker change) ≡ None) (within : is_outside 60 21600 age ≡ false) where
  same_refusal : (sectors : ℕ) → refusal_with_age sectors broker change age ≡ misfit sectors s table
  same_refusal sectors =
      let rest = misfit sectors (settings_for broker change) (aged age (table_in broker)) in
      ap (λ b. first_cause b (age_cause age rest)) none
      ∙ ap (λ (b : Bool). if b then Some (copy_error.BadSettings field.Age) else rest) within
      ∙ sym (λ i. misfit sectors (settings i) (same i))

  pub granted : (sectors : ℕ) → misfit sectors s table ≡ None → refusal_with_age sectors broker change age ≡ None
  granted sectors fits = same_refusal sectors ∙ fits

  pub refused : (sectors : ℕ) (why : CopyError) → IsCopyReason (misfit sectors s table) why → IsAgedReason (refusal_with_age sectors broker change age) (table_in broker) why
  refused sectors why is =
      reason (refusal_with_age sectors broker change age) (table_in broker) why (subst (λ (r : Option CopyError). IsCopyReason r why) (sym (same_refusal sectors)) is)

  pub bad_so : may_stand s table ≡ false → may_stand (settings_for broker change) (aged age (table_in broker)) ≡ false
  bad_so bad = sym (λ i. may_stand (settings i) (same i)) ∙ bad

  pub good_so : bad_field s ≡ None → bad_field (settings_for broker change) ≡ None
  good_so good = ap bad_field (sym settings) ∙ good

  pub copied : (disk : DiskView) → IsSeeded disk s table → IsSeeded disk (settings_for broker change) (aged age (table_in broker))
  copied disk seeded = (
    seeded.0,
    subst (λ (x : Settings). RecoversTo x (aged age (table_in broker)) disk.content) settings (subst (λ (t : Snapshot). RecoversTo s t disk.content) same seeded.1),
  )

-- ## The history

number_aged : (age : ℕ) (table : Snapshot) → (aged age table).number ≡ 2 * table.number + 1
unfolding aged
number_aged age table = refl

module _ {D : Type 0} {g : Ghosts D} (view : D → DiskView) (broker : Broker D g) (history : List Command) (stands : Stands view broker history) where
  number : (table_in broker).number ≡ length history
  number = ap (λ (t : Snapshot). t.number) stands.table_is ∙ number-table_of (settings_of broker) history

  -- its numbers are those of commands
  pub never_numbers : has_numbers (table_in broker) ≡ false → length history < 2 ^ 61 → ⊥
  never_numbers bad short =
      let here = ap has_numbers stands.table_is ∙ numbers_of (settings_of broker) history stands.good.check stands.legal (omega (arith, short)) in
      true≢false (sym here ∙ bad)

  module _ (new : Settings) (good : bad_field new ≡ None) (allows : AllowsAll (settings_of broker) new) (age : ℕ) (within : is_outside 60 21600 age ≡ false) where
    abbrev s : Settings
    s = settings_of broker

    other : (other : List Command) × IsLegal new other × (table_of new other ≡ aged age (table_of new history))
    other = aged_history new good age within history (IsLegal-kept s new allows history stands.legal)

    table_is : table_of new other.0 ≡ aged age (table_in broker)
    table_is = other.2 ∙ ap (λ t. aged age t) (table_of-same s new allows history ∙ sym stands.table_is)

    -- such a table may stand on a disk under the new settings
    pub never_bad : may_stand new (aged age (table_in broker)) ≡ false → length history < 2 ^ 61 → ⊥
    never_bad bad short =
        let count : length other.0 ≡ 2 * (table_in broker).number + 1 =
        sym (number-table_of new other.0) ∙ ap (λ (t : Snapshot). t.number) table_is ∙ number_aged age (table_in broker) in
        let fit = history_fit new other.0 good other.1 (omega (arith, short, count, number)) in
        let there : may_stand new (table_of new other.0) ≡ true = and_from (is_none (snapshot_fault (table_of new other.0))) (is_within new (table_of new other.0)) (ap is_none fit.fault) fit.within in
        false≢true (sym bad ∙ ap (may_stand new) (sym table_is) ∙ there)

    -- a disk that has it goes on with that history
    pub goes_on : (disk : DiskView) → IsSeeded disk new (aged age (table_in broker)) → GoesOnFrom disk new (aged age (table_in broker))
    goes_on disk seeded = record {
      history = other.0;
      leaves = table_is;
      goes_on = record {
        legal = other.1;
        stops = λ image left. record {
          size = length other.0;
          least = omega arith;
          most = omega arith;
          recovers =
              subst (λ (h : List Command). RecoversTo new (table_of new h) image) (sym (take_all (length other.0) other.0 (omega arith)))
              (subst (λ (t : Snapshot). RecoversTo new t image) (sym table_is)
              (subst (λ (i : List ℕ). RecoversTo new (aged age (table_in broker)) i) (sym (seeded.0 image left)) seeded.1));
        };
      };
    }
