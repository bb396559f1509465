-- What a write of a batch makes of the half over the disk.
use Rattle.std.proofs.Common.{◌≡◌, ◌⊎◌, ℕ, ◌+◌, ◌-◌, ◌^◌, ◌<◌, ◌≤◌, true, false, List, Result, Err, ◌++◌, length, take, drop, refl, sym, ap, subst, ◌∙◌, arith, inl, inr, ⊎_elim, length-append}
use Rattle.std.proofs.Math.Seq.{take-add}
use Rattle.std.proofs.lemmas.List.{append-nil, drop-drop, length-take}
use Rattle.std.proofs.lemmas.Bool.{cases_lt, false≢true}
use Rattle.sector_disk.specs.Disk.{DiskView, IsDisk, IsSameDisk}
use Rattle.sector_disk.specs.Moments.{LeavesOnly}
use Rattle.sector_disk.specs.laws.Moments.{started}
use Rattle.sector_disk.specs.declared.disk.Disk.{Ghosts}
use Rattle.retry_rules.specs.declared.settings.Settings.{Settings}
use Rattle.invoke_records.specs.declared.snapshot.Snapshot.{Snapshot}
use Rattle.invoke_records.specs.declared.command.Command.{Command}
use Rattle.async_core.specs.laws.Tables.{number-table_of}
use Rattle.invoke_records.specs.Spelling.{commands_text}
use Rattle.checkpoint.specs.declared.opened.Opened.{Opened}
use Rattle.checkpoint.specs.Live.{fits, generation_of, may_stand}
use Rattle.broker_core.specs.declared.broker.Broker.{Broker}
use Rattle.broker_core.specs.declared.batch.Batch.{Batch}
use Rattle.broker_core.specs.declared.error.CommitError.{CommitError}
use Rattle.broker_core.specs.declared.error.CommitError.TheVariants as commit_error
use Rattle.broker_core.specs.declared.error.WriteError.{WriteError}
use Rattle.broker_core.specs.declared.error.WriteError.TheVariants as write_error
use Rattle.broker_core.specs.History.{IsLegalStop}
use Rattle.broker_core.specs.Broker.{disk_of, settings_of, table_in, issued_of, durable_of, is_broken, Stands, IsSameBroker, Breaks}
use Rattle.broker_core.specs.Refusals.{IsWornOut, NeedsSwitch, HasBadTable}
use Rattle.broker_core.specs.Batch.{first_of}
use Rattle.broker_core.specs.Taking.{TakesMissing, HasTaken, IsTakeReason, commit_cause}
use Rattle.broker_core.specs.Writing.{IsApart, missing_in, taken_from, HasAll, IsNotWritten, EndsWith, IsFrontOf, StaysInFront, LeavesStopsWith}
use Rattle.broker_core.proofs.Issued.{stop_of_more}

-- ## The front of a longer list

-- a front with what comes behind it is a front
front_more : (history whole : List Command) (n k : ℕ) → length history ≡ n → k ≤ length (drop n whole) → IsFrontOf history whole → IsFrontOf (history ++ take k (drop n whole)) whole
front_more history whole n k size within front =
    let there : history ≡ take n whole = front ∙ ap (λ (m : ℕ). take m whole) size in
    let both : history ++ take k (drop n whole) ≡ take (n + k) whole = ap (λ (l : List Command). l ++ take k (drop n whole)) there ∙ sym (take-add n k whole) in
    let count : length (history ++ take k (drop n whole)) ≡ n + k =
    length-append history (take k (drop n whole)) ∙ omega (arith, size, length-take k (drop n whole), within) in
    both ∙ ap (λ (m : ℕ). take m whole) (sym count)

module _ {D : Type 0} {g : Ghosts D} (view : D → DiskView) (old new : Broker D g) (batch : Batch) where
  number : (history : List Command) → Stands view old history → issued_of old ≡ length history
  number history stands = ap (λ (t : Snapshot). t.number) stands.table_is ∙ number-table_of (settings_of old) history

  -- what is missing of a list that ends with the batch
  missing_of : (whole : List Command) → EndsWith whole batch → first_of batch ≤ issued_of old + 1 → missing_in old batch ≡ drop (issued_of old) whole
  missing_of whole ends joined =
      ap (drop (issued_of old + 1 - first_of batch)) ends.commands
      ∙ drop-drop (issued_of old + 1 - first_of batch) (first_of batch - 1) whole
      ∙ ap (λ (n : ℕ). drop n whole) (omega (arith, joined, batch.from_one))

  pub stays_in_front : issued_of old ≤ issued_of new → issued_of new - issued_of old ≤ length (missing_in old batch) → (IsApart old batch → issued_of new ≡ issued_of old) → StaysInFront view old new batch
  stays_in_front least most apart whole ends history stands front =
      let n = issued_of old in
      let k = issued_of new - n in
      ⊎_elim
      (λ (gap : n + 1 < first_of batch).
      let none : k ≡ 0 = omega (arith, apart (inl gap)) in
      subst (λ (m : ℕ). IsFrontOf (history ++ take m (missing_in old batch)) whole) (sym none)
      (subst (λ (l : List Command). IsFrontOf l whole) (sym (append-nil history)) front))
      (λ (joined : first_of batch ≤ n + 1).
      let missing = missing_of whole ends joined in
      subst (λ (l : List Command). IsFrontOf (history ++ take k l) whole) (sym missing)
      (front_more history whole n k (sym (number history stands)) (subst (λ (l : List Command). k ≤ length l) missing most) front))
      (cases_lt (n + 1) (first_of batch))

  -- before the disk is called
  pub leaves_at_first : ((disk : D) → (view disk).honest → IsDisk (view disk)) → disk_of new ≡ disk_of old → LeavesStopsWith view old new batch
  leaves_at_first laws same honest history stands =
      let Stop = IsLegalStop (settings_of old) (history ++ taken_from old new batch) (durable_of old) in
      subst (λ (x : D). LeavesOnly (view (disk_of old)) (view x) Stop) (sym same)
      (started view laws (disk_of old) Stop honest
      (λ image left. stop_of_more (settings_of old) history (taken_from old new batch) (durable_of old) image (stands.stops honest image left))).leaves

-- ## The commit

module _ {D : Type 0} {g : Ghosts D} (view : D → DiskView) (old mid new : Broker D g) (batch : Batch) (takes : TakesMissing old batch mid) where
  -- the same table after a commit that was refused
  pub same_table : (why : CommitError) → (why ≡ commit_error.Fault → Breaks mid new) → ((why ≡ commit_error.Fault) ⊎ IsSameBroker mid new) → table_in new ≡ table_in mid
  same_table why breaks kept = ⊎_elim (λ fault. (breaks fault).table) (λ same. same.table) kept

  pub same_settings : (why : CommitError) → (why ≡ commit_error.Fault → Breaks mid new) → ((why ≡ commit_error.Fault) ⊎ IsSameBroker mid new) → settings_of new ≡ settings_of old
  same_settings why breaks kept = ⊎_elim (λ fault. (breaks fault).settings) (λ same. same.settings) kept ∙ takes.settings

  pub same_taken : table_in new ≡ table_in mid → taken_from old new batch ≡ taken_from old mid batch
  same_taken same = ap (λ (t : Snapshot). take (t.number - issued_of old) (missing_in old batch)) same

  pub stands_on : (history : List Command) → table_in new ≡ table_in mid → Stands view new (history ++ taken_from old mid batch) → Stands view new (history ++ taken_from old new batch)
  stands_on history same stands = subst (λ (l : List Command). Stands view new (history ++ l)) (sym (same_taken same)) stands

  -- a stop within the commit
  pub leaves_on : table_in new ≡ table_in mid
      → ((view (disk_of mid)).honest → (history : List Command) → Stands view mid history → LeavesOnly (view (disk_of mid)) (view (disk_of new)) (IsLegalStop (settings_of mid) history (durable_of mid)))
      → ((history : List Command) → Stands view old history → Stands view mid (history ++ taken_from old mid batch)) → LeavesStopsWith view old new batch
  leaves_on same leaves goes honest history stands =
      let honest_there = subst (λ (x : D). (view x).honest) (sym takes.disk) honest in
      let there = leaves honest_there (history ++ taken_from old mid batch) (goes history stands) in
      subst (λ (l : List Command). LeavesOnly (view (disk_of old)) (view (disk_of new)) (IsLegalStop (settings_of old) (history ++ l) (durable_of old))) (sym (same_taken same))
      (subst (λ (x : D). LeavesOnly (view x) (view (disk_of new)) (IsLegalStop (settings_of old) (history ++ taken_from old mid batch) (durable_of old))) takes.disk
      (subst (λ (s : Settings). LeavesOnly (view (disk_of mid)) (view (disk_of new)) (IsLegalStop s (history ++ taken_from old mid batch) (durable_of old))) takes.settings
      (subst (λ (n : ℕ). LeavesOnly (view (disk_of mid)) (view (disk_of new)) (IsLegalStop (settings_of mid) (history ++ taken_from old mid batch) n)) takes.durable there)))

  -- ### Why it was refused

  module _ (taken : HasTaken old batch mid) where
    whole : is_broken mid ≡ false
    whole = takes.broken ∙ taken.whole

    all_of : IsSameBroker mid new → HasAll new batch
    all_of same = ap (λ (t : Snapshot). t.number) same.table ∙ taken.all

    kept_whole : IsSameBroker mid new → is_broken new ≡ false
    kept_whole same = same.broken ∙ whole

    switches : IsSameBroker mid new → NeedsSwitch mid → NeedsSwitch new
    switches same needs = (
      subst (λ (l : List Command). 1 ≤ length l) (sym same.pending) needs.0,
      (λ i. fits (same.opened i) (length (commands_text (same.pending i)))) ∙ needs.1,
    )

    same_of : (why : CommitError) → ((why ≡ commit_error.Fault) ⊎ IsSameBroker mid new) → (why ≡ commit_error.Fault → ⊥) → IsSameBroker mid new
    same_of why (inl fault) never = absurd (never fault)
    same_of why (inr same) _ = same

    pub not_written : (why : CommitError) → (why ≡ commit_error.Broken → is_broken mid ≡ true) → (why ≡ commit_error.WornOut → IsWornOut mid × NeedsSwitch mid)
        → (why ≡ commit_error.BadKind → HasBadTable mid × NeedsSwitch mid) → (why ≡ commit_error.Fault → Breaks mid new) → ((why ≡ commit_error.Fault) ⊎ IsSameBroker mid new)
        → IsNotWritten old batch new (commit_cause why)
    not_written commit_error.Broken broken worn bad breaks kept = absurd (false≢true (sym whole ∙ broken refl))
    not_written commit_error.WornOut broken worn bad breaks kept =
        let same = same_of commit_error.WornOut kept (λ wrong. cc) in
        record {
          reason = (all_of same, subst (λ (o : Opened). 2 ^ 62 ≤ generation_of o) (sym same.opened) (worn refl).0, switches same (worn refl).1);
          broken = kept_whole same;
          durable = same.durable ∙ takes.durable;
        }
    not_written commit_error.BadKind broken worn bad breaks kept =
        let same = same_of commit_error.BadKind kept (λ wrong. cc) in
        record {
          reason = (all_of same, (λ i. may_stand (same.settings i) (same.table i)) ∙ (bad refl).0, switches same (bad refl).1);
          broken = kept_whole same;
          durable = same.durable ∙ takes.durable;
        }
    not_written commit_error.OutOfMemory broken worn bad breaks kept =
        let same = same_of commit_error.OutOfMemory kept (λ wrong. cc) in
        record { reason = kept_whole same; broken = kept_whole same; durable = same.durable ∙ takes.durable }
    not_written commit_error.Fault broken worn bad breaks kept =
        let broke = breaks refl in
        record { reason = (ap (λ (t : Snapshot). t.number) broke.table ∙ taken.all, broke.broken); broken = broke.broken; durable = broke.durable ∙ takes.durable }

-- what the write calls bad, the commit called so
pub bad_of : (why : CommitError) → commit_cause why ≡ write_error.BadKind → why ≡ commit_error.BadKind
bad_of commit_error.Broken is = cc
bad_of commit_error.WornOut is = cc
bad_of commit_error.BadKind is = refl
bad_of commit_error.OutOfMemory is = cc
bad_of commit_error.Fault is = cc

pub fault_of : (why : CommitError) → commit_cause why ≡ write_error.Fault → why ≡ commit_error.Fault
fault_of commit_error.Broken is = cc
fault_of commit_error.WornOut is = cc
fault_of commit_error.BadKind is = cc
fault_of commit_error.OutOfMemory is = cc
fault_of commit_error.Fault is = refl

pub same_error : {T E : Type 0} {a b : E} → ◌≡◌ {A = Result T E} (Err a) (Err b) → a ≡ b
same_error is = cc

-- ## Calls of the disk

pub same_at_first : {D : Type 0} (view : D → DiskView) (old new : D) → new ≡ old → IsSameDisk (view old) (view new)
same_at_first {D = D} view old new same = subst (λ (x : D). IsSameDisk (view old) (view x)) (sym same) (record { sectors = refl; honest = (λ h. h, λ h. h) })

pub same_on : {D : Type 0} (view : D → DiskView) (old mid new : D) → mid ≡ old → IsSameDisk (view mid) (view new) → IsSameDisk (view old) (view new)
same_on {D = D} view old mid new same disk = subst (λ (x : D). IsSameDisk (view x) (view new)) same disk

-- ## Why nothing was committed

pub not_taken : {D : Type 0} {g : Ghosts D} (old new : Broker D g) (batch : Batch) (why : WriteError) → TakesMissing old batch new → IsTakeReason old batch new why → IsNotWritten old batch new why
not_taken old new batch write_error.Broken takes reason = record { reason = reason; broken = takes.broken ∙ reason; durable = takes.durable }
not_taken old new batch write_error.Mismatch takes reason = record { reason = reason.1; broken = takes.broken ∙ reason.0; durable = takes.durable }
not_taken old new batch write_error.WornOut takes reason = absurd reason
not_taken old new batch write_error.Backlog takes reason = record { reason = (reason.1, reason.2); broken = takes.broken ∙ reason.0; durable = takes.durable }
not_taken old new batch write_error.BadKind takes reason = absurd reason
not_taken old new batch write_error.OutOfMemory takes reason = record { reason = takes.broken ∙ reason; broken = takes.broken ∙ reason; durable = takes.durable }
not_taken old new batch write_error.Fault takes reason = absurd reason
