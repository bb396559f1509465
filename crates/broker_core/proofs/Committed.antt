-- What a commit makes of a broker that stands for a history.
use Rattle.std.proofs.Common.{◌≡◌, ◌⊎◌, ℕ, ◌≤◌, true, false, is_none, None, Some, List, [], length, take, Result, Ok, Err, refl, sym, ap, subst, ◌∙◌, arith, inl, inr, ⊎_elim}
use Rattle.std.specs.Prelude.{IfOk, OnOk, OnErr}
use Rattle.std.proofs.lemmas.List.{take_all}
use Rattle.std.proofs.lemmas.Bool.{and_from, false≢true}
use Rattle.std.proofs.Math.ListN.{drop_of_length-le}
use Rattle.sector_disk.specs.Disk.{DiskView, IsDisk, IsSameDisk}
use Rattle.sector_disk.specs.declared.disk.Disk.{Ghosts}
use Rattle.sector_disk.specs.Moments.{LeavesOnly}
use Rattle.retry_rules.specs.declared.settings.Settings.{Settings}
use Rattle.invoke_records.specs.declared.snapshot.Snapshot.{Snapshot}
use Rattle.invoke_records.specs.declared.command.Command.{Command}
use Rattle.async_core.specs.Rules.{replay}
use Rattle.async_core.specs.History.{table_of}
use Rattle.async_core.specs.laws.Tables.{replay-history, number-table_of}
use Rattle.async_core.specs.Limits.{is_within}
use Rattle.async_core.specs.laws.Limits.{history_fit}
use Rattle.invoke_records.specs.Spelling.{snapshot_fault}
use Rattle.checkpoint.specs.Live.{RecoversTo, RecoversToEither, IsLive, may_stand, live_recovers}
use Rattle.broker_core.specs.declared.broker.Broker.{Broker}
use Rattle.broker_core.specs.declared.error.CommitError.{CommitError}
use Rattle.broker_core.specs.declared.error.CommitError.TheVariants.{Fault}
use Rattle.broker_core.specs.History.{IsLegalStop}
use Rattle.broker_core.specs.Broker.{disk_of, settings_of, table_in, issued_of, pending_of, durable_of, is_broken, opened_of, BrokerState, state_of, StandsFor, Stands, IsSameBroker, Commits, Breaks}
use Rattle.broker_core.specs.Refusals.{HasBadTable}
use Rattle.broker_core.proofs.Issued.{stands_along}

-- what holds of each image holds of what follows from it
pub weaker : {old new : DiskView} {P Q : List ℕ → Type 0} → ((image : List ℕ) → P image → Q image) → LeavesOnly old new P → LeavesOnly old new Q
weaker step leaves = record {
  later = leaves.later;
  each = λ image left. step image (leaves.each image left);
  before = λ t image le left. ⊎_elim (λ was. inl was) (λ is. inr (step image is)) (leaves.before t image le left);
}

-- the durable commands are a legal stop
pub stop_before : (s : Settings) (history : List Command) (durable : ℕ) (image : List ℕ) → durable ≤ length history → RecoversTo s (table_of s (take durable history)) image → IsLegalStop s history durable image
stop_before s history durable image within is = record { size = durable; least = omega arith; most = within; recovers = is }

-- and so is the whole history
pub stop_after : (s : Settings) (history : List Command) (durable : ℕ) (image : List ℕ) → durable ≤ length history → RecoversTo s (table_of s history) image → IsLegalStop s history durable image
stop_after s history durable image within is = record {
  size = length history;
  least = within;
  most = omega arith;
  recovers = subst (λ (h : List Command). RecoversTo s (table_of s h) image) (sym (take_all (length history) history (omega arith))) is;
}

module _ {D : Type 0} {g : Ghosts D} (view : D → DiskView) (laws : (disk : D) → (view disk).honest → IsDisk (view disk)) (old new : Broker D g) (history : List Command)
    (stands : Stands view old history) (whole : is_broken old ≡ false) where
  abbrev s : Settings
  s = settings_of old

  abbrev before : Snapshot
  before = table_of s (take (durable_of old) history)

  -- what is pending leads from the durable commands to the whole history
  pub replays : replay s before (pending_of old) ≡ Some (table_in old)
  replays =
      ap (λ (l : List Command). replay s before l) stands.pending_is ∙ replay-history s history (durable_of old) stands.good.check stands.legal stands.durable_is
      ∙ ap (λ (t : Snapshot). Some t) (sym stands.table_is)

  pub number : issued_of old ≡ length history
  number = ap (λ (t : Snapshot). t.number) stands.table_is ∙ number-table_of s history

  -- each image of a commit is a legal stop
  pub is_stop : (image : List ℕ) → RecoversToEither s before (table_in old) image → IsLegalStop s history (durable_of old) image
  is_stop image = ⊎_elim (stop_before s history (durable_of old) image stands.durable_is)
      (λ after. stop_after s history (durable_of old) image stands.durable_is (subst (λ (t : Snapshot). RecoversTo s t image) stands.table_is after))

  -- the table of a history may stand on the disk
  pub never_bad : HasBadTable old → ⊥
  never_bad bad =
      let fit = history_fit s history stands.good.check stands.legal (omega (arith, old.below, number)) in
      let stands_there : may_stand s (table_of s history) ≡ true = and_from (is_none (snapshot_fault (table_of s history))) (is_within s (table_of s history)) (ap is_none fit.fault) fit.within in
      false≢true (sym bad ∙ ap (may_stand s) stands.table_is ∙ stands_there)

  -- all is durable
  pub stands_committed : (durable : ℕ) → IsSameDisk (view (disk_of old)) (view (disk_of new)) → Commits old new durable
      → ((view (disk_of old)).honest → IsLive (view (disk_of new)) (opened_of new) (table_of s history)) → Stands view new history
  stands_committed durable same commits live =
      let there = λ (honest : (view (disk_of new)).honest). live (same.honest.0 honest) in
      let all : take (issued_of old) history ≡ history = take_all (issued_of old) history (omega (arith, number)) in
      let kept : s ≡ (opened_of new).settings = sym commits.settings ∙ new.settings in
      let was : BrokerState = record (state_of view old) { disk = view (disk_of new); opened = opened_of new; pending = []; durable = issued_of old; staged = None } in
      let base : StandsFor was history =
      record {
        good = stands.good;
        legal = stands.legal;
        table_is = stands.table_is;
        durable_is = omega (arith, number);
        pending_is = sym (drop_of_length-le history (omega (arith, number)));
        stops = λ honest image left.
            stop_after s history (issued_of old) image (omega (arith, number))
            (subst (λ (r : Settings). RecoversTo r (table_of s history) image) (sym kept) (live_recovers _ _ _ (there honest) image left));
        live = λ sound honest. subst (λ (h : List Command). IsLive (view (disk_of new)) (opened_of new) (table_of s h)) (sym all) (there honest);
        front = tt;
        ahead = λ sound honest. tt;
      } in
      stands_along was (state_of view new) history refl refl commits.settings commits.table commits.pending commits.all commits.broken commits.staged base

  -- a fault leaves a legal stop
  pub stands_broken : IsSameDisk (view (disk_of old)) (view (disk_of new)) → Breaks old new
      → ((view (disk_of old)).honest → LeavesOnly (view (disk_of old)) (view (disk_of new)) (IsLegalStop s history (durable_of old))) → Stands view new history
  stands_broken same breaks leaves =
      let was : BrokerState = record (state_of view old) { disk = view (disk_of new); opened = opened_of new; broken = true } in
      let base : StandsFor was history =
      record {
        good = stands.good;
        legal = stands.legal;
        table_is = stands.table_is;
        durable_is = stands.durable_is;
        pending_is = stands.pending_is;
        stops = λ honest image left.
            let moments = leaves (same.honest.0 honest) in
            moments.each image ((laws (disk_of new) honest).counts_now (view (disk_of old)).moment image moments.later left);
        live = λ sound honest. absurd cc;
        front = stands.front;
        ahead = λ sound honest. absurd cc;
      } in
      stands_along was (state_of view new) history refl refl breaks.settings breaks.table breaks.pending breaks.durable breaks.broken breaks.staged base

  pub stands_same : IsSameBroker old new → Stands view new history
  stands_same same =
      stands_along (state_of view old) (state_of view new) history (ap view same.disk) same.opened same.settings same.table same.pending same.durable same.broken same.staged stands

  -- whatever the commit answers
  pub stands_after : (result : Result ℕ CommitError) → IsSameDisk (view (disk_of old)) (view (disk_of new)) → IfOk result (λ durable. Commits old new durable) → (result ≡ Err Fault → Breaks old new)
      → OnErr result ((result ≡ Err Fault) ⊎ IsSameBroker old new) → ((view (disk_of old)).honest → OnOk result (IsLive (view (disk_of new)) (opened_of new) (table_in old)))
      → ((view (disk_of old)).honest → LeavesOnly (view (disk_of old)) (view (disk_of new)) (IsLegalStop s history (durable_of old))) → Stands view new history
  stands_after (Ok durable) same ok breaks kept live leaves =
      stands_committed durable same ok (λ honest. subst (λ (t : Snapshot). IsLive (view (disk_of new)) (opened_of new) t) stands.table_is (live honest))
  stands_after (Err why) same ok breaks kept live leaves = ⊎_elim (λ fault. stands_broken same (breaks fault) leaves) stands_same kept
