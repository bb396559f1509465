-- A serving is any number of commits and advances: none at first, and one more after others.
use Rattle.std.proofs.Common.{◌≡◌, ℕ, ◌+◌, ◌≤◌, true, false, List, [], ◌++◌, length, Option, Some, None, Result, Ok, Err, inl, inr, ⊎_elim, refl, sym, subst, ◌∙◌, arith, append_assoc, length-append}
use Rattle.std.specs.Prelude.{OnOk, IfErr}
use Rattle.std.proofs.lemmas.Bool.{true≢false, cases_Bool}
use Rattle.std.proofs.lemmas.List.{append-nil, take-append-le}
use Rattle.sector_disk.specs.Disk.{DiskView, IsDisk}
use Rattle.sector_disk.specs.laws.Moments.{joined, started}
use Rattle.sector_disk.specs.declared.disk.Disk.{Ghosts}
use Rattle.retry_rules.specs.declared.settings.Settings.{Settings}
use Rattle.invoke_records.specs.declared.command.Command.{Command}
use Rattle.broker_core.specs.declared.broker.Broker.{Broker}
use Rattle.broker_core.specs.declared.batch.Batch.{Batch}
use Rattle.broker_core.specs.declared.batch.Written.{Written}
use Rattle.broker_core.specs.declared.batch.Failed.{Failed}
use Rattle.broker_core.specs.declared.error.WriteError.{WriteError}
use Rattle.broker_core.specs.declared.error.WriteError.TheVariants as write_error
use Rattle.broker_core.specs.History.{IsLegalStop}
use Rattle.broker_core.specs.Broker.{disk_of, settings_of, issued_of, pending_of, durable_of, is_broken, Stands}
use Rattle.broker_core.specs.IssuerBroker.{issuer_laws}
use Rattle.broker_core.specs.Refusals.{FaultsHaveRisen}
use Rattle.broker_core.specs.Batch.{cause_of, is_lasting}
use Rattle.broker_core.specs.Writing.{taken_from, IsWriteReason, IsRefusedAs, IsNotWritten, Writes}
use Rattle.hall_plans.specs.declared.error.HallError.{HallError}
use Rattle.broker_core.specs.Advancing.{Advances, HasNumbers, IsNotAdvancedAs}
use Rattle.receipts.specs.Serving.{WritesBatch, CommitsTo, GoesOnFrom, HasServed}
use Rattle.receipts.specs.Advancing.{AdvancesBatch, AdvancesTo}

-- ## Legal stops

-- a legal stop of a history is one of a longer history of which less is durable
stop_longer : (s : Settings) (history later : List Command) (least durable : ℕ) (image : List ℕ) → least ≤ durable → IsLegalStop s history durable image
    → IsLegalStop s (history ++ later) least image
stop_longer s history later least durable image fewer stop = record {
  size = stop.size;
  least = omega (arith, fewer, stop.least);
  most = omega (arith, stop.most, length-append history later);
  recovers = rw (take-append-le stop.size history later stop.most) stop.recovers;
}

-- and one of the same history
stop_fewer : (s : Settings) (history : List Command) (least durable : ℕ) (image : List ℕ) → least ≤ durable → IsLegalStop s history durable image
    → IsLegalStop s history least image
stop_fewer s history least durable image fewer stop = record {
  size = stop.size;
  least = omega (arith, fewer, stop.least);
  most = stop.most;
  recovers = stop.recovers;
}

-- no more is durable than was issued
durable_within : {D : Type 0} {g : Ghosts D} (view : D → DiskView) (broker : Broker D g) → durable_of broker ≤ issued_of broker
durable_within view broker =
    let counted : durable_of broker + length (pending_of broker) ≡ issued_of broker = (issuer_laws view broker).counted in
    omega arith

-- ## None

module _ {D : Type 0} {g : Ghosts D} (view : D → DiskView) (laws : (disk : D) → (view disk).honest → IsDisk (view disk)) (count : D → ℕ) (half : Broker D g) where
  still : (history : List Command) → Stands view half history → GoesOnFrom view half half history
  still history stands =
      let none : history ++ [] ≡ history = append-nil history in
      record {
        taken = [];
        stands = subst (Stands view half) (sym none) stands;
        any_moment = λ honest.
            (started view laws (disk_of half) (IsLegalStop (settings_of half) (history ++ []) (durable_of half)) honest
            (λ image left.
            subst (λ (h : List Command). IsLegalStop (settings_of half) h (durable_of half) image) (sym none) (stands.stops honest image left))).leaves;
      }

  -- before the first commit
  pub served_at_first : HasServed view count half half
  served_at_first = record {
    same = record { sectors = refl; honest = (λ is. is, λ is. is) };
    settings = refl;
    longer = omega arith;
    durable = omega arith;
    later = omega arith;
    fault = λ sound broken. absurd (true≢false (sym broken ∙ sound));
    each = still;
  }

-- ## One serving after another

module _ {D : Type 0} {g : Ghosts D} (view : D → DiskView) (count : D → ℕ) (a b c : Broker D g) (first : HasServed view count a b) (second : HasServed view count b c) where
  goes_on : (history : List Command) → Stands view a history → GoesOnFrom view a c history
  goes_on history stands =
      let one = first.each history stands in
      let two = second.each (history ++ one.taken) one.stands in
      let all : (history ++ one.taken) ++ two.taken ≡ history ++ (one.taken ++ two.taken) = append_assoc history one.taken two.taken in
      record {
        taken = one.taken ++ two.taken;
        stands = subst (Stands view c) all two.stands;
        any_moment = λ honest.
            joined (one.any_moment honest) (two.any_moment (first.same.honest.1 honest))
            (IsLegalStop (settings_of a) (history ++ (one.taken ++ two.taken)) (durable_of a))
            (λ image stop.
            subst (λ (h : List Command). IsLegalStop (settings_of a) h (durable_of a) image) all
            (stop_longer (settings_of a) (history ++ one.taken) two.taken (durable_of a) (durable_of a) image (omega arith) stop))
            (λ image stop.
            subst (λ (h : List Command). IsLegalStop (settings_of a) h (durable_of a) image) all
            (subst (λ (s : Settings). IsLegalStop s ((history ++ one.taken) ++ two.taken) (durable_of a) image) first.settings
            (stop_fewer (settings_of b) ((history ++ one.taken) ++ two.taken) (durable_of a) (durable_of b) image first.durable stop)));
      }

  risen : is_broken a ≡ false → is_broken c ≡ true → FaultsHaveRisen count a c
  risen sound broken below =
      let early = first.later in
      let late = second.later in
      ⊎_elim
      (λ (there : is_broken b ≡ true). let more = first.fault sound there (omega (arith, late, below)) in omega (arith, more, late))
      (λ (whole : is_broken b ≡ false). let more = second.fault whole broken below in omega (arith, more, early))
      (cases_Bool (is_broken b))

  -- two servings are one
  pub served_both : HasServed view count a c
  served_both = record {
    same = record {
      sectors = second.same.sectors ∙ first.same.sectors;
      honest = (λ is. first.same.honest.0 (second.same.honest.0 is), λ is. second.same.honest.1 (first.same.honest.1 is));
    };
    settings = second.settings ∙ first.settings;
    longer = omega (arith, first.longer, second.longer);
    durable = omega (arith, first.durable, second.durable);
    later = omega (arith, first.later, second.later);
    fault = risen;
    each = goes_on;
  }

-- ## One commit

module _ {D : Type 0} {g : Ghosts D} (view : D → DiskView) (count : D → ℕ) (old new : Broker D g) (batch : Batch) where
  kept : (outcome : Result Written Failed) → OnOk outcome (Writes batch new) → IfErr outcome (λ failed. IsNotWritten old batch new (cause_of failed))
      → issued_of old ≤ issued_of new → durable_of old ≤ durable_of new
  kept (Ok written) done refused longer =
      let least = durable_within view old in omega (arith, done.issued, done.durable, longer, least)
  kept (Err failed) done refused longer = omega (arith, refused.durable)

  by_cause : (why : WriteError) → is_broken new ≡ is_lasting why → IsWriteReason old batch new why → (why ≡ write_error.Fault → FaultsHaveRisen count old new)
      → is_broken old ≡ false → is_broken new ≡ true → FaultsHaveRisen count old new
  by_cause write_error.Broken lasting reason fault sound broken = absurd (true≢false (sym reason ∙ sound))
  by_cause write_error.Mismatch lasting reason fault sound broken = absurd (true≢false (sym broken ∙ lasting))
  by_cause write_error.WornOut lasting reason fault sound broken = absurd (true≢false (sym broken ∙ lasting))
  by_cause write_error.Backlog lasting reason fault sound broken = absurd (true≢false (sym broken ∙ lasting))
  by_cause write_error.BadKind lasting reason fault sound broken = absurd (true≢false (sym broken ∙ lasting))
  by_cause write_error.OutOfMemory lasting reason fault sound broken = absurd (true≢false (sym broken ∙ lasting))
  by_cause write_error.Fault lasting reason fault sound broken = fault refl

  by_fault : (outcome : Result Written Failed) → OnOk outcome (Writes batch new) → IfErr outcome (λ failed. IsNotWritten old batch new (cause_of failed))
      → (IsRefusedAs outcome write_error.Fault → FaultsHaveRisen count old new) → is_broken old ≡ false → is_broken new ≡ true → FaultsHaveRisen count old new
  by_fault (Ok written) done refused fault sound broken = absurd (true≢false (sym broken ∙ done.whole))
  by_fault (Err failed) done refused fault sound broken = by_cause (cause_of failed) refused.broken refused.reason fault sound broken

  -- a commit that wrote a batch
  written_serves : (result : Result ℕ HallError) → WritesBatch view count old new batch result → HasServed view count old new
  written_serves result writes = record {
    same = writes.same;
    settings = writes.settings;
    longer = writes.longer;
    durable = kept writes.outcome writes.done writes.refused writes.longer;
    later = writes.later;
    fault = by_fault writes.outcome writes.done writes.refused writes.fault;
    each = λ history stands. record {
      taken = taken_from old new batch;
      stands = writes.stands history stands;
      any_moment = λ honest. writes.any_moment honest history stands;
    };
  }

-- ## One advance

module _ {D : Type 0} {g : Ghosts D} (view : D → DiskView) (count : D → ℕ) (old new : Broker D g) (batch : Batch) where
  kept_durable : (outcome : Result (Option Written) Failed) → HasNumbers old batch new outcome → IfErr outcome (λ failed. IsNotWritten old batch new (cause_of failed))
      → durable_of old ≤ durable_of new
  kept_durable (Ok None) numbers refused = omega (arith, numbers)
  kept_durable (Ok (Some written)) numbers refused = omega (arith, numbers.0)
  kept_durable (Err failed) numbers refused = omega (arith, refused.durable)

  by_advance_fault : (outcome : Result (Option Written) Failed) → OnOk outcome (Advances old batch new) → IfErr outcome (λ failed. IsNotWritten old batch new (cause_of failed))
      → (IsNotAdvancedAs outcome write_error.Fault → FaultsHaveRisen count old new) → is_broken old ≡ false → is_broken new ≡ true → FaultsHaveRisen count old new
  by_advance_fault (Ok written) done refused fault sound broken = absurd (true≢false (sym broken ∙ done.whole))
  by_advance_fault (Err failed) done refused fault sound broken = by_cause view count old new batch (cause_of failed) refused.broken refused.reason fault sound broken

  -- an advance that went on with a batch
  advanced_serves : (result : Result ℕ HallError) → AdvancesBatch view count old new batch result → HasServed view count old new
  advanced_serves result advances = record {
    same = advances.same;
    settings = advances.settings;
    longer = advances.longer;
    durable = kept_durable advances.outcome advances.numbers advances.refused;
    later = advances.later;
    fault = by_advance_fault advances.outcome advances.done advances.refused advances.fault;
    each = λ history stands. record {
      taken = taken_from old new batch;
      stands = advances.stands history stands;
      any_moment = λ honest. advances.any_moment honest history stands;
    };
  }

module _ {D : Type 0} {g : Ghosts D} (view : D → DiskView) (laws : (disk : D) → (view disk).honest → IsDisk (view disk)) (count : D → ℕ) where
  -- an advance is a serving
  pub served_by_advance : (old new : Broker D g) (result : Result ℕ HallError) → AdvancesTo view count old new result → HasServed view count old new
  served_by_advance old new result (inl same) = subst (λ (x : Broker D g). HasServed view count old x) (sym same) (served_at_first view laws count old)
  served_by_advance old new result (inr advances) = advanced_serves view count old new advances.0 result advances.1

  -- one more advance
  pub served_advanced : (old mid new : Broker D g) (result : Result ℕ HallError) → HasServed view count old mid → AdvancesTo view count mid new result
      → HasServed view count old new
  served_advanced old mid new result before advances = served_both view count old mid new before (served_by_advance mid new result advances)

  -- a commit is a serving
  pub served_by_one : (old new : Broker D g) (result : Result ℕ HallError) → CommitsTo view count old new result → HasServed view count old new
  served_by_one old new result (inl same) = subst (λ (x : Broker D g). HasServed view count old x) (sym same) (served_at_first view laws count old)
  served_by_one old new result (inr writes) = written_serves view count old new writes.0 result writes.1

  -- one more commit
  pub served_more : (old mid new : Broker D g) (result : Result ℕ HallError) → HasServed view count old mid → CommitsTo view count mid new result
      → HasServed view count old new
  served_more old mid new result before commits = served_both view count old mid new before (served_by_one mid new result commits)
