-- Why a desk's commit is refused, and how much can be pending.
use Rattle.std.proofs.Common.{inl, inr, ℕ, ◌≤◌, sym, subst, arith}
use Rattle.std.specs.Prelude.{Result}
use Rattle.broker_core.specs.declared.issue_half.IssueHalf.{IssueHalf}
use Rattle.broker_core.specs.declared.batch.Written.{Written}
use Rattle.broker_core.specs.declared.batch.Failed.{Failed}
use Rattle.broker_core.specs.declared.error.LendError.{LendError}
use Rattle.broker_core.specs.declared.error.LendError.TheVariants as lend_error
use Rattle.broker_core.specs.declared.error.WriteError.{WriteError}
use Rattle.broker_core.specs.declared.error.WriteError.TheVariants as write_error
use Rattle.broker_core.specs.declared.error.SettleError.{SettleError}
use Rattle.broker_core.specs.declared.error.SettleError.TheVariants as settle_error
use Rattle.broker_core.specs.IssuerHalf.{half_view, half_laws}
use Rattle.hall_plans.specs.declared.error.HallError.{HallError}
use Rattle.hall_plans.specs.declared.error.HallError.TheVariants as error
use Rattle.hall_plans.specs.Past.{HallCall, tick}
use Rattle.hall_core.specs.Hall.{HallView, pending_in, KeepsReason}
use Rattle.hall_core.specs.Halves.{lend_error_of, write_error_of, settle_error_of, IsNotLent, IsNotDurable}
use Rattle.receipts.specs.Answers.{IsMismatch, IsArrivalRefusal, IsTickRefusal, IsCommitRefusal}
use Rattle.receipts.specs.Locked.{IsNotLentTo}

-- at most so much is pending in a half
pub few_pending : (half : IssueHalf) → pending_in (half_view half) ≤ 256
few_pending half = let laws = half_laws half in omega (arith, laws.counted, laws.most_pending)

module _ (told : ℕ) where
  pub mismatch_refuses : (found : ℕ) (why : HallError) → IsMismatch told found why → IsCommitRefusal told why
  mismatch_refuses found (error.Mismatch before issued) is = (is.0, omega (arith, is.1, is.2))
  mismatch_refuses found error.Broken is = absurd is
  mismatch_refuses found error.Stopping is = absurd is
  mismatch_refuses found error.WornOut is = absurd is
  mismatch_refuses found error.Backlog is = absurd is
  mismatch_refuses found error.BadKind is = absurd is
  mismatch_refuses found error.NoHistory is = absurd is
  mismatch_refuses found error.OutOfMemory is = absurd is
  mismatch_refuses found error.Fault is = absurd is
  mismatch_refuses found error.Lent is = absurd is
  mismatch_refuses found error.OtherHalf is = absurd is
  mismatch_refuses found error.Unfit is = absurd is

  pub lend_refuses : (why : LendError) → IsCommitRefusal told (lend_error_of why)
  lend_refuses lend_error.Broken = tt
  lend_refuses lend_error.Lent = tt
  lend_refuses lend_error.OutOfMemory = tt

  pub write_refuses : (why : WriteError) → IsCommitRefusal told (write_error_of why)
  write_refuses write_error.Broken = tt
  write_refuses write_error.Mismatch = tt
  write_refuses write_error.WornOut = tt
  write_refuses write_error.Backlog = tt
  write_refuses write_error.BadKind = tt
  write_refuses write_error.OutOfMemory = tt
  write_refuses write_error.Fault = tt

  settle_refuses : (why : SettleError) → IsCommitRefusal told (settle_error_of why)
  settle_refuses settle_error.Mismatch = tt
  settle_refuses (settle_error.NotWritten why) = write_refuses why

  unlent_refuses : (half : IssueHalf) (why : HallError) → IsNotLent half why → IsCommitRefusal told why
  unlent_refuses half why left = subst (IsCommitRefusal told) (sym left.1) (lend_refuses left.0)

  -- where nothing was lent
  pub refused_lending : (half : IssueHalf) (why : HallError) → IsNotLentTo told half why → IsCommitRefusal told why
  refused_lending half why (inl is) = mismatch_refuses _ why is
  refused_lending half why (inr left) = unlent_refuses half why left.1

  -- where what was lent is not durable
  pub refused_settling : (old new : IssueHalf) (outcome : Result Written Failed) (why : HallError) → IsNotDurable old new outcome why
      → IsCommitRefusal told why
  refused_settling old new outcome why left = subst (IsCommitRefusal told) (sym left.1) (settle_refuses left.0)

  -- where a request is not made
  pub mismatched_arrival : (found : ℕ) (why : HallError) → IsMismatch told found why → IsArrivalRefusal told why
  mismatched_arrival found (error.Mismatch before issued) is = (is.0, omega (arith, is.1, is.2))
  mismatched_arrival found error.Broken is = absurd is
  mismatched_arrival found error.Stopping is = absurd is
  mismatched_arrival found error.WornOut is = absurd is
  mismatched_arrival found error.Backlog is = absurd is
  mismatched_arrival found error.BadKind is = absurd is
  mismatched_arrival found error.NoHistory is = absurd is
  mismatched_arrival found error.OutOfMemory is = absurd is
  mismatched_arrival found error.Fault is = absurd is
  mismatched_arrival found error.Lent is = absurd is
  mismatched_arrival found error.OtherHalf is = absurd is
  mismatched_arrival found error.Unfit is = absurd is

  pub refused_arrival : (hall : HallView) (call : HallCall) (why : HallError) → KeepsReason hall call why → IsArrivalRefusal told why
  refused_arrival hall call error.Broken is = tt
  refused_arrival hall call error.Stopping is = tt
  refused_arrival hall call error.WornOut is = tt
  refused_arrival hall call error.Backlog is = tt
  refused_arrival hall call error.BadKind is = absurd is
  refused_arrival hall call error.NoHistory is = tt
  refused_arrival hall call error.OutOfMemory is = tt
  refused_arrival hall call error.Fault is = absurd is
  refused_arrival hall call error.Lent is = absurd is
  refused_arrival hall call error.OtherHalf is = absurd is
  refused_arrival hall call error.Unfit is = absurd is
  refused_arrival hall call (error.Mismatch before found) is = absurd is

  -- where a move is not made
  pub mismatched_tick : (found : ℕ) (why : HallError) → IsMismatch told found why → IsTickRefusal told why
  mismatched_tick found (error.Mismatch before issued) is = (is.0, omega (arith, is.1, is.2))
  mismatched_tick found error.Broken is = absurd is
  mismatched_tick found error.Stopping is = absurd is
  mismatched_tick found error.WornOut is = absurd is
  mismatched_tick found error.Backlog is = absurd is
  mismatched_tick found error.BadKind is = absurd is
  mismatched_tick found error.NoHistory is = absurd is
  mismatched_tick found error.OutOfMemory is = absurd is
  mismatched_tick found error.Fault is = absurd is
  mismatched_tick found error.Lent is = absurd is
  mismatched_tick found error.OtherHalf is = absurd is
  mismatched_tick found error.Unfit is = absurd is

  pub refused_tick : (hall : HallView) (now : ℕ) (why : HallError) → KeepsReason hall (tick now) why → IsTickRefusal told why
  refused_tick hall now error.Broken is = tt
  refused_tick hall now error.Stopping is = absurd is.0
  refused_tick hall now error.WornOut is = tt
  refused_tick hall now error.Backlog is = tt
  refused_tick hall now error.BadKind is = absurd is
  refused_tick hall now error.NoHistory is = tt
  refused_tick hall now error.OutOfMemory is = tt
  refused_tick hall now error.Fault is = absurd is
  refused_tick hall now error.Lent is = absurd is
  refused_tick hall now error.OtherHalf is = absurd is
  refused_tick hall now error.Unfit is = absurd is
  refused_tick hall now (error.Mismatch before found) is = absurd is
