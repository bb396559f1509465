-- A hall over an issue half: how it comes from a hall over a broker, and how it tells why it lends or settles nothing.
use Rattle.std.specs.Prelude.{◌≡◌, Bool, false, Result}
use Rattle.broker_core.specs.declared.batch.Written.{Written}
use Rattle.broker_core.specs.declared.batch.Failed.{Failed}
use Rattle.broker_core.specs.declared.issue_half.IssueHalf.{IssueHalf}
use Rattle.broker_core.specs.declared.error.LendError.{LendError}
use Rattle.broker_core.specs.declared.error.LendError.TheVariants as lend_error
use Rattle.broker_core.specs.declared.error.WriteError.{WriteError}
use Rattle.broker_core.specs.declared.error.WriteError.TheVariants as write_error
use Rattle.broker_core.specs.declared.error.SettleError.{SettleError}
use Rattle.broker_core.specs.declared.error.SettleError.TheVariants as settle_error
use Rattle.broker_core.specs.Batch.{is_lasting}
use Rattle.broker_core.specs.Lending.{IsLendReason, IsNotSettled}
use Rattle.broker_core.specs.LendingMore.{IsNoMoreReason, IsFrontNotSettled}
use Rattle.hall_plans.specs.declared.error.HallError.{HallError}
use Rattle.hall_plans.specs.declared.error.HallError.TheVariants as error
use Rattle.hall_core.specs.OpenSlots.{KeepFor}
use Rattle.hall_core.specs.Hall.{HallView, ForEachPast, words_in}

-- two halls with the same environments, slots and dialect, which wait for as many extensions, and of which both or none was
-- asked to stop
pub record HasSameParts (old new : HallView) : Type 0 where
  pub environments : new.environments ≡ old.environments
  pub wanted : new.wanted ≡ old.wanted
  pub slots : new.slots ≡ old.slots
  pub dialect : new.dialect ≡ old.dialect
  pub stops : new.stops ≡ old.stops

-- whatever was done before, its slots are kept as they stand by it
abbrev pub KeepsSlotsOf : HallView → HallView → Type 0
KeepsSlotsOf old new = ForEachPast old (λ past. KeepFor (words_in old) new.slots past.slots)

-- ## Refusals

abbrev pub lend_error_of : LendError → HallError
lend_error_of lend_error.Broken = error.Broken
lend_error_of lend_error.Lent = error.Lent
lend_error_of lend_error.OutOfMemory = error.OutOfMemory

abbrev pub write_error_of : WriteError → HallError
write_error_of write_error.Broken = error.Broken
write_error_of write_error.Mismatch = error.OtherHalf
write_error_of write_error.WornOut = error.WornOut
write_error_of write_error.Backlog = error.Backlog
write_error_of write_error.BadKind = error.BadKind
write_error_of write_error.OutOfMemory = error.OutOfMemory
write_error_of write_error.Fault = error.Fault

abbrev pub settle_error_of : SettleError → HallError
settle_error_of settle_error.Mismatch = error.OtherHalf
settle_error_of (settle_error.NotWritten why) = write_error_of why

-- the issue half is broken by what is settled
abbrev pub breaks : SettleError → Bool
breaks settle_error.Mismatch = false
breaks (settle_error.NotWritten why) = is_lasting why

-- nothing was lent, and the half has a reason for what is told
abbrev pub IsNotLent : IssueHalf → HallError → Type 0
IsNotLent half told = (why : LendError) × (told ≡ lend_error_of why) × IsLendReason half why

-- the half refused what was settled, or answered why the batch was not written, as it is told
abbrev pub IsNotDurable : IssueHalf → IssueHalf → Result Written Failed → HallError → Type 0
IsNotDurable old new outcome told = (why : SettleError) × (told ≡ settle_error_of why) × IsNotSettled old new outcome why

-- nothing was lent beside what is out, and the half has a reason for what is told
abbrev pub IsNoMoreLent : IssueHalf → HallError → Type 0
IsNoMoreLent half told = (why : LendError) × (told ≡ lend_error_of why) × IsNoMoreReason half why

-- the half refused to settle that these were written, as it is told
abbrev pub IsFrontNotDurable : IssueHalf → IssueHalf → Written → HallError → Type 0
IsFrontNotDurable old new written told = (why : SettleError) × (told ≡ settle_error_of why) × IsFrontNotSettled old new written why
