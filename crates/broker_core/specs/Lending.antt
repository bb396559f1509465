-- What an issue half lends, and what it settles.
use Rattle.std.specs.Prelude.{◌≡◌, ◌↔◌, ℕ, ◌+◌, ◌-◌, ◌≤◌, true, false, List, [], length, drop, Option, Some, None, IsSome, Result, Ok, Err}
use Rattle.invoke_records.specs.declared.command.Command.{Command}
use Rattle.broker_core.specs.declared.issue_half.IssueHalf.{IssueHalf}
use Rattle.broker_core.specs.declared.batch.Batch.{Batch}
use Rattle.broker_core.specs.declared.batch.Written.{Written}
use Rattle.broker_core.specs.declared.batch.Failed.{Failed}
use Rattle.broker_core.specs.declared.error.WriteError.{WriteError}
use Rattle.broker_core.specs.declared.error.LendError.{LendError}
use Rattle.broker_core.specs.declared.error.LendError.TheVariants as lend_error
use Rattle.broker_core.specs.declared.error.SettleError.{SettleError}
use Rattle.broker_core.specs.declared.error.SettleError.TheVariants as settle_error
use Rattle.broker_core.specs.Issuer.{issued_in}
use Rattle.broker_core.specs.IssuerHalf.{half_view, lent_of}
use Rattle.broker_core.specs.Batch.{first_of, last_of, commands_of, last_written, cause_of, first_in, last_in, is_lasting}

-- ## Lending

-- this batch is all that is pending, with its numbers
pub record IsAllPending (half : IssueHalf) (batch : Batch) : Type 0 where
  pub commands : commands_of batch ≡ (half_view half).pending
  pub first : first_of batch ≡ (half_view half).durable + 1
  pub last : last_of batch ≡ issued_in (half_view half)

-- what a half lends that is not broken and of which no batch is out: nothing where nothing is pending, else all that is
-- pending, which is then out
abbrev pub Lends : IssueHalf → IssueHalf → Option Batch → Type 0
Lends old new None = ((half_view old).pending ≡ []) × (lent_of new ≡ None)
Lends old new (Some batch) = (1 ≤ length (half_view old).pending) × IsAllPending old batch × (lent_of new ≡ Some (last_of batch))

-- a half that can lend
pub record CanLend (half : IssueHalf) : Type 0 where
  pub whole : (half_view half).broken ≡ false
  pub unlent : lent_of half ≡ None

-- why nothing was lent
abbrev pub IsLendReason : IssueHalf → LendError → Type 0
IsLendReason half lend_error.Broken = (half_view half).broken ≡ true
IsLendReason half lend_error.Lent = ((half_view half).broken ≡ false) × IsSome (lent_of half)
IsLendReason half lend_error.OutOfMemory = CanLend half × (1 ≤ length (half_view half).pending)

-- ## Settling

-- the batch that is out has these numbers
pub record IsOut (half : IssueHalf) (first last : ℕ) : Type 0 where
  pub first_is : first ≡ (half_view half).durable + 1
  pub last_is : lent_of half ≡ Some last

-- the batch that is out is durable, and what was issued since it was lent is pending
pub record Settles (old new : IssueHalf) (last durable : ℕ) : Type 0 where
  pub settings : (half_view new).settings ≡ (half_view old).settings
  pub table : (half_view new).table ≡ (half_view old).table
  pub pending : (half_view new).pending ≡ drop (last - (half_view old).durable) (half_view old).pending
  pub durable_is : (half_view new).durable ≡ last
  pub whole : (half_view new).broken ≡ false
  pub sound : (half_view old).broken ≡ false
  pub lent : lent_of new ≡ None
  pub later : (half_view old).durable ≤ last
  pub most : last ≤ issued_in (half_view old)
  pub stands : (history : List Command) → (half_view old).stands history → (half_view new).stands history
  pub number : durable ≡ last

-- what a settlement that answers so many durable commands did
abbrev pub SettlesBy : IssueHalf → IssueHalf → Result Written Failed → ℕ → Type 0
SettlesBy old new (Ok written) durable =
    IsOut old (first_in (Ok written)) (last_in (Ok written)) × Settles old new (last_written written) durable
SettlesBy old new (Err failed) durable = ⊥

-- the batch is no longer out, and all that was pending stays so; a device that failed breaks the half
pub record TakesBack (old new : IssueHalf) (why : WriteError) : Type 0 where
  pub settings : (half_view new).settings ≡ (half_view old).settings
  pub table : (half_view new).table ≡ (half_view old).table
  pub pending : (half_view new).pending ≡ (half_view old).pending
  pub durable : (half_view new).durable ≡ (half_view old).durable
  pub broken : (half_view new).broken ≡ is_lasting why
  pub sound : (half_view old).broken ≡ false
  pub lent : lent_of new ≡ None
  pub stands : (history : List Command) → (half_view new).stands history ↔ (half_view old).stands history

-- nothing has changed
pub record IsSameHalf (old new : IssueHalf) : Type 0 where
  pub settings : (half_view new).settings ≡ (half_view old).settings
  pub table : (half_view new).table ≡ (half_view old).table
  pub pending : (half_view new).pending ≡ (half_view old).pending
  pub durable : (half_view new).durable ≡ (half_view old).durable
  pub broken : (half_view new).broken ≡ (half_view old).broken
  pub lent : lent_of new ≡ lent_of old
  pub stands : (history : List Command) → (half_view new).stands history ↔ (half_view old).stands history

-- what a settlement that is refused did: the numbers are not those of the batch that is out, or the batch was not written
abbrev pub IsNotSettled : IssueHalf → IssueHalf → Result Written Failed → SettleError → Type 0
IsNotSettled old new outcome settle_error.Mismatch = (IsOut old (first_in outcome) (last_in outcome) → ⊥) × IsSameHalf old new
IsNotSettled old new (Err failed) (settle_error.NotWritten why) =
    IsOut old (first_in (Err failed)) (last_in (Err failed)) × (why ≡ cause_of failed) × TakesBack old new why
IsNotSettled old new (Ok written) (settle_error.NotWritten why) = ⊥
