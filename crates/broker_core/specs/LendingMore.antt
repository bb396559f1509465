-- What an issue half lends beside what is out, and what it settles of that.
use Rattle.std.specs.Prelude.{◌≡◌, ◌⊎◌, ℕ, ◌+◌, ◌-◌, ◌<◌, ◌≤◌, true, false, List, [], length, drop, Option, Some, None}
use Rattle.invoke_records.specs.declared.command.Command.{Command}
use Rattle.broker_core.specs.declared.issue_half.IssueHalf.{IssueHalf}
use Rattle.broker_core.specs.declared.batch.Batch.{Batch}
use Rattle.broker_core.specs.declared.batch.Written.{Written}
use Rattle.broker_core.specs.declared.error.LendError.{LendError}
use Rattle.broker_core.specs.declared.error.LendError.TheVariants as lend_error
use Rattle.broker_core.specs.declared.error.SettleError.{SettleError}
use Rattle.broker_core.specs.declared.error.SettleError.TheVariants as settle_error
use Rattle.broker_core.specs.Issuer.{issued_in}
use Rattle.broker_core.specs.IssuerHalf.{half_view, lent_of}
use Rattle.broker_core.specs.Lending.{IsSameHalf}
use Rattle.broker_core.specs.Batch.{first_of, last_of, commands_of, first_written, last_written}

-- ## Lending

-- the last number that is out, or else the last durable one
abbrev pub last_out : Option ℕ → ℕ → ℕ
last_out None durable = durable
last_out (Some last) durable = last

-- up to which number a half has lent what it issued
abbrev pub lent_to : IssueHalf → ℕ
lent_to half = last_out (lent_of half) (half_view half).durable

-- this batch is all that is pending and not lent, with its numbers
pub record IsRest (half : IssueHalf) (batch : Batch) : Type 0 where
  pub commands : commands_of batch ≡ drop (lent_to half - (half_view half).durable) (half_view half).pending
  pub first : first_of batch ≡ lent_to half + 1
  pub last : last_of batch ≡ issued_in (half_view half)

-- nothing is lent where all is durable; else all that is pending and not lent, which may be nothing, is out with what was
abbrev pub LendsMore : IssueHalf → IssueHalf → Option Batch → Type 0
LendsMore old new None = ((half_view old).pending ≡ []) × (lent_of new ≡ None)
LendsMore old new (Some batch) = (1 ≤ length (half_view old).pending) × IsRest old batch × (lent_of new ≡ Some (last_of batch))

-- why nothing was lent
abbrev pub IsNoMoreReason : IssueHalf → LendError → Type 0
IsNoMoreReason half lend_error.Broken = (half_view half).broken ≡ true
IsNoMoreReason half lend_error.Lent = ⊥
IsNoMoreReason half lend_error.OutOfMemory = ((half_view half).broken ≡ false) × (1 ≤ length (half_view half).pending)

-- ## Settling

-- commands with these numbers are the first that are out
pub record AreFirstOut (half : IssueHalf) (first last : ℕ) : Type 0 where
  pub first_is : first ≡ (half_view half).durable + 1
  pub least : first ≤ last
  pub out : ℕ
  pub out_is : lent_of half ≡ Some out
  pub most : last ≤ out

-- what is out behind this number, of what was out up to another
abbrev pub IsStillOut : ℕ → ℕ → Option ℕ → Type 0
IsStillOut last out left = ((last ≡ out) × (left ≡ None)) ⊎ ((last < out) × (left ≡ Some out))

-- the first that were out are durable up to this number, and what else was pending still is
pub record SettlesFirst (old new : IssueHalf) (last out durable : ℕ) : Type 0 where
  pub settings : (half_view new).settings ≡ (half_view old).settings
  pub table : (half_view new).table ≡ (half_view old).table
  pub pending : (half_view new).pending ≡ drop (last - (half_view old).durable) (half_view old).pending
  pub durable_is : (half_view new).durable ≡ last
  pub whole : (half_view new).broken ≡ false
  pub sound : (half_view old).broken ≡ false
  pub left : IsStillOut last out (lent_of new)
  pub later : (half_view old).durable ≤ last
  pub most : last ≤ issued_in (half_view old)
  pub stands : (history : List Command) → (half_view old).stands history → (half_view new).stands history
  pub number : durable ≡ last

-- what a settlement that answers so many durable commands did
abbrev pub SettlesFront : IssueHalf → IssueHalf → Written → ℕ → Type 0
SettlesFront old new written durable =
    (first : AreFirstOut old (first_written written) (last_written written)) × SettlesFirst old new (last_written written) first.out durable

-- what a settlement that is refused did: those are not the first that are out
abbrev pub IsFrontNotSettled : IssueHalf → IssueHalf → Written → SettleError → Type 0
IsFrontNotSettled old new written settle_error.Mismatch = (AreFirstOut old (first_written written) (last_written written) → ⊥) × IsSameHalf old new
IsFrontNotSettled old new written (settle_error.NotWritten why) = ⊥
