-- What settling a batch leaves as it was.
use Rattle.std.proofs.Common.{◌≡◌, ℕ, List, ap, sym, ◌∙◌}
use Rattle.std.specs.Prelude.{Result, Ok, Err, IfOk, IfErr}
use Rattle.hall_plans.specs.declared.error.HallError.{HallError}
use Rattle.hall_core.specs.Halves.{IsNotDurable}
use Rattle.retry_rules.specs.declared.settings.Settings.{Settings}
use Rattle.invoke_records.specs.declared.snapshot.Snapshot.{Snapshot}
use Rattle.broker_core.specs.declared.issue_half.IssueHalf.{IssueHalf}
use Rattle.broker_core.specs.declared.batch.Written.{Written}
use Rattle.broker_core.specs.declared.batch.Failed.{Failed}
use Rattle.broker_core.specs.declared.error.SettleError.{SettleError}
use Rattle.broker_core.specs.declared.error.SettleError.TheVariants.{Mismatch, NotWritten}
use Rattle.broker_core.specs.IssuerHalf.{half_view}
use Rattle.broker_core.specs.Batch.{last_in}
use Rattle.broker_core.specs.Lending.{SettlesBy, IsNotSettled}
use Rattle.receipts.specs.declared.mark.Mark.{Mark}
use Rattle.receipts.specs.Following.{bare, table_after_marks, Follows}

-- the settings and the table are the same
abbrev pub HasSameTable : IssueHalf → IssueHalf → Type 0
HasSameTable old new = ((half_view new).settings ≡ (half_view old).settings) × ((half_view new).table ≡ (half_view old).table)

module _ (old new : IssueHalf) where
  pub settled_same : (outcome : Result Written Failed) (durable : ℕ) → SettlesBy old new outcome durable → HasSameTable old new
  settled_same (Ok written) durable settles = (settles.1.settings, settles.1.table)
  settled_same (Err failed) durable settles = absurd settles

  -- what is answered is the number of the last command of the batch
  pub settled_number : (outcome : Result Written Failed) (durable : ℕ) → SettlesBy old new outcome durable → durable ≡ last_in outcome
  settled_number (Ok written) durable settles = settles.1.number
  settled_number (Err failed) durable settles = absurd settles

  pub unsettled_same : (outcome : Result Written Failed) (why : SettleError) → IsNotSettled old new outcome why → HasSameTable old new
  unsettled_same outcome Mismatch left = (left.1.settings, left.1.table)
  unsettled_same (Ok written) (NotWritten why) left = absurd left
  unsettled_same (Err failed) (NotWritten why) left = (left.2.settings, left.2.table)

-- a table that stays follows from the same marks
pub follows_still : (s s' : Settings) (opening old new : Snapshot) (marks : List Mark) → s' ≡ s → new ≡ old → Follows s opening marks old → Follows s' opening marks new
follows_still s s' opening old new marks settings table follows =
    ap bare table ∙ follows ∙ ap (λ x. bare (table_after_marks x opening marks)) (sym settings)

pub reached_still : (old new : Snapshot) (n : ℕ) → new ≡ old → old.number ≡ n → new.number ≡ n
reached_still old new n table reached = ap (λ (t : Snapshot). t.number) table ∙ reached

-- whatever is answered
module _ (old new : IssueHalf) (outcome : Result Written Failed) where
  pub settle_same : (result : Result ℕ HallError) → IfOk result (SettlesBy old new outcome) → IfErr result (IsNotDurable old new outcome) → HasSameTable old new
  settle_same (Ok durable) settles left = settled_same old new outcome durable settles
  settle_same (Err why) settles left = unsettled_same old new outcome left.0 left.2
