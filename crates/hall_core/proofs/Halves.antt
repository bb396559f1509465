-- Lemmas: a hall that moves from one issuer to another, or whose half settles, goes on with what was done.
use Rattle.std.proofs.Common.{◌≡◌, List, false, sym, ◌∙◌, inl, inr}
use Rattle.std.specs.Prelude.{Result, Ok, Err}
use Rattle.std.proofs.lemmas.Bool.{true≢false}
use Rattle.sector_disk.specs.declared.disk.Disk.{Ghosts}
use Rattle.invoke_records.specs.declared.command.Command.{Command}
use Rattle.broker_core.specs.declared.broker.Broker.{Broker}
use Rattle.broker_core.specs.declared.batch.Written.{Written}
use Rattle.broker_core.specs.declared.batch.Failed.{Failed}
use Rattle.broker_core.specs.declared.issue_half.IssueHalf.{IssueHalf}
use Rattle.broker_core.specs.declared.error.SettleError.{SettleError}
use Rattle.broker_core.specs.declared.error.SettleError.TheVariants as settle_error
use Rattle.broker_core.specs.Broker.{settings_of, table_in, is_broken}
use Rattle.broker_core.specs.IssuerHalf.{half_view}
use Rattle.broker_core.specs.Lending.{IsNotSettled}
use Rattle.broker_core.specs.Splitting.{Joins}
use Rattle.hall_plans.specs.Past.{Past}
use Rattle.hall_core.specs.Hall.{HallView, StandsFor}
use Rattle.hall_core.specs.Halves.{HasSameParts}

-- another issuer with the same table, which stands for the same history
pub moved : (old new : HallView) (past : Past) → StandsFor old past → new.issuer.settings ≡ old.issuer.settings → new.issuer.table ≡ old.issuer.table
    → new.issuer.stands past.history → HasSameParts old new → StandsFor new past
moved old new past stands settings table history parts = record {
  history = history;
  environments = rw (settings, table, parts.environments) stands.environments;
  waits = parts.wanted ∙ stands.waits;
  slots = rw (settings, parts.slots, parts.dialect) stands.slots;
  stopping = parts.stops ∙ stands.stopping;
}

-- what an issue half keeps that settled nothing
pub record Keeps (old new : IssueHalf) : Type 0 where
  pub settings : (half_view new).settings ≡ (half_view old).settings
  pub table : (half_view new).table ≡ (half_view old).table
  pub stands : (history : List Command) → (half_view old).stands history → (half_view new).stands history

pub keeps_unsettled : (old new : IssueHalf) (outcome : Result Written Failed) (why : SettleError) → IsNotSettled old new outcome why → Keeps old new
keeps_unsettled old new outcome settle_error.Mismatch refused = record {
  settings = refused.1.settings;
  table = refused.1.table;
  stands = λ history. (refused.1.stands history).1;
}
keeps_unsettled old new (Ok written) (settle_error.NotWritten why) refused = absurd refused
keeps_unsettled old new (Err failed) (settle_error.NotWritten why) refused = record {
  settings = refused.2.settings;
  table = refused.2.table;
  stands = λ history. (refused.2.stands history).1;
}

-- a broker that was joined and is not broken has the issue half's table
pub joined_whole : {D : Type 0} {g : Ghosts D} (issue : IssueHalf) (disk broker : Broker D g) → Joins issue disk broker → is_broken broker ≡ false
    → (settings_of broker ≡ (half_view issue).settings) × (table_in broker ≡ (half_view issue).table)
joined_whole issue disk broker (inl whole) sound = (whole.takes.settings ∙ whole.agree.settings, whole.table)
joined_whole issue disk broker (inr broken) sound = absurd (true≢false (sym broken.broken ∙ sound))
