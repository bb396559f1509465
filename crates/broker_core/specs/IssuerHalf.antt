-- An issue half as contracts see it, and as an issuer of commands.
use Rattle.std.specs.Prelude.{◌≡◌, ℕ, ◌≤◌, Option, List, length, drop}
use Rattle.std.proofs.Common.{refl, ap, ◌∙◌}
use Rattle.retry_rules.specs.declared.settings.Settings.{Settings}
use Rattle.invoke_records.specs.declared.snapshot.Snapshot.{Snapshot}
use Rattle.invoke_records.specs.declared.command.Command.{Command}
use Rattle.async_core.specs.History.{IsLegal, table_of}
use Rattle.async_core.specs.laws.Tables.{number-table_of}
use Rattle.broker_core.specs.declared.issue_half.IssueHalf.{IssueHalf}
use Rattle.broker_core.specs.Issuer.{IssuerView, IsIssuer, GoesOn}

-- A half with these settings, this table, these pending commands and this durable number stands for a legal history of
-- which the table is, and whose end behind the durable commands is pending.
pub record StandsInMemory (s : Settings) (table : Snapshot) (pending : List Command) (durable : ℕ) (history : List Command) : Type 0 where
  pub legal : IsLegal s history
  pub table_is : table ≡ table_of s history
  pub durable_is : durable ≤ length history
  pub pending_is : pending ≡ drop durable history

-- the half at a moment
abbrev pub half_view : IssueHalf → IssuerView
half_view half = record {
  settings = half.table.settings;
  table = half.table.table;
  pending = half.pending.items;
  durable = half.durable;
  broken = half.broken;
  stands = λ history. StandsInMemory half.table.settings half.table.table half.pending.items half.durable history;
}

-- a half is as an issuer has to be
pub half_laws : (half : IssueHalf) → IsIssuer (half_view half)
half_laws half = record {
  good = half.good;
  counted = half.counted;
  most_issued = half.below;
  most_pending = half.few;
  each = λ history stands. record {
    legal = stands.legal;
    table_is = stands.table_is;
    issued_is = ap (λ (t : Snapshot). t.number) stands.table_is ∙ number-table_of half.table.settings history;
    durable_is = stands.durable_is;
    pending_is = stands.pending_is;
  };
}

-- the last number that is out, if one is
abbrev pub lent_of : IssueHalf → Option ℕ
lent_of half = half.lent

-- the same is out, or nothing
abbrev pub has_same_lent : IssueHalf → IssueHalf → Type 0
has_same_lent old new = lent_of new ≡ lent_of old

pub same_lent_goes_on : GoesOn has_same_lent
same_lent_goes_on = record { at_first = λ a. refl; on = λ a b c first second. second ∙ first }
