-- What a half stands for that has no disk.
use Rattle.std.proofs.Common.{◌≡◌, ℕ, None, List, [], ◌∷◌, ◌++◌, sym, ap, subst, ◌∙◌, arith, length-append}
use Rattle.std.proofs.lemmas.List.{drop-append-le}
use Rattle.retry_rules.specs.declared.settings.Settings.{Settings}
use Rattle.invoke_records.specs.declared.snapshot.Snapshot.{Snapshot}
use Rattle.invoke_records.specs.declared.command.Command.{Command}
use Rattle.async_core.specs.Rules.{refusal_at, table_after}
use Rattle.async_core.specs.History.{refusal_of}
use Rattle.async_core.specs.laws.Tables.{refusal-of_table, table_of-more, IsLegal-more}
use Rattle.broker_core.specs.History.{AreGood}
use Rattle.broker_core.specs.IssuerHalf.{StandsInMemory}

-- why it refuses a command
pub refusal_in_memory : (s : Settings) (table : Snapshot) (pending : List Command) (durable : ℕ) (history : List Command) → AreGood s → StandsInMemory s table pending durable history
    → (command : Command) → refusal_at s table command ≡ refusal_of s history command
refusal_in_memory s table pending durable history good stands command =
    ap (λ (t : Snapshot). refusal_at s t command) stands.table_is ∙ refusal-of_table s history command good.check stands.legal

-- and what it stands for with one that it accepts
pub memory_more : (s : Settings) (table : Snapshot) (pending : List Command) (durable : ℕ) (history : List Command) → AreGood s → StandsInMemory s table pending durable history
    → (command : Command) → refusal_at s table command ≡ None
    → StandsInMemory s (table_after s table command) (pending ++ command ∷ []) durable (history ++ command ∷ [])
memory_more s table pending durable history good stands command accepted =
    let legal : refusal_of s history command ≡ None = sym (refusal_in_memory s table pending durable history good stands command) ∙ accepted in
    record {
      legal = IsLegal-more s history command stands.legal legal;
      table_is = ap (λ (t : Snapshot). table_after s t command) stands.table_is ∙ table_of-more s history command good.check stands.legal legal;
      durable_is = omega (arith, stands.durable_is, length-append history (command ∷ []));
      pending_is = ap (λ (l : List Command). l ++ command ∷ []) stands.pending_is ∙ sym (drop-append-le durable history (command ∷ []) stands.durable_is);
    }

-- the same facts of equal parts
pub memory_along : (s s' : Settings) (table table' : Snapshot) (pending pending' : List Command) (durable durable' : ℕ) (history : List Command)
    → s' ≡ s → table' ≡ table → pending' ≡ pending → durable' ≡ durable → StandsInMemory s table pending durable history → StandsInMemory s' table' pending' durable' history
memory_along s s' table table' pending pending' durable durable' history e1 e2 e3 e4 stands =
    subst (λ (x : Settings). StandsInMemory x table' pending' durable' history) (sym e1)
    (subst (λ (x : Snapshot). StandsInMemory s x pending' durable' history) (sym e2)
    (subst (λ (x : List Command). StandsInMemory s table x durable' history) (sym e3)
    (subst (λ (x : ℕ). StandsInMemory s table pending x history) (sym e4) stands)))
