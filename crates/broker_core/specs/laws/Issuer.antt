-- What an issuer refuses as illegal, by each history that it stands for.
use Rattle.std.specs.Prelude.{◌≡◌, List}
use Rattle.std.proofs.Common.{ap, ◌∙◌}
use Rattle.invoke_records.specs.declared.snapshot.Snapshot.{Snapshot}
use Rattle.invoke_records.specs.declared.command.Command.{Command}
use Rattle.async_core.specs.Rules.{refusal_at}
use Rattle.async_core.specs.History.{refusal_of}
use Rattle.async_core.specs.laws.Tables.{refusal-of_table}
use Rattle.broker_core.specs.Issuer.{IssuerView, IsIssuer}

-- its table refuses just what is not legal after the history
pub refusal_is : (issuer : IssuerView) → IsIssuer issuer → (history : List Command) → issuer.stands history → (command : Command)
    → refusal_at issuer.settings issuer.table command ≡ refusal_of issuer.settings history command
refusal_is issuer is history stands command =
    let whole = is.each history stands in
    ap (λ (t : Snapshot). refusal_at issuer.settings t command) whole.table_is ∙ refusal-of_table issuer.settings history command is.good.check whole.legal
