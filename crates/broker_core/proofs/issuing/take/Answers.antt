use Rattle.std.proofs.Common.{◌≡◌, ◌∷◌, [], ◌++◌, None, All, List, sym, ap, subst}
use Rattle.std.proofs.lemmas.List.Elements.{All-append, All-from_recursion}
use Rattle.invoke_records.specs.declared.command.Command.{Command}
use Rattle.invoke_records.specs.Spelling.{command_fault}
use Rattle.async_core.specs.laws.Tables.{legal_shape}
use Rattle.broker_core.proofs.issuing.take.Goals as goal

pub returns-in-Ok-clause-spelled : goal.returns-in-Ok-clause-spelled
returns-in-Ok-clause-spelled c good before =
    let command = c.args.command in
    let Spelled : Command → Type 0 = λ x. command_fault x ≡ None in
    let items : c.push_reserved.new.self.items ≡ c.args.pending.now.items ++ command ∷ [] =
    rw c.push_reserved.ensures.items (ap (λ (l : List Command). l ++ command ∷ []) c.reserve.ensures.items) in
    let one : All Spelled (command ∷ []) = All-from_recursion Spelled (command ∷ []) (legal_shape _ _ command c.in-Ok.ensures.legal good.check, tt) in
    subst (All Spelled) (sym items) (All-append Spelled c.args.pending.now.items (command ∷ []) before one)
