use Rattle.std.proofs.Common.{◌++◌, ◌∷◌, [], List, take, sym, ap, ◌∙◌}
use Rattle.std.proofs.lemmas.List.{take_more, take_all}
use Rattle.invoke_records.specs.declared.command.Command.{Command}
use Rattle.broker_core.proofs.copying.copy_commands.Goals as goal

pub loop-command-preserved : goal.loop-command-preserved
loop-command-preserved c =
    let commands = c.args.commands.now in
    let i = c.loop-command.command-index in
    c.in_ok-push.ensures.items
    ∙ ap (λ (l : List Command). l ++ c.in_ok-copy.copy ∷ []) c.loop-command.invariant
    ∙ ap (λ (x : Command). take i commands ++ x ∷ []) (c.in_ok-copy.ensures ∙ c.command-item.is)
    ∙ sym (take_more commands i c.command-item.result c.loop-command-test.true)

pub returns : goal.returns
returns c = c.loop-command.invariant ∙ take_all c.loop-command.command-index c.args.commands.now c.loop-command-test.false
