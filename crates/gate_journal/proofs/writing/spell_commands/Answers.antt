use Rattle.std.proofs.Common.{◌≡◌, ◌+◌, ◌++◌, ◌∙◌, ap, List, ℕ, refl, sym, subst, [], ◌∷◌, append_assoc}
use Rattle.std.proofs.lemmas.List.{take_all, take_more}
use Rattle.std.proofs.lemmas.List.Elements.{All-push}
use Rattle.std.specs.Prelude.{All}
use Rattle.std.proofs.Common.{take}
use Rattle.invoke_records.specs.declared.command.Command.{Command}
use Rattle.invoke_records.specs.Spelling.{IsCommand, command_text, commands_text}
use Rattle.gate_journal.proofs.Written.{commands_text-more}
use Rattle.gate_journal.proofs.writing.spell_commands.Goals as goal

pub loop-command-preserved : goal.loop-command-preserved
loop-command-preserved c =
    let xs = c.args.commands.now in
    let i = c.loop-command.command-index in
    let x = c.command-item.result in
    let was = c.loop-command.invariant in
    let good = c.in_default.ensures in
    record {
      text = good.ok ∙ ap (λ (l : List ℕ). l ++ command_text x) was.text ∙ append_assoc c.args.out.now.items (commands_text (take i xs)) (command_text x)
          ∙ ap (λ (l : List ℕ). c.args.out.now.items ++ l) (sym (commands_text-more xs i x c.loop-command-test.true c.command-item.is));
      spelled =
          let more : take (i + 1) xs ≡ take i xs ++ x ∷ [] = take_more xs i x c.loop-command-test.true ∙ ap (λ (y : Command). take i xs ++ y ∷ []) (sym c.command-item.is) in
          subst (λ (l : List Command). All IsCommand l) (sym more) (All-push IsCommand (take i xs) x was.spelled good.spelled);
    }

pub returns-in-Err-clause-text : goal.returns-in-Err-clause-text
returns-in-Err-clause-text c = tt

pub returns-in-Err-clause-spelled : goal.returns-in-Err-clause-spelled
returns-in-Err-clause-spelled c = tt

pub returns-in-Err-clause-memory : goal.returns-in-Err-clause-memory
returns-in-Err-clause-memory c = refl

pub returns-clause-memory : goal.returns-clause-memory
returns-clause-memory c = tt

pub returns-clause-text : goal.returns-clause-text
returns-clause-text c =
    c.loop-command.invariant.text
    ∙ ap (λ (l : List Command). c.args.out.now.items ++ commands_text l) (take_all c.loop-command.command-index c.args.commands.now c.loop-command-test.false)

pub returns-clause-spelled : goal.returns-clause-spelled
returns-clause-spelled c =
    subst (λ (l : List Command). All IsCommand l) (take_all c.loop-command.command-index c.args.commands.now c.loop-command-test.false) c.loop-command.invariant.spelled
