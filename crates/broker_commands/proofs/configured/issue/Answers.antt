-- The command is that of the table, and so that of the history.
use Rattle.std.proofs.Common.{rules}
use Rattle.broker_commands.proofs.BroughtInForce.{configured, refused_at, in_force_behind}
use Rattle.broker_commands.proofs.configured.issue.Goals as goal

pub returns-in-Ok-clause-policy : goal.returns-in-Ok-clause-policy
returns-in-Ok-clause-policy g c =
    in_force_behind c.args.broker.now c.issue.new.self c.args.new.now c.args.now _ _ (search rules) c.in-Ok.ensures.ok

pub returns-in-Ok-clause-configured : goal.returns-in-Ok-clause-configured
returns-in-Ok-clause-configured g c = λ history stands.
    configured g.D.Disk.view c.args.broker.now c.issue.new.self c.args.new.now c.args.now history _ (search rules)
    c.in-Ok.ensures.ok.settings stands (c.in-Ok.ensures.stands history stands).2

pub returns-in-Err-clause-reason : goal.returns-in-Err-clause-reason
returns-in-Err-clause-reason g c = refused_at c.args.broker.now c.args.new.now c.args.now _ c.in-Err.why (search rules) c.in-Err.ensures.reason
