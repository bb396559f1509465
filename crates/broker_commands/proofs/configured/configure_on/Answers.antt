-- What is told is the policy that was wanted, and each image of the disk holds the command.
use Rattle.std.proofs.Common.{sym, ◌∙◌, subst, take}
use Rattle.broker_core.specs.Broker.{table_in, issued_of}
use Rattle.broker_commands.specs.Configuring.{HoldsConfigured}
use Rattle.broker_commands.proofs.BroughtInForce.{asked, held}
use Rattle.broker_commands.proofs.configured.configure_on.Goals as goal

pub returns-clause-asked : goal.returns-clause-asked
returns-clause-asked g c = asked c.args.new.now (table_in c.in_ok-broker.broker).policy c.in_ok-told.told c.in_ok-told.ensures.told

pub returns-clause-configured : goal.returns-clause-configured
returns-clause-configured g c honest s history durable legal stops =
    let facts = c.in_ok-broker.ensures.stands honest s history durable legal stops in
    let size = issued_of c.in_ok-broker.broker in
    subst (λ (d : _). HoldsConfigured s history durable c.args.new.now c.args.now (g.D.Disk.view d)) (sym c.close.ensures.disk)
    (held g.D.Disk.view c.bring_in_force.new.broker s history durable size c.args.new.now c.args.now (c.bring_in_force.ensures.same.honest.1 (c.in_ok-broker.ensures.same.honest.1 honest)) facts.0 facts.1
    (c.bring_in_force.ensures.settings ∙ facts.2) c.in_ok-told.ensures.durable (c.in_ok-told.ensures.configured (take size history) facts.3))
