use Rattle.std.proofs.Common.{rules, ◌≡◌, length, refl}
use Rattle.broker_core.specs.Broker.{settings_of}
use Rattle.broker_core.specs.IssuerBroker.{issuer_laws}
use Rattle.hall_core.proofs.Opened.{opened}
use Rattle.hall_core.proofs.over_broker.Hall+Broker+D.in_dialect.Goals as goal

pub returns-clause-stands : goal.returns-clause-stands
returns-clause-stands g c = λ history stands.
    let count : length c.in-Ok.environments ≡ (settings_of c.args.broker).environments = search rules in
    opened _ history (issuer_laws g.D.Disk.view c.args.broker) stands count c.in-Ok.ensures.hold c.new-2.ensures refl

pub returns-clause-fresh : goal.returns-clause-fresh
returns-clause-fresh g c =
    let count : length c.in-Ok.environments ≡ (settings_of c.args.broker).environments = search rules in
    record { count = count; hold = c.in-Ok.ensures.hold; slots = c.new-2.ensures; stops = refl }
