use Rattle.broker_core.specs.IssuerBroker.{issuer_of}
use Rattle.hall_core.specs.Hall.{view_of}
use Rattle.broker_opening.proofs.Interrupting.{recovers_at_rest}
use Rattle.broker_opening.proofs.opening.open_to_serve.Goals as goal

pub returns-clause-rest : goal.returns-clause-rest
returns-clause-rest g c = λ honest s history durable legal stops.
    let hall = c.in_ok-hall.hall in
    recovers_at_rest g.D.Disk.view c.args.at.now.extensions s history durable c.in_ok-broker.broker hall.issuer (view_of (issuer_of g.D.Disk.view) hall)
    (c.in_ok-broker.ensures.stands honest s history durable legal stops) c.in_ok-hall.ensures.rest

pub returns-clause-switches : goal.returns-clause-switches
returns-clause-switches g c = λ takeover honest. record {
  recovered = c.in_ok-broker.broker;
  same = c.in_ok-broker.ensures.same;
  stands = c.in_ok-broker.ensures.stands honest;
  switched = c.in_ok-hall.ensures.switches takeover;
}
