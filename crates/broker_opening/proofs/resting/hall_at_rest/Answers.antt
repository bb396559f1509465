use Rattle.std.proofs.Common.{◌++◌, sym, subst}
use Rattle.broker_core.specs.IssuerBroker.{issuer_of}
use Rattle.broker_core.specs.Refusals.{HasSwitched}
use Rattle.hall_core.specs.Hall.{view_of}
use Rattle.broker_opening.proofs.Interrupting.{if_ok_both, opens_at_rest}
use Rattle.broker_opening.proofs.resting.hall_at_rest.Goals as goal

pub returns-clause-rest : goal.returns-clause-rest
returns-clause-rest g c = λ history stands.
    let rest = c.in_ok-bring_to_rest.ensures.rest history stands in
    if_ok_both _ _ _ c.hall_over.result
    (λ hall same opens. opens_at_rest g.D.Disk.view c.args.at.now.extensions history c.bring_to_rest.new.broker hall.issuer (view_of (issuer_of g.D.Disk.view) hall) rest same opens)
    c.hall_over.ensures.same
    (c.hall_over.ensures.stands (history ++ rest.interrupted.interrupts) rest.interrupted.stands)

pub returns-clause-switches : goal.returns-clause-switches
returns-clause-switches g c = λ takeover.
    if_ok_both _ _ _ c.hall_over.result
    (λ hall same also. subst (HasSwitched 1 c.args.broker) (sym same) (c.in_ok-bring_to_rest.ensures.switches takeover))
    c.hall_over.ensures.same c.hall_over.ensures.same
