use Rattle.std.proofs.Common.{subst}
use Rattle.commit_loop.specs.declared.gate.Turn.{Turn}
use Rattle.commit_loop.proofs.CommitterTurns.{one_turn, end_of_turns}
use Rattle.commit_loop.proofs.committer.turn.Goals as goal

pub returns-then-act-clause-turned : goal.returns-then-act-clause-turned
returns-then-act-clause-turned g c = λ _.
    one_turn g.C.Committing.leads (g.G.Gate.says c.args.gate.now) g.met.C.Committing.goes_on c.args.committer.now c.pending-pending.new.self c.act.new.committer
    c.pending-pending.result.0 c.turn-said.result.0 c.turn-said.ensures.says c.pending-pending.ensures.steps c.if-act.ensures.turned

pub returns-clause-ended : goal.returns-clause-ended
returns-clause-ended g c =
    let P : Turn → Type 0 = λ said. g.G.Gate.leads_to c.turn-said.result.1 said in (
      end_of_turns g.C.Committing.leads (g.G.Gate.says c.args.gate.now) g.met.C.Committing.goes_on c.args.committer.now c.pending-pending.new.self c.act.new.committer
          c.pending-pending.result.0 c.turn-said.result.0 c.turn-said.ensures.says c.pending-pending.ensures.steps c.if-act.ensures.ended,
      subst P c.if-act.ensures.ended.0 c.turn-said.ensures.seen,
    )
