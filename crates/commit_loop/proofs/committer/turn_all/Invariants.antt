use Rattle.commit_loop.proofs.CommitterTurns.{HaveTurned}
use Rattle.commit_loop.proofs.committer.turn_all.Given as goal

abbrev pub invariant-loop : goal.invariant-loop
invariant-loop g l = HaveTurned g.C.Committing.leads (g.G.Gate.says l.gate) l.fn.committer l.committer
