use Rattle.std.proofs.Common.{None}
use Rattle.commit_loop.proofs.CommitterTurns.{one_more}
use Rattle.commit_loop.proofs.committer.turn_all.Goals as goal

pub loop-preserved : goal.loop-preserved
loop-preserved g c = one_more g.C.Committing.leads (g.G.Gate.says c.args.gate.now) g.met.C.Committing.goes_on _ _ _ c.loop.invariant (c.in_default.ensures.turned (λ _. None))
