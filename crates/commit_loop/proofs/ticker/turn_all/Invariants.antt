use Rattle.commit_loop.proofs.TickerTurns.{HaveTurned}
use Rattle.commit_loop.proofs.ticker.turn_all.Given as goal

abbrev pub invariant-loop : goal.invariant-loop
invariant-loop g l = HaveTurned g.T.Ticking.leads (g.G.Gate.says l.gate) l.fn.ticker l.ticker
