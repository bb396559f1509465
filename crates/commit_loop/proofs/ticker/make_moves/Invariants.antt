use Rattle.std.proofs.Common.{◌≡◌, ℕ, true, nat_lt}
use Rattle.std.proofs.Math.ListN.{replicate}
use Rattle.commit_loop.specs.Ticker.{ticked}
use Rattle.commit_loop.proofs.ticker.make_moves.Given as goal

abbrev pub invariant-loop : goal.invariant-loop
invariant-loop g l = (made : ℕ) × (l.any ≡ nat_lt 0 made) × g.T.Ticking.leads l.fn.ticker (replicate made (ticked true)) l.ticker
