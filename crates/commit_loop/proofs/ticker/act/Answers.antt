use Rattle.std.proofs.Common.{Bool, [], ◌∷◌, ◌++◌, sym, subst, nat_lt}
use Rattle.commit_loop.specs.Ticker.{slept, moves, skips, steps_of_moves, steps_of_call}
use Rattle.commit_loop.proofs.ticker.act.Goals as goal

pub returns-in-Commit-clause-turned : goal.returns-in-Commit-clause-turned
returns-in-Commit-clause-turned g c =
    let goes_on = g.met.T.Ticking.goes_on in
    let made = c.make_moves-moved.ensures.0 in
    let P : Bool → Type 0 = λ b. g.T.Ticking.leads c.make_moves-moved.new.ticker (steps_of_call b ++ slept ∷ []) c.sleep.new.self in
    let rest = subst P c.make_moves-moved.ensures.1 (goes_on _ _ _ (steps_of_call c.make_moves-moved.result) (slept ∷ []) c.call.ensures c.sleep.ensures.steps) in
    (moves made, sym c.in-Commit.is, goes_on _ _ _ (steps_of_moves made) (steps_of_call (nat_lt 0 made) ++ slept ∷ []) c.make_moves-moved.ensures.2 rest)

pub returns-in-Skip-clause-turned : goal.returns-in-Skip-clause-turned
returns-in-Skip-clause-turned g c = (skips, sym c.in-Skip.is, c.sleep-in-Skip.ensures.steps)
