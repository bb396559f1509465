-- The key comes.
use Rattle.std.proofs.Common.{sym}
use Rattle.async_core.proofs.KeySteps.{added}
use Rattle.async_core.proofs.keys.add_key.Goals as goal

pub returns-in_ok-insert-clause-ok : goal.returns-in_ok-insert-clause-ok
returns-in_ok-insert-clause-ok c = added c.args.place c.args.facts c.args.index c.in-Some.at (sym c.in-Some.ensures) c.args.keys.now c.insert.new.self (rw (← c.rank.ensures) c.in_ok-insert.ensures.updates)
