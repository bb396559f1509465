-- The test decides whether two snapshots are equal.
use Rattle.std.proofs.lemmas.Bool.Decides.{Decides-at}
use Rattle.async_core.specs.laws.Equality.{same_snapshot-Decides}
use Rattle.async_core.proofs.equality.TablePartialEq.eq.Goals as goal

pub returns-clause-exact : goal.returns-clause-exact
returns-clause-exact c = Decides-at _ _ c.tests_same_snapshot.ensures (same_snapshot-Decides c.args.self.now c.args.other.now)
