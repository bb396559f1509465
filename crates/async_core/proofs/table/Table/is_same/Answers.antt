-- The test decides whether two tables are the same.
use Rattle.std.proofs.lemmas.Bool.Decides.{Decides-at}
use Rattle.async_core.specs.laws.Equality.{same_state-Decides}
use Rattle.async_core.proofs.table.Table.is_same.Goals as goal

pub returns : goal.returns
returns c = Decides-at _ _ c.tests_same.ensures (same_state-Decides c.args.self.now c.args.other.now)
