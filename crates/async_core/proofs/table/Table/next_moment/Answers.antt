-- What the rows of the table say.
use Rattle.async_core.proofs.table.Table.next_moment.Goals as goal

pub returns : goal.returns
returns c = rw (← c.self.view_is) c.next_moment_in.ensures
