-- The id is taken back.
use Rattle.async_core.proofs.KeptRows.{forgets}
use Rattle.async_core.proofs.held.enter.Goals as goal

pub returns-in-Err-clause-err : goal.returns-in-Err-clause-err
returns-in-Err-clause-err c = (forgets _ _ _ c.args.id c.args.place c.in_ok-insert.ensures.updates c.remove.ensures.updates, c.in-Err.ensures.err)
