-- A row of the environment is found where one runs there.
use Rattle.std.proofs.Common.{◌∙◌}
use Rattle.async_core.proofs.Ranks.{busy}
use Rattle.async_core.proofs.situation.is_busy.Goals as goal

pub returns : goal.returns
returns c = c.is_some.ensures ∙ busy c.args.environment _ _ c.args.held.now _ c.from-2.ensures c.from.ensures c.first_in.ensures
