use Rattle.promises.specs.laws.Promised.{prefix}
use Rattle.promises.proofs.laws.no_stop_takes_away_what_was_told.Goals as goal

pub returns : goal.returns
returns c = prefix
