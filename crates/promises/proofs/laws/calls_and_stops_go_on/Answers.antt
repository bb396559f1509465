use Rattle.promises.specs.laws.Histories.{goes_on_longer}
use Rattle.promises.specs.laws.Promised.{issued_goes_on}
use Rattle.promises.specs.laws.Disks.{legal_stop_leaves}
use Rattle.promises.proofs.laws.calls_and_stops_go_on.Goals as goal

pub returns : goal.returns
returns c = record {
  at_first = issued_goes_on;
  issued = goes_on_longer;
  stopped = legal_stop_leaves;
}
