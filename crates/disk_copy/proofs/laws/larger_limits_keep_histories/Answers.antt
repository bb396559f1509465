use Rattle.disk_copy.specs.laws.Histories.{IsLegal-kept, table_of-same}
use Rattle.disk_copy.proofs.laws.larger_limits_keep_histories.Goals as goal

pub returns : goal.returns
returns c = record {
  legal = λ old new history allows legal. IsLegal-kept old new allows history legal;
  table = λ old new history allows. table_of-same old new allows history;
}
