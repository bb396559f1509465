-- Each one computes.
use Rattle.std.proofs.Common.{refl}
use Rattle.operator_view.proofs.examples.records.Goals as goal

pub returns : goal.returns
returns c = record {
  all = refl;
  success = refl;
  behind = refl;
  rest = refl;
  elsewhere = refl;
  not_ended = refl;
  collected = refl;
}
