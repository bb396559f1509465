-- Each one computes.
use Rattle.std.proofs.Common.{refl}
use Rattle.operator_view.proofs.examples.events.Goals as goal

pub returns : goal.returns
returns c = record {
  waiting = refl;
  failure = refl;
  from = refl;
  behind = refl;
  collected = refl;
  rest = refl;
  last = refl;
  none = refl;
}
