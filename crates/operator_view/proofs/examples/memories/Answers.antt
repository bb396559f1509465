-- Each one computes.
use Rattle.std.proofs.Common.{refl}
use Rattle.operator_view.proofs.examples.memories.Goals as goal

pub returns : goal.returns
returns c = record {
  young = refl;
  old = refl;
  kept = refl;
  replaced = refl;
  recent = refl;
  stale = refl;
  quiet = refl;
  ended = refl;
}
