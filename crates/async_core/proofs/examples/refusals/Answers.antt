-- Each one computes.
use Rattle.std.proofs.Common.{refl}
use Rattle.async_core.specs.Lives.{life}
use Rattle.async_core.specs.Policies.{in_force, judged_by}
use Rattle.async_core.specs.Checks.{refusal_in}
use Rattle.async_core.specs.History.{standing_in, refusal_of, held}
use Rattle.async_core.proofs.examples.refusals.Goals as goal

pub returns : goal.returns
unfolding life refusal_in standing_in refusal_of held in_force judged_by
returns c = record {
  young = refl;
  old = refl;
  not_expired = refl;
  expired = refl;
  room = refl;
  full = refl;
  anew = refl;
  in_time = refl;
  late = refl;
}
