-- Each one computes.
use Rattle.std.proofs.Common.{refl}
use Rattle.async_core.specs.Lives.{life}
use Rattle.async_core.specs.Checks.{refusal_in}
use Rattle.async_core.specs.Policies.{in_force, judged_by}
use Rattle.async_core.specs.History.{standing_in, refusal_of, held}
use Rattle.async_core.proofs.examples.policies.Goals as goal

pub returns : goal.returns
unfolding life refusal_in standing_in refusal_of held in_force judged_by
returns c = record {
  by_the_settings = refl;
  by_the_last = refl;
  legal = refl;
  too_many_retries = refl;
  too_short = refl;
  clock_back = refl;
  first_is_retried = refl;
  second_is_not = refl;
  first_is_young = refl;
  third_is_old = refl;
}
