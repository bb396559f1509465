use Rattle.hall_plans.specs.laws.Sound.{step, kept_after, kept_at_opening, every_run_is_sound}
use Rattle.hall_plans.proofs.laws.every_run_is_sound.Goals as goal

pub returns : goal.returns
returns c = record {
  opened = kept_at_opening;
  step = λ s past call made. step s past call made.0 made.1;
  kept = λ s past run made. kept_after s past run made.0 made.1;
  sound = λ s wanted opened run made. every_run_is_sound s wanted opened run made.0 made.1;
}
