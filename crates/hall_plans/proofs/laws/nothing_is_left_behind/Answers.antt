use Rattle.hall_plans.specs.laws.Sound.{unheld_before, unheld_since}
use Rattle.hall_plans.proofs.laws.nothing_is_left_behind.Goals as goal

pub returns : goal.returns
returns c = record {
  step = λ s past call made id. unheld_before s past call id made.0 made.1;
  run = λ s past run made id. unheld_since s past run id made.0 made.1;
}
