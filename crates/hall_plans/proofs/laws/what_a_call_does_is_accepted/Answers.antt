use Rattle.hall_plans.specs.laws.Sound.{command_is_legal, call_is_accepted}
use Rattle.hall_plans.proofs.laws.what_a_call_does_is_accepted.Goals as goal

pub returns : goal.returns
returns c = record {
  command = λ s past call made c. command_is_legal s past call c made.0 made.1;
  environment = λ s past call made environment c. call_is_accepted s past call environment c made.0 made.1;
}
