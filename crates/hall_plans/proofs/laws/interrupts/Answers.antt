use Rattle.hall_plans.specs.laws.Choosing.{first_unheld_is}
use Rattle.hall_plans.specs.laws.Interrupts.{none_unheld, runs_somewhere, ready_is_free_in, tick_interrupts}
use Rattle.hall_plans.specs.laws.Sound.{interrupt_is_for}
use Rattle.hall_plans.proofs.laws.interrupts.Goals as goal

pub returns : goal.returns
returns c = record {
  first = first_unheld_is;
  tick = λ s past now goes event is. tick_interrupts s past now event goes is;
  no_other = λ s past call made c. interrupt_is_for s past call c made.0 made.1;
  none = none_unheld;
  then_all_run = λ s past none id. runs_somewhere s past id none.0 none.1;
  then_free = λ s past none. ready_is_free_in s past none.0 none.1;
}
