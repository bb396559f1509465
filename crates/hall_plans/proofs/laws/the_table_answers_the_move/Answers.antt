use Rattle.hall_plans.specs.laws.Moving.{next_move_is}
use Rattle.hall_plans.proofs.laws.the_table_answers_the_move.Goals as goal

pub returns : goal.returns
returns c = next_move_is
