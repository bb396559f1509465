use Rattle.promises.specs.Promises.{issued}
use Rattle.promises.specs.laws.Oldest.{shown_first}
use Rattle.promises.proofs.laws.it_is_shown_to_who_asks_for_the_oldest.Goals as goal

pub returns : goal.returns
returns c = λ s t side e later was goes. shown_first s t.point (issued s t) later side e was.is_oldest goes
