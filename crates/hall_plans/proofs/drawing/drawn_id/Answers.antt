use Rattle.std.proofs.Common.{arith, ◌∙◌}
use Rattle.hall_plans.specs.Plans.{drawn_by}
use Rattle.hall_plans.proofs.Drawn.{two_words}
use Rattle.hall_plans.proofs.drawing.drawn_id.Goals as goal

pub returns : goal.returns
unfolding drawn_by
returns c = c.into_bytes.ensures ∙ c.from_u64_pair.ensures ∙ two_words _ _ (omega arith)
