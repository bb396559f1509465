use Rattle.hall_plans.specs.laws.Replies.{replies_stay}
use Rattle.hall_plans.proofs.laws.replies.Goals as goal

pub returns : goal.returns
returns c = λ s past call slot unasked reply. replies_stay s past call slot reply unasked
