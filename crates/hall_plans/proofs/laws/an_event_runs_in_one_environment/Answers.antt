use Rattle.hall_plans.specs.laws.Keeping.{runs_in_one}
use Rattle.hall_plans.proofs.laws.an_event_runs_in_one_environment.Goals as goal

pub returns : goal.returns
returns c = λ s wanted h calls all a b id. runs_in_one s h calls all a b id
