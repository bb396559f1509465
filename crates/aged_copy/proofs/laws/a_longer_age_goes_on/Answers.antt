use Rattle.aged_copy.proofs.Histories.{aged_history}
use Rattle.aged_copy.proofs.laws.a_longer_age_goes_on.Goals as goal

-- src/laws.rt:10:1
pub returns : goal.returns
returns c s age history good fits legal = aged_history s good age fits history legal
