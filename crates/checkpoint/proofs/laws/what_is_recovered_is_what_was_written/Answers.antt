use Rattle.checkpoint.proofs.Held.{recovered_as_written}
use Rattle.checkpoint.proofs.laws.what_is_recovered_is_what_was_written.Goals as goal

pub returns : goal.returns
returns c generation settings snapshot base other image holds = recovered_as_written generation settings snapshot base other image holds
