use Rattle.promises.specs.laws.Promised.{shown, record_is_shown}
use Rattle.promises.proofs.laws.a_record_that_was_shown_is_shown_again.Goals as goal

pub returns : goal.returns
returns c = record { shown = shown; again = record_is_shown }
