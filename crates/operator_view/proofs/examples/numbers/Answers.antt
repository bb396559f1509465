-- Each one computes.
use Rattle.std.proofs.Common.{refl}
use Rattle.operator_view.proofs.examples.numbers.Goals as goal

pub returns : goal.returns
returns c = record {
  tally = record {
    census = record {
      held = refl;
      waiting = refl;
      due_again = refl;
      running = refl;
      success = refl;
      retries_exhausted = refl;
      event_age_exceeded = refl;
    };
    oldest_waiting = refl;
    oldest_record = refl;
    first_due = refl;
    due = refl;
    expiring = refl;
    first_deadline = refl;
  };
  ends = refl;
}
