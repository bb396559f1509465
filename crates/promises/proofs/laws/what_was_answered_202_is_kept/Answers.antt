use Rattle.promises.specs.laws.Promised.{answered, event_is_kept}
use Rattle.promises.specs.laws.Disks.{leaves_event}
use Rattle.promises.proofs.laws.what_was_answered_202_is_kept.Goals as goal

pub returns : goal.returns
returns c = record {
  answered = answered;
  kept = event_is_kept;
  stopped = leaves_event;
}
