-- Each one computes.
use Rattle.std.proofs.Common.{refl}
use Rattle.std.specs.Fmt.{digits}
use Rattle.uuid.proofs.OnLiterals.{uuid_on_literals}
use Rattle.destination_json.specs.Record.{id_text}
use Rattle.api_core.proofs.examples.unanswered.Goals as goal

pub returns : goal.returns
unfolding id_text digits uuid_on_literals
returns c = record {
  timed_out = refl;
  tried_then_old = refl;
  never_started = refl;
  answered = refl;
  in_profile = refl;
}
