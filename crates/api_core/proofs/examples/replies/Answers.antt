-- Each one computes.
use Rattle.std.proofs.Common.{refl}
use Rattle.destination_json.specs.Stamp.{stamp_text, year_of, month_of, day_of_month}
use Rattle.destination_json.specs.Record.{record_text, id_text}
use Rattle.std.specs.Fmt.{digits}
use Rattle.uuid.proofs.OnLiterals.{uuid_on_literals}
use Rattle.api_core.proofs.examples.replies.Goals as goal

pub returns : goal.returns
unfolding stamp_text year_of month_of day_of_month record_text id_text digits uuid_on_literals
returns c = record {
  accepted = refl;
  oldest = refl;
  no_record = refl;
  deleted = refl;
  taken = refl;
  registered = refl;
  next = refl;
  invoke = refl;
  spindown = refl;
  timeout = refl;
  failure = refl;
}
