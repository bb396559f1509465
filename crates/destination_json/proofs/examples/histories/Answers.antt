-- Each one computes.
use Rattle.std.proofs.Common.{refl}
use Rattle.async_core.specs.History.{standing_in}
use Rattle.async_core.specs.Lives.{life}
use Rattle.async_core.specs.Policies.{in_force, judged_by}
use Rattle.destination_json.specs.Stamp.{stamp_text, year_of, month_of, day_of_month}
use Rattle.destination_json.specs.Json.{is_json}
use Rattle.destination_json.specs.Record.{answer_json, record_text, id_text}
use Rattle.std.specs.Fmt.{digits}
use Rattle.std.specs.Str.{is_utf8, chars}
use Rattle.std.specs.Str.Lossy.{utf8_lossy, utf8_valid_len, utf8_error_len}
use Rattle.uuid.proofs.OnLiterals.{uuid_on_literals}
use Rattle.serde_json.proofs.OnLiterals.{serde_json_on_literals}
use Rattle.destination_json.proofs.examples.histories.Goals as goal

pub returns : goal.returns
unfolding standing_in life in_force judged_by stamp_text year_of month_of day_of_month is_json answer_json record_text id_text digits is_utf8 chars utf8_lossy utf8_valid_len utf8_error_len uuid_on_literals serde_json_on_literals
returns c = record {
  pushed_back = refl;
  still_running = refl;
  cut_off = refl;
  failed = refl;
  overdue = refl;
  failed_then_old = refl;
}
