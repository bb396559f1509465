-- Each one computes.
use Rattle.std.proofs.Common.{refl}
use Rattle.destination_json.specs.Stamp.{stamp_text, year_of, month_of, day_of_month}
use Rattle.destination_json.specs.Json.{is_json}
use Rattle.destination_json.specs.Record.{answer_json, record_text, id_text}
use Rattle.std.specs.Fmt.{digits}
use Rattle.std.specs.Str.{is_utf8, chars}
use Rattle.std.specs.Str.Lossy.{utf8_lossy, utf8_valid_len, utf8_error_len}
use Rattle.uuid.proofs.OnLiterals.{uuid_on_literals}
use Rattle.serde_json.proofs.OnLiterals.{serde_json_on_literals}
use Rattle.operator_view.specs.EventText.{members_text, beginning, detail_text}
use Rattle.operator_view.proofs.examples.texts.Goals as goal

pub returns : goal.returns
unfolding members_text beginning detail_text stamp_text year_of month_of day_of_month is_json answer_json record_text id_text digits is_utf8 chars utf8_lossy utf8_valid_len utf8_error_len uuid_on_literals serde_json_on_literals
returns c = record {
  running = refl;
  page = refl;
  page_is_json = refl;
  empty = refl;
  grown_old = refl;
  grown_old_is_json = refl;
  no_record = refl;
  no_stamp = refl;
  cut = refl;
  whole = refl;
}
