-- Each one computes.
use Rattle.std.proofs.Common.{refl}
use Rattle.destination_json.specs.Record.{id_text}
use Rattle.api_core.specs.Dialect.{account_of}
use Rattle.std.specs.Fmt.{digits}
use Rattle.uuid.proofs.OnLiterals.{uuid_on_literals}
use Rattle.destination_json.specs.Stamp.{stamp_text, year_of, month_of, day_of_month}
use Rattle.destination_json.specs.Json.{is_json}
use Rattle.destination_json.specs.Record.{answer_json, record_text}
use Rattle.std.specs.Str.{is_utf8, chars}
use Rattle.std.specs.Str.Lossy.{utf8_lossy, utf8_valid_len, utf8_error_len}
use Rattle.serde_json.proofs.OnLiterals.{serde_json_on_literals}
use Rattle.api_core.proofs.examples.replies_aws.Goals as goal

pub returns : goal.returns
unfolding stamp_text year_of month_of day_of_month is_json answer_json record_text account_of id_text digits is_utf8 chars utf8_lossy utf8_valid_len utf8_error_len uuid_on_literals serde_json_on_literals
returns c = record {
  account = refl;
  no_account = refl;
  account_in_profile = refl;
  spindown = refl;
  timeout = refl;
  failure = refl;
  accepted_async = refl;
  oldest = refl;
  deleted = refl;
  not_ended = refl;
  not_ended_in_profile = refl;
  dry_run = refl;
  function = refl;
  configuration = refl;
  telemetry = refl;
  logs = refl;
  to_environment = refl;
  identified = refl;
  identified_before = refl;
}
