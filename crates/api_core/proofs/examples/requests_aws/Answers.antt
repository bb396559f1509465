-- Each one computes.
use Rattle.std.proofs.Common.{refl}
use Rattle.destination_json.specs.Json.{is_json}
use Rattle.api_core.specs.Bodies.{subscription_of}
use Rattle.api_core.specs.Dialect.{account_of, has_account_feature}
use Rattle.api_core.specs.Paths.{fits, in_hole}
use Rattle.std.specs.Str.{is_utf8, chars, trim_start, trim_end}
use Rattle.uuid.proofs.OnLiterals.{uuid_on_literals}
use Rattle.percent_encoding.proofs.OnLiterals.{percent_encoding_on_literals}
use Rattle.serde_json.proofs.OnLiterals.{serde_json_on_literals}
use Rattle.std.specs.Fmt.{digits}
use Rattle.api_core.proofs.examples.requests_aws.Goals as goal

pub returns : goal.returns
unfolding digits account_of has_account_feature trim_start trim_end subscription_of fits in_hole is_json is_utf8 chars uuid_on_literals percent_encoding_on_literals serde_json_on_literals
returns c = record {
  of_account = refl;
  of_account_version = refl;
  short = refl;
  short_version = refl;
  whole = refl;
  other_account = refl;
  other_version = refl;
  no_account = refl;
  in_profile = refl;
  name_of_account = refl;
  name_of_other_account = refl;
  invoke_async = refl;
  invoke_async_of_models = refl;
  invoke_async_of_other = refl;
  invoke_async_in_profile = refl;
  dry_run = refl;
  dry_run_in_profile = refl;
  function = refl;
  configuration = refl;
  other_function = refl;
  function_in_profile = refl;
  too_large = refl;
  too_large_in_profile = refl;
  too_small_for_that = refl;
  telemetry = refl;
  logs = refl;
  telemetry_get = refl;
  telemetry_in_profile = refl;
  accepts = refl;
  among = refl;
  other_feature = refl;
  accepts_in_profile = refl;
}
