-- Each one computes.
use Rattle.std.proofs.Common.{refl}
use Rattle.destination_json.specs.Json.{is_json}
use Rattle.api_core.specs.Bodies.{subscription_of}
use Rattle.api_core.specs.Paths.{fits, in_hole}
use Rattle.std.specs.Str.{is_utf8, chars}
use Rattle.uuid.proofs.OnLiterals.{uuid_on_literals}
use Rattle.percent_encoding.proofs.OnLiterals.{percent_encoding_on_literals}
use Rattle.serde_json.proofs.OnLiterals.{serde_json_on_literals}
use Rattle.api_core.proofs.examples.registrations.Goals as goal

pub returns : goal.returns
unfolding subscription_of fits in_hole is_json is_utf8 chars uuid_on_literals percent_encoding_on_literals serde_json_on_literals
returns c = record {
  nothing = refl;
  no_events = refl;
  none = refl;
  shutdown = refl;
  twice = refl;
  last = refl;
  unknown = refl;
  lower_case = refl;
  no_list = refl;
  null_events = refl;
  no_object = refl;
  no_json = refl;
}
