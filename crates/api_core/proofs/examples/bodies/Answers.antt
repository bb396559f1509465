-- Each one computes.
use Rattle.std.proofs.Common.{refl}
use Rattle.destination_json.specs.Json.{is_json}
use Rattle.api_core.specs.Bodies.{subscription_of}
use Rattle.api_core.specs.Paths.{fits, in_hole}
use Rattle.std.specs.Str.{is_utf8, chars}
use Rattle.uuid.proofs.OnLiterals.{uuid_on_literals}
use Rattle.percent_encoding.proofs.OnLiterals.{percent_encoding_on_literals}
use Rattle.serde_json.proofs.OnLiterals.{serde_json_on_literals}
use Rattle.api_core.proofs.examples.bodies.Goals as goal

pub returns : goal.returns
unfolding subscription_of fits in_hole is_json is_utf8 chars uuid_on_literals percent_encoding_on_literals serde_json_on_literals
returns c = record {
  eight = refl;
  nine = refl;
  size_before_content = refl;
  not_json = refl;
  not_text = refl;
  white_space = refl;
  empty = refl;
  shallow = refl;
  deepest = refl;
  too_deep = refl;
  unclosed = refl;
  response_of_eight = refl;
  response_of_nine = refl;
  error_of_nine = refl;
  empty_response = refl;
}
