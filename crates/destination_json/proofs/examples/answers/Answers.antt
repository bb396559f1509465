-- Each one computes.
use Rattle.std.proofs.Common.{refl}
use Rattle.destination_json.specs.Json.{is_json}
use Rattle.destination_json.specs.Record.{answer_json}
use Rattle.std.specs.Str.{is_utf8, chars}
use Rattle.std.specs.Str.Lossy.{utf8_lossy, utf8_valid_len, utf8_error_len}
use Rattle.serde_json.proofs.OnLiterals.{serde_json_on_literals}
use Rattle.destination_json.proofs.examples.answers.Goals as goal

pub returns : goal.returns
unfolding is_json answer_json is_utf8 chars utf8_lossy utf8_valid_len utf8_error_len serde_json_on_literals
returns c = record {
  empty = refl;
  not_text = refl;
  plain = refl;
  quoted = refl;
  copied = refl;
  number = refl;
  too_large = refl;
}
