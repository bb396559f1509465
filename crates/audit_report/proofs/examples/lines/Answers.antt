-- Each one computes.
use Rattle.std.proofs.Common.{refl}
use Rattle.std.specs.Fmt.{digits}
use Rattle.std.specs.Str.{is_utf8, chars}
use Rattle.std.specs.Str.Lossy.{utf8_valid_len, utf8_error_len}
use Rattle.serde_json.proofs.OnLiterals.{serde_json_on_literals}
use Rattle.destination_json.specs.Json.{is_json}
use Rattle.audit_report.specs.Figures.{figures_text}
use Rattle.audit_report.proofs.examples.lines.Goals as goal

pub returns : goal.returns
unfolding figures_text is_json digits is_utf8 chars utf8_valid_len utf8_error_len serde_json_on_literals
returns c = record {
  used = refl;
  used_is_json = refl;
  fresh = refl;
  fresh_is_json = refl;
}
