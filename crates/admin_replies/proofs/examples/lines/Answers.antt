-- Each one computes.
use Rattle.std.proofs.Common.{refl}
use Rattle.std.specs.Fmt.{digits}
use Rattle.admin_replies.specs.Lines.{last_digits, line_text}
use Rattle.admin_replies.specs.MetricsText.{section_text, label_text, build_begin, info_begin, build_text, settings_text, info_text}
use Rattle.admin_replies.specs.History.{sample_text, numbers_in, history_begin}
use Rattle.admin_replies.specs.Phases.{line_begin, time_begin, phase_line, phase_time, phases_begin, times_begin, phases_text}
use Rattle.admin_replies.specs.Table.{lines_of}
use Rattle.admin_replies.proofs.examples.lines.Goals as goal

pub returns : goal.returns
unfolding digits sample_text numbers_in history_begin section_text line_text lines_of last_digits label_text build_begin info_begin build_text settings_text info_text line_begin time_begin phase_line phase_time phases_begin times_begin phases_text
returns c = record {
  held = refl;
  waits = refl;
  commits = refl;
  info = λ v is. rw (is.0, is.1, is.2) refl;
  problems = refl;
  premises = refl;
  phases = refl;
  noted = refl;
  first_noted = refl;
  unpolled = refl;
  samples = refl;
}
