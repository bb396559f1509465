use Rattle.std.proofs.Common.{◌≡◌, ◌++◌, take}
use Rattle.std.specs.List.{flat_map}
use Rattle.admin_replies.specs.MetricsText.{section_text}
use Rattle.admin_replies.proofs.lines.put_sections.Given as goal

abbrev pub invariant-loop-section : goal.invariant-loop-section
invariant-loop-section l = l.out.items ≡ l.initial.out.items ++ flat_map (section_text l.metrics) (take l.section-index l.sections)
