use Rattle.std.proofs.Common.{◌≡◌, map, take, Some}
use Rattle.std.specs.Prelude.{option_map}
use Rattle.admin_replies.specs.Collecting.{line_in}
use Rattle.admin_port.proofs.collecting.lines_of.Given as goal

abbrev pub invariant-loop-entry : goal.invariant-loop-entry
invariant-loop-entry g l =
    map Some l.lines.items ≡ map (λ entry. line_in entry.id (option_map (λ told. told.answer) entry.told)) (take l.entry-index l.entries)
