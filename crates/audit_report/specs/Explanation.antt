-- One event in one line, by where it stands, when it was accepted, and what its life counts.
use Rattle.std.specs.Prelude.{ℕ, List, ◌++◌, Option, Some, codes, decimal}
use Rattle.invoke_records.specs.declared.row.Standing.{Standing}
use Rattle.invoke_records.specs.Spelling.{moment_in}
use Rattle.destination_json.specs.Record.{id_text}
use Rattle.operator_view.specs.EventText.{standing_text}

-- where it stands, when it was accepted, and the moment of its standing: when it is due, times out, or ended
abbrev pub event_text : Standing → ℕ → List ℕ
event_text standing accepted =
    codes " "
    ++ (standing_text standing
    ++ (codes " accepted " ++ (decimal accepted ++ (codes " moment " ++ decimal (moment_in standing)))))

-- its starts, its failures, and the push-backs since the last one
abbrev pub counts_text : ℕ × ℕ × ℕ → List ℕ
counts_text counts =
    codes " starts " ++ (decimal counts.0 ++ (codes " failures " ++ (decimal counts.1 ++ (codes " pushbacks " ++ decimal counts.2))))

-- what is known of an event that is held, and of another one
abbrev pub life_text : Standing → Option ℕ → Option (ℕ × ℕ × ℕ) → List ℕ
life_text standing (Some accepted) (Some counts) = event_text standing accepted ++ counts_text counts
life_text standing accepted counts = codes " unknown"

-- the line of an event
abbrev pub explanation : List ℕ → Standing → Option ℕ → Option (ℕ × ℕ × ℕ) → List ℕ
explanation id standing accepted counts = id_text id ++ life_text standing accepted counts
