-- When events that wait are due, which are soon too old, and by when those that run are to be done.
use Rattle.std.specs.Prelude.{ℕ, ◌-◌, ◌*◌, nat_le, Bool, false, ◌&&◌, List, Option, Some, None}
use Rattle.std.specs.List.{filter_map}
use Rattle.std.specs.Option.{option_map_or}
use Rattle.invoke_records.specs.declared.row.EventRow.{EventRow}
use Rattle.invoke_records.specs.declared.row.Standing.{Standing}
use Rattle.invoke_records.specs.declared.row.Standing.TheVariants.{Waiting, DueAgain, Running}
use Rattle.operator_view.specs.Standings.{waits}

-- when it is due, if it waits
abbrev pub due_of : Standing → Option ℕ
due_of (Waiting due) = Some due
due_of (DueAgain due) = Some due
due_of other = None

-- the moments at which those that wait are due
abbrev pub dues : List EventRow → List ℕ
dues rows = filter_map (λ (r : EventRow). due_of r.standing) rows

-- by when its attempt is to be done, if one runs
abbrev pub deadline_of : Standing → Option ℕ
deadline_of (Running environment deadline) = Some deadline
deadline_of other = None

-- the moments by which the attempts that run are to be done
abbrev pub deadlines : List EventRow → List ℕ
deadlines rows = filter_map (λ (r : EventRow). deadline_of r.standing) rows

abbrev pub is_due : ℕ → EventRow → Bool
is_due now r = option_map_or (λ due. nat_le due now) (due_of r.standing) false

-- it waits, and has waited for five sixths of its age, which is in seconds
abbrev pub expires_soon : ℕ → EventRow → Bool
expires_soon now r = waits r.standing && nat_le (5000 * r.policy.age) (6 * (now - r.accepted))
