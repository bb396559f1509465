-- A table whose events that have not ended get a longer age.
use Rattle.std.specs.Prelude.{ℕ, ◌+◌, ◌*◌, Bool, not, if◌then◌else◌, nat_lt, map}
use Rattle.invoke_records.specs.declared.row.EventRow.{EventRow}
use Rattle.invoke_records.specs.declared.snapshot.Snapshot.{Snapshot}
use Rattle.async_core.specs.Standings.{is_ended}

-- the greater of two ages, where it is to be longer
abbrev pub age_by : Bool → ℕ → ℕ → ℕ
age_by longer age old = if longer then (if nat_lt old age then age else old) else old

-- a row, which is to have a longer age or not. Between its commands others were issued: each number is twice what it was
abbrev pub row_by : Bool → ℕ → EventRow → EventRow
row_by longer age r = record r {
  number = 2 * r.number;
  last_number = 2 * r.last_number;
  policy = record { retries = r.policy.retries; age = age_by longer age r.policy.age };
}

-- an event that has ended stays as it was
abbrev pub aged_row : ℕ → EventRow → EventRow
aged_row age r = row_by (not (is_ended r.standing)) age r

-- each event that has not ended has at least this age, in seconds; what is in force for later ones is what it was
unfoldable pub aged : ℕ → Snapshot → Snapshot
aged age table = record {
  number = 2 * table.number + 1;
  last_moment = table.last_moment;
  policy = table.policy;
  rows = map (aged_row age) table.rows;
}
