-- The limits that settings put on a table, and how long the spelling of a table within them is at most.
use Rattle.std.specs.Prelude.{ℕ, ◌+◌, ◌*◌, nat_le, Bool, ◌&&◌, length}
use Rattle.std.specs.List.{list_all}
use Rattle.retry_rules.specs.declared.settings.Settings.{Settings}
use Rattle.invoke_records.specs.Spelling.{answer_bytes, environment_in}
use Rattle.invoke_records.specs.declared.row.EventRow.{EventRow}
use Rattle.invoke_records.specs.declared.snapshot.Snapshot.{Snapshot}

-- the row is within the settings' limits
abbrev pub is_row_within : Settings → EventRow → Bool
is_row_within s row =
    nat_le (length row.payload) s.payload && nat_le (length (answer_bytes row.answer)) s.response
    && nat_le (environment_in row.standing) s.environments

-- there are no more rows than events, and each is within the settings' limits
abbrev pub is_within : Settings → Snapshot → Bool
is_within s snapshot = nat_le (length snapshot.rows) s.events && list_all (is_row_within s) snapshot.rows

-- the greatest length of a snapshot under these settings
abbrev pub most_snapshot : Settings → ℕ
most_snapshot s = 25 + s.events * (78 + s.payload + s.response)
