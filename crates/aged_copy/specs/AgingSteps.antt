-- What the private steps of a longer age give, and which numbers a row may have. Public contracts cite the latter alone.
use Rattle.std.specs.Prelude.{ℕ, ◌-◌, ◌*◌, ◌^◌, min, Bool, ◌&&◌, nat_le}
use Rattle.invoke_records.specs.declared.row.EventRow.{EventRow}
use Rattle.invoke_records.specs.Spelling.{greatest_number}
use Rattle.aged_copy.specs.Aging.{aged_row}

-- twice the number, up to the greatest of 64 bits
abbrev pub doubled : ℕ → ℕ
doubled n = min (n * 2) (2 ^ 64 - 1)

abbrev pub doubled_row : ℕ → EventRow → EventRow
doubled_row age r = record r {
  number = doubled r.number;
  last_number = doubled r.last_number;
  policy = (aged_row age r).policy;
}

-- the row's numbers are those of commands
abbrev pub is_counted : EventRow → Bool
is_counted r = nat_le r.number greatest_number && nat_le r.last_number greatest_number
