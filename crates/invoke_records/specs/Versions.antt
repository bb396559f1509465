-- What the versions of the format differ in: a few sizes, and what version 1 does not have. Only version 2 is written.
use Rattle.std.specs.Prelude.{ℕ, Bool, true, false}
use Rattle.invoke_records.specs.declared.version.Version.{Version}
use Rattle.invoke_records.specs.declared.version.Version.TheVariants.{One, Two}
use Rattle.invoke_records.specs.declared.command.Kind.{Kind}
use Rattle.invoke_records.specs.declared.command.Kind.TheVariants.{Configure}

abbrev pub is_old : Version → Bool
is_old (One policy) = true
is_old Two = false

-- the greatest payload
abbrev pub most_payload : Version → ℕ
most_payload (One policy) = 262144
most_payload Two = 1048576

-- how many bytes a row has in front of its payload
abbrev pub row_front : Version → ℕ
row_front (One policy) = 73
row_front Two = 78

-- how many bytes a snapshot has in front of its rows
abbrev pub snapshot_front : Version → ℕ
snapshot_front (One policy) = 20
snapshot_front Two = 25

-- version 1 has no Configure
abbrev pub has_kind : Version → Kind → Bool
has_kind Two kind = true
has_kind (One policy) (Configure next) = false
has_kind (One policy) kind = true
