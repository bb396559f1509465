-- What a clock shows.
use Rattle.std.specs.Prelude.{ℕ, ◌/◌, min}
use Rattle.std.specs.declared.time.SystemTime.{SystemTime}
use Rattle.std.specs.Time.{system_time_nanos}
use Rattle.invoke_records.specs.Spelling.{greatest_moment}

-- the milliseconds since 1970, up to the end of the year 9999
abbrev pub millis_in : SystemTime → ℕ
millis_in shown = min (system_time_nanos shown / 1_000_000) greatest_moment
