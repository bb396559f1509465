-- The moment that `X-Amz-Date` says: `YYYYMMDDTHHMMSSZ`, in UTC.
use Rattle.std.specs.Prelude.{ℕ, ◌+◌, ◌-◌, ◌*◌, ◌==◌, ◌&&◌, nat_le, nat_lt, Bool, Option, Some, None, option_and_then, if◌then◌else◌, List, length, slice_index, pos, unsigned_abs}
use Rattle.std.specs.Str.{byte}
use Rattle.jiff_core.specs.Calendar.{days_in_month, days_from_civil}

infixl 10 ◌>>=◌
abbrev pub ◌>>=◌ : {A B : Type 0} → Option A → (A → Option B) → Option B
o >>= f = option_and_then f o

abbrev pub is_digit : ℕ → Bool
is_digit b = nat_le 48 b && nat_le b 57

-- the number of two digits at a place
abbrev pub two_at : List ℕ → ℕ → Option ℕ
two_at text i =
    if is_digit (slice_index text i) && is_digit (slice_index text (i + 1))
    then Some (10 * (slice_index text i - 48) + (slice_index text (i + 1) - 48)) else None

abbrev pub is_framed : List ℕ → Bool
is_framed text = (length text == 16) && (slice_index text 8 == byte "T") && (slice_index text 15 == byte "Z")

-- a day that the calendar has, from 1970 on
abbrev pub is_day : ℕ → ℕ → ℕ → Bool
is_day year month day =
    nat_le 1970 year && nat_le 1 month && nat_le month 12 && nat_le 1 day && nat_le day (days_in_month (pos year) month)

abbrev pub is_time : ℕ → ℕ → ℕ → Bool
is_time hour minute second = nat_lt hour 24 && nat_lt minute 60 && nat_lt second 60

-- the day, counted from 1 January 1970
unfoldable pub day_number : ℕ → ℕ → ℕ → ℕ
day_number year month day = unsigned_abs (days_from_civil (pos year) month day)

-- how many seconds lie between the beginning of 1970 and a day's midnight, and between that and a time
unfoldable pub day_seconds : List ℕ → Option ℕ
day_seconds text = do
  century ← two_at text 0
  year ← two_at text 2
  month ← two_at text 4
  day ← two_at text 6
  if is_day (100 * century + year) month day then Some (86400 * day_number (100 * century + year) month day) else None

unfoldable pub time_seconds : List ℕ → Option ℕ
time_seconds text = do
  hour ← two_at text 9
  minute ← two_at text 11
  second ← two_at text 13
  if is_time hour minute second then Some (3600 * hour + 60 * minute + second) else None

unfoldable pub seconds_of : List ℕ → Option ℕ
seconds_of text = do
  day ← (if is_framed text then day_seconds text else None)
  time ← time_seconds text
  Some (day + time)
