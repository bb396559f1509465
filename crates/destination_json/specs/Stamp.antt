-- Moments as texts: `YYYY-MM-DDTHH:MM:SS.mmmZ`. A moment is a number of milliseconds since 1970, without leap seconds.
use Rattle.std.specs.Prelude.{◌≡◌, ℕ, zero, suc, ◌+◌, ◌-◌, ◌*◌, ◌/◌, ◌%◌, pos, List, ◌++◌, nat_le, if◌then◌else◌, codes}
use Rattle.jiff_core.specs.Calendar.{days_in_month, days_from_civil, IsCivilDate}
use Rattle.destination_json.specs.Digits.{two_digits, three_digits, four_digits}

-- ## The date of a day. Day 0 is 1 January 1970

-- how many leap days lie before a year, from the year 1 on
abbrev pub leap_days_before : ℕ → ℕ
leap_days_before year = (year - 1) / 4 - (year - 1) / 100 + (year - 1) / 400

-- the day that a year begins with
abbrev pub first_of_year : ℕ → ℕ
first_of_year year = 365 * (year - 1970) + leap_days_before year - leap_days_before 1970

-- the last year, of those up to this one, that has begun by the day
abbrev pub year_up_to : ℕ → ℕ → ℕ
year_up_to day zero = zero
year_up_to day (suc year) = if nat_le (first_of_year (suc year)) day then suc year else year_up_to day year

-- the year of a day: no year is shorter than 365 days
unfoldable pub year_of : ℕ → ℕ
year_of day = year_up_to day (1970 + day / 365)

-- how many days the first months of a year have
abbrev pub days_of_first : ℕ → ℕ → ℕ
days_of_first year zero = 0
days_of_first year (suc months) = days_of_first year months + days_in_month (pos year) (suc months)

-- the last month, of those up to this one, that has begun by a day of the year, the first being 0
abbrev pub month_up_to : ℕ → ℕ → ℕ → ℕ
month_up_to year day zero = zero
month_up_to year day (suc month) = if nat_le (days_of_first year month) day then suc month else month_up_to year day month

abbrev pub day_of_year : ℕ → ℕ
day_of_year day = day - first_of_year (year_of day)

unfoldable pub month_of : ℕ → ℕ
month_of day = month_up_to (year_of day) (day_of_year day) 12

unfoldable pub day_of_month : ℕ → ℕ
day_of_month day = day_of_year day - days_of_first (year_of day) (month_of day - 1) + 1

-- what makes a year, a month and a day the date of a day: the public calendar has it, and counts so many days up to it
abbrev pub IsDateOf : ℕ → ℕ → ℕ → ℕ → Type 0
IsDateOf day year month day_in_month =
    (days_from_civil (pos year) month day_in_month ≡ pos day) × IsCivilDate (pos year) month day_in_month

-- ## The text

abbrev pub date_text : ℕ → ℕ → ℕ → List ℕ
date_text year month day = four_digits year ++ codes "-" ++ two_digits month ++ codes "-" ++ two_digits day

-- the time of day, from the milliseconds since midnight
abbrev pub time_text : ℕ → List ℕ
time_text ms =
    two_digits (ms / 3600000) ++ codes ":" ++ two_digits (ms / 60000 % 60) ++ codes ":" ++ two_digits (ms / 1000 % 60)
    ++ codes "." ++ three_digits (ms % 1000)

-- the last day that has a date of four digits: 31 December 9999
abbrev pub last_day : ℕ
last_day = 2932896

-- the text of a moment
unfoldable pub stamp_text : ℕ → List ℕ
stamp_text ms =
    date_text (year_of (ms / 86400000)) (month_of (ms / 86400000)) (day_of_month (ms / 86400000))
    ++ codes "T" ++ time_text (ms % 86400000) ++ codes "Z"
