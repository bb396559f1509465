-- Each day up to the end of the year 9999 has a date, and it is the one that the definitions compute.
use Rattle.std.proofs.Common.{◌≡◌, ℕ, zero, suc, ◌+◌, ◌<◌, ◌≤◌, pos, neg_ℤ, ◌≤ℤ◌, refl, sym, ap, subst, arith, rules}
use Rattle.std.proofs.lemmas.Int.{by_lt_z}
use Rattle.std.proofs.Math.Logic.{⊎_elim}
use Rattle.std.proofs.lemmas.Bool.{cases_lt}
use Rattle.jiff_core.specs.Calendar.{day_count, days_in_month, days_from_civil}
use Rattle.jiff_core.proofs.SignedLemmas.{signed_arith}
use Rattle.jiff_core.proofs.CalendarLemmas.{days_from_civil-day_count, days_in_month_bounds, day_count-day, day_count-next_month, day_count-next_year, day_count-last_of_year, day_count-end, day_count-epoch}
use Rattle.destination_json.specs.Stamp.{last_day, year_of, month_of, day_of_month, IsDateOf}
use Rattle.destination_json.proofs.Dates.{year_of-is, month_of-is, day_of_month-is}

-- a date of a day
record HasDate (day : ℕ) : Type 0 where
  year : ℕ
  month : ℕ
  in_month : ℕ
  late : 1970 ≤ year
  is : IsDateOf day year month in_month

by_count : (day y m d : ℕ) → day_count (pos y) m d ≡ day + 4_371_953 → days_from_civil (pos y) m d ≡ pos day
by_count day y m d counts = omega (arith, signed_arith, days_from_civil-day_count (pos y) m d, counts)

-- a year before the last one, by its first day
early_year : (y day : ℕ) → day ≤ last_day → day_count (pos y) 1 1 ≡ day + 4_371_953 → pos y ≤ℤ pos 10000 → (neg_ℤ (pos 9999) ≤ℤ pos y) × (pos y ≤ℤ pos 9999)
early_year y day within counts bound =
    by_lt_z (pos y) (pos 10000)
    (λ below. (omega (arith, signed_arith), omega (arith, signed_arith)))
    (λ least. absurd (let same : y ≡ 10000 = omega (arith, signed_arith, least, bound) in omega (arith, day_count-end, subst (λ n. day_count (pos n) 1 1 ≡ day + 4_371_953) same counts)))

module _ (day : ℕ) (before : day < last_day) (h : HasDate day) where
  counted : day_count (pos h.year) h.month h.in_month ≡ day + 4_371_953
  counted = omega (arith, signed_arith, days_from_civil-day_count (pos h.year) h.month h.in_month, h.is.0)

  -- another day of the month
  next_day : h.in_month < days_in_month (pos h.year) h.month → HasDate (suc day)
  next_day more = record {
    year = h.year;
    month = h.month;
    in_month = h.in_month + 1;
    late = h.late;
    is = (
      by_count (suc day) h.year h.month (h.in_month + 1) (omega (arith, counted, day_count-day (pos h.year) h.month h.in_month (h.in_month + 1) h.is.1.2.0 (omega arith))),
      (h.is.1.0, h.is.1.1, (omega arith, omega (arith, more))),
    );
  }

  module _ (last : days_in_month (pos h.year) h.month ≤ h.in_month) where
    next_month : h.month < 12 → HasDate (suc day)
    next_month more =
        let long = days_in_month_bounds (pos h.year) (h.month + 1) in
        record {
          year = h.year;
          month = h.month + 1;
          in_month = 1;
          late = h.late;
          is = (
            by_count (suc day) h.year (h.month + 1) 1 (omega (arith, counted, h.is.1.2, last, day_count-next_month (pos h.year) h.month h.is.1.1.0, day_count-day (pos h.year) h.month h.in_month 1 h.is.1.2.0 (omega arith))),
            (h.is.1.0, (omega arith, omega (arith, more)), (omega arith, omega (arith, long))),
          );
        }

    next_year : 12 ≤ h.month → HasDate (suc day)
    next_year december =
        let long = days_in_month_bounds (pos (h.year + 1)) 1 in
        let month : h.month ≡ 12 = omega (arith, h.is.1.1, december) in
        let day_31 : h.in_month ≡ 31 = omega (arith, h.is.1.2, last, ap (days_in_month (pos h.year)) month) in
        let counts : day_count (pos (h.year + 1)) 1 1 ≡ suc day + 4_371_953 =
        omega (
          arith,
          signed_arith,
          subst (λ n. day_count (pos h.year) n h.in_month ≡ day + 4_371_953) month counted,
          subst (λ n. day_count (pos h.year) 12 n ≡ day_count (pos h.year) 12 31) (sym day_31) refl,
          day_count-last_of_year (pos h.year),
          day_count-next_year (pos h.year) (pos (h.year + 1)) (omega (arith, signed_arith)) (omega (arith, signed_arith)),
        ) in
        record {
          year = h.year + 1;
          month = 1;
          in_month = 1;
          late = omega (arith, h.late);
          is = (
            by_count (suc day) (h.year + 1) 1 1 counts,
            (early_year (h.year + 1) (suc day) (omega (arith, before)) counts (let in_years = h.is.1.0 in omega (arith, signed_arith)), (omega arith, omega arith), (omega arith, omega (arith, long))),
          );
        }

  next : HasDate (suc day)
  next =
      ⊎_elim next_day
      (λ last. ⊎_elim (next_month last) (next_year last) (cases_lt h.month 12))
      (cases_lt h.in_month (days_in_month (pos h.year) h.month))

date_at : (day : ℕ) → day ≤ last_day → HasDate day
date_at zero within = record {
  year = 1970;
  month = 1;
  in_month = 1;
  late = omega arith;
  is = (by_count 0 1970 1 1 day_count-epoch, search rules);
}
date_at (suc day) within = next day (omega (arith, within)) (date_at day (omega (arith, within)))

-- the date that the definitions compute is the calendar's
pub dates : (day : ℕ) → day ≤ last_day → IsDateOf day (year_of day) (month_of day) (day_of_month day)
dates day within =
    let h = date_at day within in
    rw (year_of-is day h.year h.month h.in_month h.late h.is, month_of-is day h.year h.month h.in_month h.late h.is, day_of_month-is day h.year h.month h.in_month h.late h.is) h.is
