-- Each one computes.
use Rattle.std.proofs.Common.{refl}
use Rattle.destination_json.specs.Stamp.{stamp_text, year_of, month_of, day_of_month}
use Rattle.destination_json.proofs.examples.stamps.Goals as goal

pub returns : goal.returns
unfolding stamp_text year_of month_of day_of_month
returns c = record {
  first = refl;
  last = refl;
  accepted = refl;
  minute_later = refl;
  leap_day = refl;
  after_leap_day = refl;
  no_leap_day = refl;
  after_no_leap_day = refl;
  new_millennium = refl;
  new_year = refl;
}
