-- What is counted of ports: how often something took how long, and what was not read.
use Rattle.std.specs.Prelude.{ℕ, List, [], ◌∷◌, nat_lt, count_by, slice_index}
use Rattle.port_meters.specs.declared.histogram.Spread.{Spread}
use Rattle.port_meters.specs.declared.port_meter.UnreadCounts.{UnreadCounts}
use Rattle.port_meters.specs.Counting.{sum_up_to}

-- the bounds of all buckets but the last, in microseconds
abbrev pub bounds : List ℕ
bounds = 1000 ∷ 2500 ∷ 5000 ∷ 10000 ∷ 25000 ∷ 100000 ∷ 500000 ∷ 2500000 ∷ []

-- the bucket of what took so long is behind as many as have a bound below it
abbrev pub bucket_of : ℕ → ℕ
bucket_of took = count_by (λ (bound : ℕ). nat_lt bound took) bounds

-- each bucket counts those of the one before it too
abbrev pub spread_of : List ℕ → ℕ → Spread
spread_of counts microseconds =
    let one = slice_index counts 0 in
    let two = sum_up_to one (slice_index counts 1) in
    let three = sum_up_to two (slice_index counts 2) in
    let four = sum_up_to three (slice_index counts 3) in
    let five = sum_up_to four (slice_index counts 4) in
    let six = sum_up_to five (slice_index counts 5) in
    let seven = sum_up_to six (slice_index counts 6) in
    let eight = sum_up_to seven (slice_index counts 7) in
    record {
      buckets = one ∷ two ∷ three ∷ four ∷ five ∷ six ∷ seven ∷ eight ∷ [];
      all = sum_up_to eight (slice_index counts 8);
      microseconds = microseconds;
    }

-- what two ports have not read
abbrev pub both_unread : (one other : UnreadCounts) → UnreadCounts
both_unread one other = record {
  bad_head = sum_up_to one.bad_head other.bad_head;
  head_too_large = sum_up_to one.head_too_large other.head_too_large;
  head_cut_off = sum_up_to one.head_cut_off other.head_cut_off;
  head_late = sum_up_to one.head_late other.head_late;
  body_cut_off = sum_up_to one.body_cut_off other.body_cut_off;
  body_late = sum_up_to one.body_late other.body_late;
  forbidden = sum_up_to one.forbidden other.forbidden;
}
