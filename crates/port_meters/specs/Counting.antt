-- What is counted for an operator: each number up to the greatest of 64 bits.
use Rattle.std.specs.Prelude.{◌≡◌, ℕ, ◌+◌, ◌-◌, ◌^◌, ◌==◌, nat_le, nat_lt, min, List, [], ◌∷◌, slice_index, if◌then◌else◌}
use Rattle.port_meters.specs.declared.counters.Refusals.{Refusals}
use Rattle.port_meters.specs.declared.counters.Counters.{Counters}
use Rattle.port_meters.specs.declared.opening.Opening.{Opening}

abbrev pub sum_up_to : ℕ → ℕ → ℕ
sum_up_to n more = min (n + more) (2 ^ 64 - 1)

-- one more in a bucket of what took at most so long
abbrev pub raised : (took bound bucket : ℕ) → ℕ
raised took bound bucket = if nat_le took bound then sum_up_to bucket 1 else bucket

abbrev pub raised_buckets : ℕ → List ℕ → List ℕ
raised_buckets took buckets =
    raised took 1000 (slice_index buckets 0)
    ∷ raised took 2500 (slice_index buckets 1)
    ∷ raised took 5000 (slice_index buckets 2)
    ∷ raised took 10000 (slice_index buckets 3)
    ∷ raised took 25000 (slice_index buckets 4)
    ∷ raised took 100000 (slice_index buckets 5)
    ∷ raised took 500000 (slice_index buckets 6)
    ∷ raised took 2500000 (slice_index buckets 7)
    ∷ []

-- one more of those that were refused with this status
abbrev pub refused_more : Refusals → ℕ → Refusals
refused_more refused status =
    if status == 400 then record refused { bad_request = sum_up_to refused.bad_request 1 }
    else if status == 404 then record refused { not_found = sum_up_to refused.not_found 1 }
    else if status == 409 then record refused { conflict = sum_up_to refused.conflict 1 }
    else if status == 413 then record refused { too_large = sum_up_to refused.too_large 1 }
    else if status == 429 then record refused { too_many = sum_up_to refused.too_many 1 }
    else if status == 503 then record refused { unavailable = sum_up_to refused.unavailable 1 }
    else record refused { other = sum_up_to refused.other 1 }

-- nothing of the disk has changed
pub record HasSameDisk (old new : Counters) : Type 0 where
  pub first : new.first_generation ≡ old.first_generation
  pub generation : new.generation ≡ old.generation
  pub sectors : new.sectors ≡ old.sectors
  pub free : new.free_sectors ≡ old.free_sectors

-- nothing else has
pub record HasSameCounts (old new : Counters) : Type 0 where
  pub commits : new.commits ≡ old.commits
  pub time : new.commit_microseconds ≡ old.commit_microseconds
  pub buckets : new.buckets ≡ old.buckets
  pub refused : new.refused ≡ old.refused

-- one commit more, which took so long
abbrev pub committed : Counters → ℕ → Counters
committed counters took = record counters {
  commits = sum_up_to counters.commits 1;
  commit_microseconds = sum_up_to counters.commit_microseconds took;
  buckets = raised_buckets took counters.buckets;
}

-- with switches counted from what an opening found
abbrev pub counted_from : Opening → Counters → Counters
counted_from opening counters = record counters { first_generation = opening.generation }

-- the same with its commit, where it interrupted something
abbrev pub with_opening : Opening → Counters → Counters
with_opening opening counters =
    if nat_lt 0 opening.interrupted
    then committed (counted_from opening counters) opening.commit_microseconds
    else counted_from opening counters
