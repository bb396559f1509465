-- How long events took from their acceptance to their end.
use Rattle.std.specs.Prelude.{ℕ, ◌+◌, ◌-◌, ◌^◌, nat_le, min, Bool, true, false, [], ◌∷◌, slice_index, if◌then◌else◌, Option, Some, None}
use Rattle.invoke_records.specs.declared.command.Kind.{Kind}
use Rattle.invoke_records.specs.declared.command.Kind.TheVariants.{Succeed, Fail, Expire}
use Rattle.invoke_records.specs.declared.row.Standing.{Standing}
use Rattle.invoke_records.specs.declared.row.Standing.TheVariants as standing
use Rattle.invoke_records.specs.declared.snapshot.Snapshot.{Snapshot}
use Rattle.async_core.specs.Rules.{standing_at, row_at}
use Rattle.async_core.specs.Readers.{accepted_at}
use Rattle.hall_plans.specs.declared.issued.Issued.{Issued}
use Rattle.receipts.specs.declared.lives.Lives.{Lives}

-- ## The life of one event

-- a command of such a kind may end an event
abbrev pub may_end : Kind → Bool
may_end Succeed = true
may_end (Fail cause) = true
may_end Expire = true
may_end other = false

-- from the acceptance to the end, of an event that has ended
abbrev pub life_by : Standing → Option ℕ → Option ℕ
life_by (standing.Ended outcome at) (Some accepted) = Some (at - accepted)
life_by other moment = None

-- that of the event that was ended by what was issued last, by the table behind that
abbrev pub life_ended : Snapshot → Option Issued → Option ℕ
life_ended table None = None
life_ended table (Some issued) =
    if may_end issued.kind then life_by (standing_at table issued.id) (accepted_at (row_at table issued.id)) else None

-- ## The lives that are counted

abbrev pub no_lives : Lives
no_lives = record { buckets = 0 ∷ 0 ∷ 0 ∷ 0 ∷ 0 ∷ 0 ∷ 0 ∷ 0 ∷ []; all = 0; milliseconds = 0 }

abbrev pub sum_up_to : ℕ → ℕ → ℕ
sum_up_to n more = min (n + more) (2 ^ 64 - 1)

-- one more in a bucket of those that took at most so long
abbrev pub raised : (took bound bucket : ℕ) → ℕ
raised took bound bucket = if nat_le took bound then sum_up_to bucket 1 else bucket

-- one more, which took so many milliseconds
abbrev pub one_more : ℕ → Lives → Lives
one_more took lives = record {
  buckets =
      raised took 10 (slice_index lives.buckets 0)
      ∷ raised took 100 (slice_index lives.buckets 1)
      ∷ raised took 1000 (slice_index lives.buckets 2)
      ∷ raised took 10000 (slice_index lives.buckets 3)
      ∷ raised took 60000 (slice_index lives.buckets 4)
      ∷ raised took 300000 (slice_index lives.buckets 5)
      ∷ raised took 3600000 (slice_index lives.buckets 6)
      ∷ raised took 21600000 (slice_index lives.buckets 7)
      ∷ [];
  all = sum_up_to lives.all 1;
  milliseconds = sum_up_to lives.milliseconds took;
}

abbrev pub one_more_if : Option ℕ → Lives → Lives
one_more_if (Some took) lives = one_more took lives
one_more_if None lives = lives

-- with the event that was ended by what was issued last
abbrev pub lives_with : Snapshot → Option Issued → Lives → Lives
lives_with table issued lives = one_more_if (life_ended table issued) lives
