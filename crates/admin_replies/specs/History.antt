-- What is kept of a broker's numbers: the last sixty samples, each of one look, five seconds apart or more, and their text.
use Rattle.std.specs.Prelude.{◌≡◌, ℕ, ◌+◌, ◌-◌, ◌^◌, Bool, false, ◌&&◌, nat_le, nat_lt, if◌then◌else◌, List, [], ◌∷◌, ◌++◌, Option, Some, None, min, codes, decimal}
use Rattle.std.specs.List.{flat_map}
use Rattle.circular_buffer.specs.Buffer.{keep_last, last_item}
use Rattle.port_meters.specs.declared.counters.Counters.{Counters}
use Rattle.receipts.specs.declared.view.View.{View}
use Rattle.admin_replies.specs.declared.telling.Baseline.{Baseline}
use Rattle.admin_replies.specs.declared.sample.Sample.{Sample}
use Rattle.admin_replies.specs.Numbers.{events_since, counts_told}

-- what is kept of a broker that is seen so
abbrev pub sample_told : Baseline → View → Counters → (written at elapsed steps : ℕ) → Sample
sample_told baseline view counters written at elapsed steps = record {
  at = at;
  counts = counts_told elapsed steps (events_since baseline view.hall.tally.census view.counters) counters;
  collected = view.counters.collected;
  waiting = min (view.hall.tally.census.waiting + view.hall.tally.census.due_again) (2 ^ 64 - 1);
  written_bytes = written;
}

-- it is of less than five seconds before, by the clock that nobody sets
abbrev pub is_recent : Option Sample → (at : ℕ) → Bool
is_recent None at = false
is_recent (Some last) at = nat_le last.counts.at at && nat_lt (at - last.counts.at) 5000

-- one more is kept, unless the last one is recent, and the last sixty of all
abbrev pub noted : List Sample → Sample → List Sample
noted samples sample =
    if is_recent (last_item samples) sample.counts.at then samples else keep_last 60 (samples ++ sample ∷ [])

-- ## Their text

unfoldable pub history_begin : List ℕ
history_begin =
    codes "at,accepted,started,succeeded,failed,ended,collected,waiting,refused_full,refused_busy,commits,commit_microseconds,written_bytes\n"

-- the numbers of a sample in that order, behind the moment
unfoldable pub numbers_in : Sample → List ℕ
numbers_in s =
    s.counts.accepted ∷ s.counts.started ∷ s.counts.succeeded ∷ s.counts.failed ∷ s.counts.ended ∷ s.collected ∷ s.waiting
    ∷ s.counts.refused_full ∷ s.counts.refused_busy ∷ s.counts.commits ∷ s.counts.commit_microseconds ∷ s.written_bytes ∷ []

abbrev pub number_text : ℕ → List ℕ
number_text number = codes "," ++ decimal number

-- a line
unfoldable pub sample_text : Sample → List ℕ
sample_text s = decimal s.at ++ (flat_map number_text (numbers_in s) ++ codes "\n")

abbrev pub history_text : List Sample → List ℕ
history_text samples = history_begin ++ flat_map sample_text samples
