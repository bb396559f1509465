-- The numbers of some events at a moment.
use Rattle.std.specs.Prelude.{◌≡◌, ℕ, List, count_by}
use Rattle.invoke_records.specs.declared.row.EventRow.{EventRow}
use Rattle.operator_view.specs.declared.numbers.Tally.{Tally}
use Rattle.operator_view.specs.Census.{IsCensus, oldest_waiting, ends, least}
use Rattle.operator_view.specs.Waiting.{deadlines, dues, is_due, expires_soon}

-- the numbers of these events at this moment
pub record IsTally (rows : List EventRow) (at : ℕ) (tally : Tally) : Type 0 where
  pub census : IsCensus rows tally.census
  pub oldest_waiting : tally.oldest_waiting ≡ oldest_waiting rows
  pub oldest_record : tally.oldest_record ≡ least (ends rows)
  pub first_due : tally.first_due ≡ least (dues rows)
  pub due : tally.due ≡ count_by (is_due at) rows
  pub expiring : tally.expiring ≡ count_by (expires_soon at) rows
  pub first_deadline : tally.first_deadline ≡ least (deadlines rows)
