-- What a request or a move of a desk leaves of the histories, whatever it answers.
use Rattle.std.proofs.Common.{ℕ, List, map, ap}
use Rattle.std.specs.Prelude.{Option, Result, Ok, Err}
use Rattle.std.specs.declared.sync.ledger.Ledger.{Ghosts as LedgerGhosts}
use Rattle.api_core.specs.declared.call.Call.{Call}
use Rattle.hall_plans.specs.declared.error.HallError.{HallError}
use Rattle.receipts.specs.declared.mark.Trace.{Ghosts as TraceGhosts}
use Rattle.receipts.specs.declared.opening.OpeningTrace.{Ghosts as OpeningGhosts}
use Rattle.receipts.specs.declared.desk.Desk.{Desk}
use Rattle.receipts.specs.declared.desk.Steps.{Steps}
use Rattle.receipts.specs.declared.locked.Locked.{Locked}
use Rattle.receipts.specs.Marks.{KeepsHistories}
use Rattle.receipts.specs.Told.{Arrives, Moves, marks_in, own_of}
use Rattle.receipts.proofs.Histories.{histories_stay}

module _ {L T O : Type 0} {l : LedgerGhosts L} {g : TraceGhosts T O} {o : OpeningGhosts O} (before after : Locked L T O l g o) (from to : Steps) (desk desk' : Desk L T O g o) where
  pub histories_arrived : (call : Call) (now : ℕ) (words : List ℕ) (result : Result (ℕ × ℕ) HallError) → Arrives before after from to desk desk' call now words result
      → KeepsHistories desk.number (marks_in before) (own_of desk) (marks_in after) (own_of desk')
  histories_arrived call now words (Ok told) arrives = arrives.histories
  histories_arrived call now words (Err why) arrives =
      histories_stay desk.number (marks_in before) (own_of desk) (marks_in after) (own_of desk') (ap (map g.mark) arrives.unmarked) (ap (map g.mark) arrives.err.0)

  pub histories_moved : (now : ℕ) (result : Result (Option ℕ) HallError) → Moves before after from to desk desk' now result
      → KeepsHistories desk.number (marks_in before) (own_of desk) (marks_in after) (own_of desk')
  histories_moved now (Ok told) moves = moves.histories
  histories_moved now (Err why) moves =
      histories_stay desk.number (marks_in before) (own_of desk) (marks_in after) (own_of desk') (ap (map g.mark) moves.unmarked) (ap (map g.mark) moves.err.0)
