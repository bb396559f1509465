-- One more of the first that ended.
use Rattle.std.proofs.Common.{◌≡◌, ℕ, List, [], ◌∷◌, ◌++◌, Some, refl}
use Rattle.invoke_records.specs.declared.row.EventRow.{EventRow}
use Rattle.async_core.specs.declared.choice.Side.{Side}
use Rattle.async_core.specs.declared.choice.Order.TheVariants as order
use Rattle.async_core.specs.Choice.{IsChosen}
use Rattle.hall_core.specs.Seeking.{AreNextEnded, last_of}

module _ (side : Side) (rows : List EventRow) (r : EventRow) where
  pub next_more : (behind : ℕ) (shown : List EventRow) → AreNextEnded side behind rows shown → IsChosen (order.EndedBehind side (last_of behind shown)) rows (Some r) → AreNextEnded side behind rows (shown ++ r ∷ [])
  next_more behind [] each next = (next, tt)
  next_more behind (x ∷ shown) each next = (each.0, next_more x.last_number shown each.1 next)

  pub last_more : (behind : ℕ) (shown : List EventRow) → last_of behind (shown ++ r ∷ []) ≡ r.last_number
  last_more behind [] = refl
  last_more behind (x ∷ shown) = last_more x.last_number shown
