-- One more is shown, behind those before it.
use Rattle.std.proofs.Common.{◌≡◌, ℕ, ◌+◌, List, [], ◌∷◌, ◌++◌, length, length-append, Some, sym, ap, ◌∙◌, subst, arith}
use Rattle.invoke_records.specs.declared.row.EventRow.{EventRow}
use Rattle.async_core.specs.declared.choice.Order.TheVariants as order
use Rattle.async_core.specs.Choice.{IsChosen}
use Rattle.hall_core.specs.Seeking.{last_of}
use Rattle.hall_core.proofs.FirstEnded.{next_more, last_more}
use Rattle.hall_core.proofs.seeking.first_ended.Goals as goal

one_longer : (shown : List EventRow) (r : EventRow) (n : ℕ) → length shown ≡ n → length (shown ++ r ∷ []) ≡ n + 1
one_longer shown r n is = let joined : length (shown ++ r ∷ []) ≡ length shown + 1 = length-append shown (r ∷ []) in omega (arith, joined, is)

pub loop-preserved : goal.loop-preserved
loop-preserved c =
    let rows = c.args.table.now.table.rows in
    let shown = c.loop.shown.items in
    let r : EventRow = c.in-Some.row.now in
    let more : c.push.new.self.items ≡ shown ++ r ∷ [] = c.in_ok-push.ensures.items ∙ ap (λ (x : EventRow). shown ++ x ∷ []) c.in_ok-copy.ensures in
    let chosen : IsChosen (order.EndedBehind c.args.side (last_of 0 shown)) rows (Some r) =
    subst (λ n. IsChosen (order.EndedBehind c.args.side n) rows (Some r)) (sym c.loop.invariant.1) c.in-Some.ensures.by_row in
    rw more (next_more c.args.side rows r 0 shown c.loop.invariant.0 chosen, last_more c.args.side rows r 0 shown, one_longer shown r c.loop.counter c.loop.invariant.2)
