-- Each row against what was seen of those before it.
use Rattle.std.proofs.Common.{◌≡◌, ◌+◌, ◌≤◌, ◌∷◌, true, drop, ◌∙◌, sym, ap, arith}
use Rattle.std.specs.Prelude.{not}
use Rattle.std.proofs.lemmas.List.{at_drop_more}
use Rattle.std.specs.BTreeSet.{contains}
use Rattle.std.specs.Ordering.{nat_cmp}
use Rattle.std.specs.Cmp.Lexicographic.{slice_cmp}
use Rattle.invoke_records.specs.declared.row.EventRow.{EventRow}
use Rattle.invoke_records.proofs.Orders.{go_on, go_on-first, go_on-next}
use Rattle.invoke_records.proofs.order.are_in_order_by_set.Goals as goal

pub loop-row-init : goal.loop-row-init
loop-row-init c = go_on-first c.new-seen.result c.new-seen.ensures.empty c.args.rows.now

pub loop-row-preserved : goal.loop-row-preserved
loop-row-preserved c =
    let r : EventRow = c.row-item.result in
    let rest = drop (c.loop-row.row-index + 1) c.args.rows.now in
    let from : c.loop-row.least ≤ r.number = omega (arith, c.if-from-least.false, c.from.ensures) in
    let new : not (contains (slice_cmp nat_cmp) c.loop-row.seen r.id) ≡ true = sym c.in_ok-is_new.ensures.added ∙ c.if-not-is_new.false in
    let front =
    at_drop_more (go_on c.loop-row.least c.loop-row.seen) c.args.rows.now c.loop-row.row-index r c.loop-row-test.true
    ∙ ap (λ (x : EventRow). go_on c.loop-row.least c.loop-row.seen (x ∷ rest)) (sym c.row-item.is) in
    rw c.from-least.ensures
    (sym (front ∙ go_on-next c.loop-row.least c.loop-row.seen c.insert.new.self r from c.in_ok-is_new.ensures.updates rest new) ∙ c.loop-row.invariant)
