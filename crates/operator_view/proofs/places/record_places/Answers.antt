use Rattle.std.proofs.Common.{sym, ◌∙◌}
use Rattle.std.proofs.Common.{ℕ}
use Rattle.invoke_records.specs.declared.row.EventRow.{EventRow}
use Rattle.operator_view.specs.Page.{is_record}
use Rattle.operator_view.proofs.Passing.{places_where-kept, places_where-left}
use Rattle.operator_view.proofs.places.record_places.Goals as goal
use Rattle.operator_view.proofs.places.record_places.Goals.{then-is_record+in_ok-push, else-is_record}

pub loop-place-preserved : goal.loop-place-preserved
loop-place-preserved c =
    elim c.if-is_record.branch [
      | then-is_record+in_ok-push w ↦
          rw (w.places-is, w.in_ok-push.ensures.items)
          (places_where-kept (λ (place : ℕ) (r : EventRow). is_record c.args.side c.args.behind r) c.args.rows.now c.loop-place.place c.index-rows-place.result c.loop-place.places.items c.loop-place-test.true c.index-rows-place.is (sym c.is_record.ensures ∙ w.if-is_record.true) c.loop-place.invariant)
      | else-is_record w ↦
          rw w.places-is
          (places_where-left (λ (place : ℕ) (r : EventRow). is_record c.args.side c.args.behind r) c.args.rows.now c.loop-place.place c.index-rows-place.result c.loop-place.places.items c.loop-place-test.true c.index-rows-place.is (sym c.is_record.ensures ∙ w.if-is_record.false) c.loop-place.invariant)
    ]
