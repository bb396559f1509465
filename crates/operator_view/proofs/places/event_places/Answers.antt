use Rattle.std.proofs.Common.{sym, ◌∙◌}
use Rattle.operator_view.specs.Page.{is_asked}
use Rattle.operator_view.proofs.Passing.{places_where-kept, places_where-left}
use Rattle.operator_view.proofs.places.event_places.Goals as goal
use Rattle.operator_view.proofs.places.event_places.Goals.{then-is_asked+in_ok-push, else-is_asked}

pub loop-place-preserved : goal.loop-place-preserved
loop-place-preserved c =
    elim c.if-is_asked.branch [
      | then-is_asked+in_ok-push w ↦
          rw (w.places-is, w.in_ok-push.ensures.items)
          (places_where-kept (is_asked c.args.which c.args.start) c.args.rows.now c.loop-place.place c.index-rows-place.result c.loop-place.places.items c.loop-place-test.true c.index-rows-place.is (sym c.is_asked.ensures ∙ w.if-is_asked.true) c.loop-place.invariant)
      | else-is_asked w ↦
          rw w.places-is
          (places_where-left (is_asked c.args.which c.args.start) c.args.rows.now c.loop-place.place c.index-rows-place.result c.loop-place.places.items c.loop-place-test.true c.index-rows-place.is (sym c.is_asked.ensures ∙ w.if-is_asked.false) c.loop-place.invariant)
    ]
