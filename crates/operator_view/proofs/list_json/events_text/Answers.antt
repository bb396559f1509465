use Rattle.std.proofs.Common.{get_or, refl, sym, append_assoc}
use Rattle.operator_view.specs.ListText.{text_at}
use Rattle.operator_view.proofs.Joining.{joined-more}
use Rattle.operator_view.proofs.list_json.events_text.Goals as goal

pub loop-index-preserved : goal.loop-index-preserved
loop-index-preserved c =
    let i = c.loop-index.index in
    let places = c.args.places.now in
    rw (c.in_ok-put_event.ensures, c.in_ok-put_separator.ensures, c.loop-index.invariant, append_assoc)
    (sym (joined-more (text_at c.args.rows.now) places i (get_or places i 0) c.loop-index-test.true refl))
