use Rattle.std.proofs.Common.{◌≡◌, ◌+◌, ◌<◌, ◌≤◌, length, rules}
use Rattle.operator_view.proofs.Told.{HasTold-more, Tells-until}
use Rattle.operator_view.proofs.lines.record_lines.Goals as goal

pub loop-index-preserved : goal.loop-index-preserved
loop-index-preserved c =
    let i = c.loop-index.index in
    let text = c.loop-index.text.items in
    let line = c.in_ok-line.line.items in
    let told : c.len.result ≡ length text = search rules in
    let longer : c.len-in-loop-index.result ≡ length line = search rules in
    let room : 0 < i → length text + length line ≤ c.args.most = λ later. rw (← told, ← longer) (c.if-not-has_room.ensures.yes later) in
    rw (c.in_ok-extend_from_slice.ensures.items, c.as_slice.ensures.value)
    (HasTold-more c.args.settings.now c.args.rows.now c.as_slice-places.result.now c.args.most i text line c.loop-index-test.true c.loop-index.invariant c.in_ok-line.ensures room)

pub returns-then-not-has_room : goal.returns-then-not-has_room
returns-then-not-has_room c =
    let i = c.loop-index.index in
    let text = c.loop-index.text.items in
    let line = c.in_ok-line.line.items in
    let told : c.len.result ≡ length text = search rules in
    let longer : c.len-in-loop-index.result ≡ length line = search rules in
    let same = c.as_slice-places.ensures.value in
    let long : c.args.most < length text + length line = rw (← told, ← longer) c.if-not-has_room.ensures.no.1 in
    Tells-until c.args.settings.now c.args.rows.now c.args.page.now c.args.most i text line c.last_id.result (rw same at c.loop-index-test.true) (rw same at c.loop-index.invariant) (rw same at c.in_ok-line.ensures)
    c.if-not-has_room.ensures.no.0 long (rw same at c.last_id.ensures)
