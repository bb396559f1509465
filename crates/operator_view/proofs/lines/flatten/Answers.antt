use Rattle.std.proofs.Common.{◌<◌, length, arith, refl, get_or}
use Rattle.std.proofs.lemmas.List.{get_or_default}
use Rattle.std.proofs.lemmas.List.Edits.{map_over_more}
use Rattle.operator_view.specs.Lines.{flat}
use Rattle.operator_view.proofs.lines.flatten.Goals as goal

pub loop-place-preserved : goal.loop-place-preserved
loop-place-preserved c =
    let old = c.args.text.now in
    let text = c.loop-place.text in
    let place = c.loop-place.place in
    let byte = get_or text place 0 in
    let within : place < length text = omega arith in
    (refl, rw c.flat.ensures (map_over_more flat old text place byte (omega arith) c.loop-place.invariant.1 (get_or_default text place 0 byte within)))
