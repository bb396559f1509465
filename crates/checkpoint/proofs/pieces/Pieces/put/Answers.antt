use Rattle.std.proofs.Common.{◌++◌, ℕ, List, take, drop, ◌∙◌, ap, arith, length-drop}
use Rattle.std.proofs.lemmas.List.{take_rest}
use Rattle.checkpoint.proofs.Puts.{puts_more, puts_as, cause_more, taken, bytes_to}
use Rattle.checkpoint.proofs.pieces.Pieces.put.Goals as goal

pub loop-done-preserved : goal.loop-done-preserved
loop-done-preserved g c =
    let bytes = c.args.bytes.now in
    let done = c.loop-done.done in
    let count = c.fill-done.result in
    let more = taken g.D.Disk.view g.met.D.Disk.laws c.make_room.new.disk c.make_room.new.self c.fill-done.new.self (take count (drop done bytes)) (tt {0})
    c.fill-done.ensures.first c.fill-done.ensures.last c.fill-done.ensures.at
    (c.fill-done.ensures.piece ∙ ap (λ (l : List ℕ). c.make_room.new.self.piece.items ++ take count l) (take_rest bytes done)) in
    record {
      within = omega (arith, c.fill-done.ensures.within, c.loop-done.invariant.within, length-drop done bytes);
      puts = puts_as (bytes_to bytes done count) (puts_more _ (puts_more _ c.loop-done.invariant.puts c.in_ok-make_room.ensures.puts) more);
      cause = cause_more _ c.loop-done.invariant.cause c.in_ok-make_room.ensures.cause;
    }
