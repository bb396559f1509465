use Rattle.std.proofs.Common.{below_more, sym, ◌∙◌}
use Rattle.resized_disk.proofs.searching.first_in.Goals as goal

pub loop-place-preserved : goal.loop-place-preserved
loop-place-preserved c = below_more _ _ c.loop-place.invariant (sym c.is_found.ensures ∙ c.if-is_found.false)
