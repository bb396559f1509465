use Rattle.std.proofs.Common.{◌≡◌, map, ◌++◌, take, drop}
use Rattle.aged_copy.specs.AgingSteps as step
use Rattle.aged_copy.proofs.aging.lengthen_rows.Given as goal

-- the rows before the place are done
abbrev pub invariant-loop-row : goal.invariant-loop-row
invariant-loop-row l =
    map (step.doubled_row l.age) l.fn.rows ≡ take l.row-index l.rows ++ map (step.doubled_row l.age) (drop l.row-index l.rows)
