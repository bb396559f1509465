-- How many steps a desk made under the lock of its office.
use Rattle.std.specs.Prelude.{◌+◌, ◌%◌, ◌^◌}
use Rattle.receipts.specs.declared.desk.Steps.{Steps}

-- what a look has, and a desk at first
abbrev pub no_steps : Steps
no_steps = record { count = 0; moves = 0 }

-- one more, modulo 2^64
unfoldable pub after_step : Steps → Steps
after_step steps = record { count = (steps.count + 1) % 2 ^ 64; moves = steps.moves }

-- one more, which was to make a move
unfoldable pub after_move : Steps → Steps
after_move steps = let one = after_step steps in record { count = one.count; moves = (one.moves + 1) % 2 ^ 64 }
