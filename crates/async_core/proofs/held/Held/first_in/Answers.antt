-- The first key's row.
use Rattle.std.proofs.Common.{sym}
use Rattle.std.specs.Option.{option_copied}
use Rattle.async_core.proofs.KeptRows.{no_row, no_row_outside, first_row}
use Rattle.async_core.proofs.held.Held.first_in.Goals as goal

pub returns-in_default : goal.returns-in_default
returns-in_default c = rw (← c.self.view_is) (no_row _ _ _ _ _ c.self.invariant c.args.index c.args.low c.args.last c.in_default.ensures)

pub returns-then-not-is_within : goal.returns-then-not-is_within
returns-then-not-is_within c = rw (← c.self.view_is) (no_row_outside _ _ _ _ _ c.self.invariant c.args.index c.args.low c.args.last c.in-Some.first c.in-Some.ensures (sym c.if-not-is_within.ensures))

pub returns : goal.returns
returns c = rw (← c.self.view_is) (first_row _ _ _ _ _ c.self.invariant c.args.index c.args.low c.args.last c.in-Some.first c.in-Some.ensures (sym c.if-not-is_within.ensures) (option_copied c.get.result) c.get.ensures.value)
