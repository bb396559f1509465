-- The row comes behind the others with its id and keys, or all is taken back.
use Rattle.std.proofs.Common.{arith}
use Rattle.async_core.proofs.HeldIds.{rows_more}
use Rattle.async_core.proofs.KeptRows.{stays_out, goes_again, comes_in}
use Rattle.async_core.proofs.held.Held.push.Goals as goal

pub invariant_of-self : goal.invariant_of-self
invariant_of-self c = stays_out _ _ _ _ _ c.self.invariant _ _ c.in_err-enter.ensures.err

pub invariant_of-self-in-Err : goal.invariant_of-self-in-Err
invariant_of-self-in-Err c = goes_again _ _ _ _ _ c.self.invariant _ _ _ _ _ c.args.row.id _ c.in-Err.ensures.err c.in_ok-enter.ensures.ok c.remove.ensures.updates c.remove_keys.ensures

pub invariant_of-self-2 : goal.invariant_of-self-2
invariant_of-self-2 c = comes_in _ _ _ _ _ c.self.invariant c.put_row.new.rows _ _ c.args.row _ _ _ c.facts_of-facts.ensures (omega (arith, c.in-Some.ensures)) c.with-tally.ensures c.in_default-put_row.ensures.ok c.in_ok-enter.ensures.ok (rows_more _ _ _ c.self.invariant.held c.put_row.new.rows c.args.row c.in_default-put_row.ensures.ok)

pub returns-clause-ok : goal.returns-clause-ok
returns-clause-ok c = rw (← c.self.view_is) ((rows_more _ _ _ c.self.invariant.held c.put_row.new.rows c.args.row c.in_default-put_row.ensures.ok))
