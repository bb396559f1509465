use Rattle.std.specs.Prelude.{◌≤◌}
use Rattle.http_port.proofs.header_filter.HeaderFilter.take_all.Given as goal

abbrev pub invariant-loop-at : goal.invariant-loop-at
invariant-loop-at l = l.read ≤ l.at
