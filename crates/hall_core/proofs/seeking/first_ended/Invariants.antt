use Rattle.std.proofs.Common.{◌≡◌, length}
use Rattle.hall_core.specs.Seeking.{AreNextEnded, last_of}
use Rattle.hall_core.proofs.seeking.first_ended.Given as goal

abbrev pub invariant-loop : goal.invariant-loop
invariant-loop l =
    AreNextEnded l.side 0 l.table.table.rows l.shown.items × (last_of 0 l.shown.items ≡ l.behind) × (length l.shown.items ≡ l.counter)
