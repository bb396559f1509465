use Rattle.std.proofs.Common.{◌≡◌, take}
use Rattle.operator_view.specs.Page.{record_places}
use Rattle.operator_view.proofs.places.record_places.Given as goal

abbrev pub invariant-loop-place : goal.invariant-loop-place
invariant-loop-place l = l.places.items ≡ record_places l.side l.behind (take l.place l.rows)
