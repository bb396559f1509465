use Rattle.std.proofs.Common.{◌≡◌, take}
use Rattle.operator_view.specs.Page.{event_places}
use Rattle.operator_view.proofs.places.event_places.Given as goal

abbrev pub invariant-loop-place : goal.invariant-loop-place
invariant-loop-place l = l.places.items ≡ event_places l.which l.start (take l.place l.rows)
