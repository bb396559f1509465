use Rattle.operator_view.proofs.Told.{HasTold}
use Rattle.operator_view.proofs.lines.record_lines.Given as goal

abbrev pub invariant-loop-index : goal.invariant-loop-index
invariant-loop-index l = HasTold l.settings l.rows l.places l.most l.index l.text.items
