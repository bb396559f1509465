use Rattle.std.proofs.Common.{rules, sym, ◌∙◌}
use Rattle.broker_core.specs.Broker.{settings_of}
use Rattle.broker_core.specs.IssuerBroker.{issuer_of}
use Rattle.receipts.proofs.AllThere.{few_desks}
use Rattle.receipts.proofs.Running.{runs_at_first}
use Rattle.receipts.proofs.office.Office.new.Goals as goal

pub make_desks-made-requires-clause-few : goal.make_desks-made-requires-clause-few
make_desks-made-requires-clause-few g c = few_desks (settings_of c.args.hall.issuer) _ c.args.hall.issuer.good.check (search rules)

pub new-locked-requires-clause-runs : goal.new-locked-requires-clause-runs
new-locked-requires-clause-runs g c =
    let split = c.in-Ok-split.ensures.ok in
    ∣ runs_at_first (issuer_of g.D.Disk.view) (settings_of c.args.hall.issuer) c.args.hall c.in-Ok-split.hall _ c.requires.fresh
    c.in-Ok-split.ensures.parts split.settings (split.table ∙ sym c.in-Ok.ensures.opening) split.pending ∣₁
