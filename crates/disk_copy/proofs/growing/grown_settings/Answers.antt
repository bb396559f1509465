use Rattle.disk_copy.proofs.Changes.{allows_all}
use Rattle.disk_copy.proofs.growing.grown_settings.Goals as goal

pub returns-clause-allows : goal.returns-clause-allows
returns-clause-allows c =
    allows_all c.args.old.now c.in_ok-new.new c.args.change.now c.in_ok-new.ensures c.in_ok-check_change.ensures.granted
