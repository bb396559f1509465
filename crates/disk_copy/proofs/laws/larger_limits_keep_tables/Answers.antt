use Rattle.disk_copy.specs.laws.Tables.{may_stand-kept}
use Rattle.disk_copy.proofs.laws.larger_limits_keep_tables.Goals as goal

pub returns : goal.returns
returns c old new table allows stands = may_stand-kept old new allows table stands
