use Rattle.sector_disk.specs.laws.Moments.{started}
use Rattle.broker_core.specs.Broker.{disk_of}
use Rattle.broker_core.proofs.broker.Broker.close.Goals as goal

pub returns-clause-any_moment : goal.returns-clause-any_moment
returns-clause-any_moment g c honest history stands = (started g.D.Disk.view g.met.D.Disk.laws (disk_of c.args.self) _ honest (stands.stops honest)).leaves
