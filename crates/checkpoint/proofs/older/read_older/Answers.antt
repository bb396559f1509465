use Rattle.checkpoint.proofs.Sides.{is_older_of}
use Rattle.checkpoint.proofs.older.read_older.Goals as goal

pub returns-clause-live : goal.returns-clause-live
returns-clause-live g c honest table =
    is_older_of (g.D.Disk.view c.args.disk.now) c.args.opened.now table c.read_parts.result (g.met.D.Disk.laws c.args.disk.now honest).size c.requires.least
    (rw (c.other_base.ensures, c.sectors-half.ensures) at c.read_parts.ensures.exact honest) (rw (c.other_base.ensures, c.sectors-half.ensures) at c.read_parts.ensures.refused honest)
