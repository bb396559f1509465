use Rattle.checkpoint.proofs.Refusals.{reads_more}
use Rattle.checkpoint.proofs.opening.read_both.Goals as goal

pub returns-clause-reads : goal.returns-clause-reads
returns-clause-reads g c = reads_more c.read_opened.ensures.reads c.read_opened-2.ensures.reads

pub returns-clause-exact : goal.returns-clause-exact
returns-clause-exact g c honest =
    let mid = c.read_opened.ensures.reads in
    let beside = rw (mid.untouched honest).content at c.in_ok-read_opened.ensures.exact (mid.same.honest.1 honest) in
    record { first = c.in_ok-opened.ensures.exact honest; beside = beside.image; beside_reads = beside.reads }
