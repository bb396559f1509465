use Rattle.checkpoint.proofs.Refusals.{reads_more}
use Rattle.checkpoint.proofs.older.read_parts.Goals as goal

pub returns-clause-reads : goal.returns-clause-reads
returns-clause-reads g c = reads_more c.open_header.ensures.reads c.read_opened.ensures.reads
