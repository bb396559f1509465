use Rattle.invoke_records.proofs.Steps.{small_read}
use Rattle.invoke_records.proofs.reader.Reader.small.Goals as goal

pub returns : goal.returns
returns c = rw (c.refuse-2.ensures, c.refuse.ensures) (small_read c.args.least c.args.most c.args.self.now c.byte-n.result c.byte-n.new.self c.byte-n.ensures)
