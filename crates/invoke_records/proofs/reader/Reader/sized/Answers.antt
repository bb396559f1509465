use Rattle.invoke_records.proofs.Steps.{sized_read}
use Rattle.invoke_records.proofs.reader.Reader.sized.Goals as goal

pub returns : goal.returns
returns c = rw (c.refuse-2.ensures, c.refuse.ensures) (sized_read c.args.least c.args.most c.args.self.now c.u32-n.result c.u32-n.new.self c.u32-n.ensures)
