use Rattle.std.specs.Int.{w16}
use Rattle.invoke_records.proofs.Steps.{limit_read}
use Rattle.invoke_records.proofs.reader.Reader.limit16.Goals as goal

pub returns : goal.returns
returns c = rw (c.refuse-2.ensures, c.refuse.ensures) (limit_read w16 c.args.least c.args.most c.args.self.now c.u16-n.result c.u16-n.new.self c.u16-n.ensures)
