use Rattle.std.specs.Int.{w32}
use Rattle.invoke_records.proofs.Steps.{limit_read}
use Rattle.invoke_records.proofs.reader.Reader.limit32.Goals as goal

pub returns : goal.returns
returns c = rw (c.refuse-2.ensures, c.refuse.ensures) (limit_read w32 c.args.least c.args.most c.args.self.now c.u32-n.result c.u32-n.new.self c.u32-n.ensures)
