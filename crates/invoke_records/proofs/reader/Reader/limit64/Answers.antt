use Rattle.std.specs.Int.{w64}
use Rattle.invoke_records.proofs.Steps.{limit_read}
use Rattle.invoke_records.proofs.reader.Reader.limit64.Goals as goal

pub returns : goal.returns
returns c = rw (c.refuse-2.ensures, c.refuse.ensures) (limit_read w64 c.args.least c.args.most c.args.self.now c.u64-n.result c.u64-n.new.self c.u64-n.ensures)
