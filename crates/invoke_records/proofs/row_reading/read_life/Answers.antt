use Rattle.invoke_records.proofs.Steps.{life_read}
use Rattle.invoke_records.proofs.row_reading.read_life.Goals as goal

pub returns : goal.returns
returns c =
    life_read c.args.reader.now c.array.new.self c.limit64.new.self c.u64.new.self c.u64-2.new.self c.small.new.self c.small-2.new.self c.limit16.new.self c.u64-3.new.self
    (record { id = c.array.result; accepted = c.limit64.result; number = c.u64.result; last_number = c.u64-2.result; standing = c.small.result; outcome = c.small-2.result; environment = c.limit16.result; moment = c.u64-3.result })
    c.array.ensures c.limit64.ensures c.u64.ensures c.u64-2.ensures c.small.ensures c.small-2.ensures c.limit16.ensures c.u64-3.ensures
