use Rattle.invoke_records.proofs.Steps.{head_read}
use Rattle.invoke_records.proofs.command_reading.read_head.Goals as goal

pub returns : goal.returns
returns c =
    head_read c.args.reader.now c.byte-byte.new.self c.array-id.new.self c.u16-environment.new.self c.u64-time.new.self c.u32-size.new.self c.kind_of-kind.new.reader c.byte-byte.result
    (record { kind = c.kind_of-kind.result; id = c.array-id.result; environment = c.u16-environment.result; time = c.u64-time.result; size = c.u32-size.result })
    c.byte-byte.ensures c.array-id.ensures c.u16-environment.ensures c.u64-time.ensures c.u32-size.ensures c.kind_of-kind.ensures
