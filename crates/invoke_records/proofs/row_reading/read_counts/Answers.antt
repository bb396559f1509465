use Rattle.invoke_records.proofs.Steps.{counts_read}
use Rattle.invoke_records.proofs.row_reading.read_counts.Goals as goal

pub returns : goal.returns
returns c =
    counts_read c.args.version c.args.reader.now c.u32.new.self c.u32-2.new.self c.u32-3.new.self c.small.new.self c.policy_in.new.self c.sized.new.self c.sized-2.new.self
    (record { starts = c.u32.result; failures = c.u32-2.result; push_backs = c.u32-3.result; answer = c.small.result; policy = c.policy_in.result; payload_size = c.sized.result; answer_size = c.sized-2.result })
    c.u32.ensures c.u32-2.ensures c.u32-3.ensures c.small.ensures c.policy_in.ensures (rw c.most_payload.ensures at c.sized.ensures) c.sized-2.ensures
