use Rattle.invoke_records.proofs.Steps.{policy_read}
use Rattle.invoke_records.proofs.reader.Reader.policy.Goals as goal

pub returns : goal.returns
returns c =
    policy_read c.args.self.now c.small.new.self c.limit32.new.self (record { retries = c.small.result; age = c.limit32.result }) c.small.ensures c.limit32.ensures
