use Rattle.invoke_records.proofs.Steps.{given_policy}
use Rattle.invoke_records.proofs.reader.Reader.policy_in.Goals as goal

pub returns-in-One : goal.returns-in-One
returns-in-One c = rw c.in-One.is (given_policy c.in-One.policy c.args.self.now)
