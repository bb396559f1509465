use Rattle.promises.specs.laws.Answers202.{accepts}
use Rattle.promises.proofs.laws.a_202_without_a_body_accepts.Goals as goal

pub returns : goal.returns
returns c = accepts
