use Rattle.promises.specs.laws.Answers202.{accepts_async}
use Rattle.promises.proofs.laws.a_202_that_says_so_accepts.Goals as goal

pub returns : goal.returns
returns c = accepts_async
