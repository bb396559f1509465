use Rattle.std.proofs.Common.{arith}
use Rattle.std.proofs.lemmas.List.Sums.{count_by-le-length}
use Rattle.env_phase.specs.Steps.{is_parked_at}
use Rattle.env_phase.proofs.env.Env.parked.Goals as goal

pub overflow_add-result : goal.overflow_add-result
overflow_add-result c = omega (arith, count_by-le-length is_parked_at c.deref.result.now)
