use Rattle.std.proofs.Common.{refl}
use Rattle.checkpoint.proofs.Puts.{puts_as, zeros_ending}
use Rattle.checkpoint.proofs.pieces.Pieces.put_ending.Goals as goal

pub returns-clause-puts : goal.returns-clause-puts
returns-clause-puts g c = puts_as (zeros_ending c.args.size _ (rw c.sectors_for.ensures refl)) c.put.ensures.puts
