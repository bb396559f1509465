use Rattle.std.proofs.Common.{ap, ◌++◌}
use Rattle.std.proofs.lemmas.List.{drop-replicate}
use Rattle.signed_requests.proofs.hmac.with_zeros.Goals as goal

pub returns : goal.returns
returns c = rw (c.copy_from_slice.ensures.after) (ap (λ rest. c.args.key.now ++ rest) (drop-replicate _ 64 0))
