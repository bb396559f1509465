use Rattle.std.proofs.Common.{rules, ◌≡◌, length}
use Rattle.receipts.proofs.finishing.have_each_number.Goals as goal

pub returns-then-desks-count : goal.returns-then-desks-count
returns-then-desks-count g c =
    let size : length c.args.desks.now ≡ c.args.count = search rules in
    (λ t. (size, c.has_each_once.ensures.0 t), λ all. c.has_each_once.ensures.1 all.1)
