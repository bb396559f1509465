use Rattle.std.proofs.Common.{ap, ◌∙◌}
use Rattle.signed_requests.specs.Canonical.{in_order}
use Rattle.signed_requests.proofs.Sorting.{in_order_once}
use Rattle.signed_requests.proofs.query.ordered_pairs.Goals as goal

pub returns : goal.returns
returns c =
    in_order_once c.in_ok-pairs.pairs.items c.sort.new.self.items c.sort.ensures.permutation c.in_ok-sort.ensures.sorted
    ∙ ap in_order c.in_ok-pairs.ensures
