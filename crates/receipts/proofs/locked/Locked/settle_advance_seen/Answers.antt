use Rattle.std.proofs.Common.{◌∙◌}
use Rattle.receipts.proofs.locked.Locked.settle_advance_seen.Goals as goal

pub returns-clause-settles : goal.returns-clause-settles
returns-clause-settles g c =
    rw (c.of_step.ensures.seen.before_is, c.of-before.ensures, c.of_step.ensures.seen.after_is, c.of_step.ensures.seen.from_is, c.of-from.ensures, c.of_step.ensures.seen.to_is) c.settle_advance-settled.ensures

pub returns-clause-seen : goal.returns-clause-seen
returns-clause-seen g c = record {
  before_is = c.of_step.ensures.seen.before_is ∙ c.of-before.ensures;
  after_is = c.of_step.ensures.seen.after_is;
  from_is = c.of_step.ensures.seen.from_is ∙ c.of-from.ensures;
  to_is = c.of_step.ensures.seen.to_is;
}
