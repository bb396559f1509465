use Rattle.hall_core.proofs.seeking.numbers_for.Goals as goal

pub returns-in-Event-clause-counts : goal.returns-in-Event-clause-counts
returns-in-Event-clause-counts c = rw c.in-Event.is (c.no_tally.ensures.counts c.args.at)

pub returns-in-Ended-clause-counts : goal.returns-in-Ended-clause-counts
returns-in-Ended-clause-counts c = rw c.in-Ended.is (c.no_tally-in-Ended.ensures.counts c.args.at)
