use Rattle.std.proofs.Common.{sym}
use Rattle.commit_loop.specs.Committer.{commits, skips}
use Rattle.commit_loop.proofs.committer.act.Goals as goal

pub returns-in-Commit-clause-turned : goal.returns-in-Commit-clause-turned
returns-in-Commit-clause-turned g c = (commits c.commit.ensures.0, sym c.in-Commit.is, c.commit.ensures.1)

pub returns-in-Skip-clause-turned : goal.returns-in-Skip-clause-turned
returns-in-Skip-clause-turned g c = (skips, sym c.in-Skip.is, c.skip.ensures)
