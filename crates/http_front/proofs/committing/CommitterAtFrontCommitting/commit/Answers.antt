use Rattle.front_board.specs.Seated.{seen_by}
use Rattle.receipts.specs.Broken.{is_last}
use Rattle.http_front.specs.laws.Learned.{learned_commit}
use Rattle.http_front.proofs.committing.CommitterAtFrontCommitting.commit.Goals as goal

pub returns : goal.returns
returns g c = (
  learned_commit (λ refused. is_last refused.why) c.args.self.now.committer.desk.told c.commit_some-committed.new.desk.told (seen_by c.args.self.now.committer.seated)
      c.commit_some-committed.result c.commit_some-committed.ensures.told c.commit_some-committed.ensures.later,
  c.commit_some-committed.ensures.served,
)
