use Rattle.broker_core.specs.Splitting.{broker_of}
use Rattle.receipts.specs.laws.Serving.{served_at_first, served_both, served_more, served_advanced}
use Rattle.receipts.proofs.laws.a_serving_is_its_commits.Goals as goal

pub returns : goal.returns
returns g c =
    let view = g.D.Disk.view in
    let count = g.D.Disk.fault_count in
    let laws = g.met.D.Disk.laws in
    let first = broker_of c.args.first.now in
    let then = broker_of c.args.then.now in
    let last = broker_of c.args.last.now in
    record {
      none = served_at_first view laws count first;
      more = served_more view laws count first then last c.args.told.now;
      advanced = served_advanced view laws count first then last c.args.told.now;
      both = served_both view count first then last;
    }
