use Rattle.promises.specs.laws.Copies.{migrated_leaves, copied_leaves}
use Rattle.disk_copy.specs.laws.Histories.{table_of-same}
use Rattle.promises.proofs.laws.a_new_disk_goes_on.Goals as goal

pub returns : goal.returns
returns g c =
    let old = g.D.Disk.view c.args.old.now in
    let new = g.E.Disk.view c.args.new.now in
    record {
      migrated = λ migration point history later image goes is may. migrated_leaves old new migration point history later image goes is may;
      copied = λ s now point history later image copied goes may. copied_leaves new s now point history later image copied goes may;
      tables = λ s now history allows. table_of-same s now allows history;
    }
