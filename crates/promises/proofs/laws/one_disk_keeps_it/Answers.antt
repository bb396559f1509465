use Rattle.promises.specs.laws.Disks.{broker_leaves, leaves_event}
use Rattle.broker_core.specs.Broker.{settings_of}
use Rattle.promises.specs.Promises.{issued}
use Rattle.promises.proofs.laws.one_disk_keeps_it.Goals as goal

pub returns : goal.returns
returns g c =
    let view = g.D.Disk.view in
    let broker = c.args.broker.now in
    record {
      leaves = λ point history later image goes le stands honest may. broker_leaves view broker point history later honest image may goes le stands;
      keeps = λ s t id payload image later was goes le stands honest may.
          leaves_event s (settings_of broker) t id payload image was
          (broker_leaves view broker t.point (issued s t) later honest image may goes le stands);
    }
