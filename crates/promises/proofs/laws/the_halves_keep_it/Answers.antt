use Rattle.std.proofs.Common.{arith}
use Rattle.broker_core.specs.Broker.{settings_of}
use Rattle.broker_core.specs.IssuerHalf.{half_view}
use Rattle.broker_core.specs.Splitting.{broker_of}
use Rattle.promises.specs.Promises.{issued}
use Rattle.promises.specs.laws.Disks.{half_leaves, leaves_event}
use Rattle.promises.proofs.laws.the_halves_keep_it.Goals as goal

pub returns : goal.returns
returns g c =
    let view = g.D.Disk.view in
    let half = half_view c.args.issue.now in
    let broker = broker_of c.args.disk.now in
    record {
      leaves = λ point history later image goes le behind honest may.
          half_leaves view broker point history later honest image may half.settings goes (omega (arith, le, behind.durable)) behind.front;
      keeps = λ s t id payload image later was goes le behind honest may.
          leaves_event s (settings_of broker) t id payload image was
          (half_leaves view broker t.point (issued s t) later honest image may half.settings goes (omega (arith, le, behind.durable)) behind.front);
    }
