use Rattle.disk_gates.proofs.Closings.{settling, ordering, closing, both_closed}
use Rattle.disk_gates.proofs.closing.close_gates.Goals as goal

pub returns-in_err-barrier-clause-moments : goal.returns-in_err-barrier-clause-moments
returns-in_err-barrier-clause-moments g c honest =
    (settling g.D.Disk.view g.met.D.Disk.laws c.args.disk.now c.barrier.new.self honest _ c.barrier.ensures.same c.barrier.ensures.honest).leaves

pub returns-in_err-order-clause-moments : goal.returns-in_err-order-clause-moments
returns-in_err-order-clause-moments g c honest =
    (ordering g.D.Disk.view g.met.D.Disk.laws c.args.disk.now c.barrier.new.self honest _ c.barrier.ensures.same c.barrier.ensures.honest
    c.order_of.new.disk c.order_of.ensures.reads.same c.order_of.ensures.reads.untouched).leaves

pub returns-clause-moments : goal.returns-clause-moments
returns-clause-moments g c honest =
    closing g.D.Disk.view g.met.D.Disk.laws c.args.disk.now c.barrier.new.self honest _ c.barrier.ensures.same c.barrier.ensures.honest
    c.order_of.new.disk c.order_of.ensures.reads.same c.order_of.ensures.reads.untouched
    _ (c.in_ok-order.ensures.exact (c.barrier.ensures.same.honest.1 honest)) c.close_both.new.disk (c.in_ok-barrier.ensures.honest honest).done c.close_both.ensures.moments

pub returns-clause-closed : goal.returns-clause-closed
returns-clause-closed g c honest =
    both_closed g.D.Disk.view g.met.D.Disk.laws c.args.disk.now c.barrier.new.self honest _ c.barrier.ensures.same c.barrier.ensures.honest
    c.order_of.new.disk c.order_of.ensures.reads.same c.order_of.ensures.reads.untouched
    _ (c.in_ok-order.ensures.exact (c.barrier.ensures.same.honest.1 honest)) c.close_both.new.disk (c.in_ok-barrier.ensures.honest honest).done c.requires _ c.close_both.ensures.closed
