use Rattle.checkpoint.specs.Pieces.{StandsFrom, parts_text}
use Rattle.checkpoint.proofs.Rewrites.{one_within, leaves_settled, rewritten}
use Rattle.checkpoint.proofs.switching.write_parts.Goals as goal

pub returns-in_err-write_segment-clause-any_moment : goal.returns-in_err-write_segment-clause-any_moment
returns-in_err-write_segment-clause-any_moment g c honest settled =
    let old = g.D.Disk.view c.args.disk.now in
    (c.write_segment.ensures.any_moment honest old.content (one_within old c.args.first c.args.last settled)).0

pub returns-clause-any_moment : goal.returns-clause-any_moment
returns-clause-any_moment g c honest settled =
    let old = g.D.Disk.view c.args.disk.now in
    let within = c.write_segment.ensures.any_moment honest old.content (one_within old c.args.first c.args.last settled) in
    leaves_settled g.D.Disk.view g.met.D.Disk.laws c.args.disk.now c.write_segment.new.disk c.barrier.new.self honest c.args.first c.args.last c.write_segment.ensures.same within
    c.barrier.result c.barrier.ensures.same c.barrier.ensures.honest

pub returns-clause-written : goal.returns-clause-written
returns-clause-written g c honest settled =
    let old = g.D.Disk.view c.args.disk.now in
    let within = c.write_segment.ensures.any_moment honest old.content (one_within old c.args.first c.args.last settled) in
    rewritten g.D.Disk.view g.met.D.Disk.laws c.args.disk.now c.write_segment.new.disk c.barrier.new.self honest c.args.first c.args.last c.write_segment.ensures.same within
    c.barrier.result c.barrier.ensures.same c.barrier.ensures.honest (StandsFrom c.args.first (parts_text c.args.header.now c.args.snapshot.now))
    (c.in_ok-write_segment.ensures.written honest)
