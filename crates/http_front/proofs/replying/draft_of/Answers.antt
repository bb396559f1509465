use Rattle.std.proofs.Common.{◌≤◌, length, ap, arith}
use Rattle.http_port.specs.Answering.{Message, status_alone, with_more}
use Rattle.http_front.proofs.Drafting.{drafted_more, drafted_all}
use Rattle.http_front.proofs.replying.draft_of.Goals as goal

pub loop-place-init : goal.loop-place-init
loop-place-init c = record {
  end = c.len-place-end.ensures;
  so_far = ap (λ (m : Message). with_more m c.args.reply.now.headers) c.in_ok-draft.ensures;
}

pub loop-place-preserved : goal.loop-place-preserved
loop-place-preserved c =
    let added = c.in_ok-add_header.ensures in record {
      end = c.loop-place.invariant.end;
      so_far = drafted_more c.loop-place.draft (with_more (status_alone c.args.reply.now.status) c.args.reply.now.headers) c.args.reply.now.headers
          c.loop-place.place c.add_header.new.draft added.0 added.1 added.2 c.loop-place.invariant.so_far;
    }

pub returns : goal.returns
returns c =
    let past : length c.args.reply.now.headers ≤ c.loop-place.place = omega arith in
    drafted_all c.loop-place.draft (with_more (status_alone c.args.reply.now.status) c.args.reply.now.headers) c.args.reply.now.headers
    c.loop-place.place past c.loop-place.invariant.so_far
