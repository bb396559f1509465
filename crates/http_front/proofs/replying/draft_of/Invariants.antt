use Rattle.std.proofs.Common.{◌≡◌, length, drop}
use Rattle.http_port.specs.Answering.{status_alone, with_more}
use Rattle.http_front.proofs.replying.draft_of.Given as goal

abbrev pub invariant-loop-place : goal.invariant-loop-place
invariant-loop-place l = record {
  end : l.place-end ≡ length l.reply.headers;
  so_far : with_more l.draft (drop l.place l.reply.headers) ≡ with_more (status_alone l.reply.status) l.reply.headers;
}
