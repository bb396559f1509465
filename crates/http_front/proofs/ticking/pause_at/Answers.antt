use Rattle.std.proofs.Common.{◌∙◌}
use Rattle.http_front.proofs.ticking.pause_at.Goals as goal

pub returns : goal.returns
returns g c = (
  c.split-next.result.0,
  rw (c.with.ensures.before, c.split-next.ensures.before, c.split-next.ensures.answer, ← c.millis.ensures.is) c.next_moment.ensures.is,
  c.with.ensures.answer ∙ c.pause_until.ensures,
)
