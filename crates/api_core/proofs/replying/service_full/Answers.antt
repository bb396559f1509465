use Rattle.api_core.proofs.replying.service_full.Goals as goal

pub returns : goal.returns
returns c =
    rw (
      c.deref.ensures.value,
      c.in_ok-message.ensures,
      c.ended_count-successes.ensures.by_row,
      c.ended_count-failures.ensures.by_row,
    ) at c.service_reply.ensures
