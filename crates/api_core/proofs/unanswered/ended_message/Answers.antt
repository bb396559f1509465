use Rattle.api_core.proofs.unanswered.ended_message.Goals as goal

pub returns : goal.returns
returns c =
    rw (
      c.as_bytes-3.ensures.value,
      c.in_ok-id.ensures,
      c.deref.ensures.value,
      c.in_ok-causes.ensures,
      c.as_bytes.ensures.value,
      c.in_ok-timeout.ensures,
      c.as_bytes-2.ensures.value,
      c.after_seconds.ensures,
    ) at c.naming-2.ensures
