use Rattle.api_core.proofs.texts.full_message.Goals as goal

pub returns : goal.returns
returns c =
    rw (
      c.deref-2.ensures.value,
      c.in_ok-ended.ensures,
      c.as_bytes-2.ensures.value,
      c.in_ok-successes.ensures,
      c.deref.ensures.value,
      c.in_ok-failed.ensures,
      c.as_bytes.ensures.value,
      c.in_ok-failures.ensures,
    ) at c.limiting.ensures
