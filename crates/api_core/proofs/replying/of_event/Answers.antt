use Rattle.api_core.proofs.replying.of_event.Goals as goal

pub returns-in_ok-try_add-in-Aws : goal.returns-in_ok-try_add-in-Aws
returns-in_ok-try_add-in-Aws c =
    rw (c.in-Aws.is, c.in_ok-try_add-in-Aws.ensures.ok, c.as_bytes.ensures.value, c.in_ok-id-in-Aws.ensures)
