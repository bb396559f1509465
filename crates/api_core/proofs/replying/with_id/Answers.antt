use Rattle.api_core.proofs.replying.with_id.Goals as goal

pub returns-in-Ok : goal.returns-in-Ok
returns-in-Ok c = rw (c.as_bytes.ensures.value, c.in-Ok.ensures) at c.add.ensures
