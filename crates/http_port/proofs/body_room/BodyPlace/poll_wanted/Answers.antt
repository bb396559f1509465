use Rattle.std.proofs.Common.{◌≡◌, Result, Ok, subst}
use Rattle.std.specs.Prelude.{IfOk}
use Rattle.tokio.specs.declared.sync.semaphore.AcquireError.{AcquireError}
use Rattle.tokio.specs.declared.sync.semaphore.OwnedSemaphorePermit.{OwnedSemaphorePermit}
use Rattle.tokio.specs.Locks.{owned_num_permits, owned_permits_wanted}
use Rattle.http_port.proofs.Room.{waits_for}
use Rattle.http_port.proofs.body_room.BodyPlace.poll_wanted.Goals as goal

pub invariant_of-self-in-Pending-clause-waits : goal.invariant_of-self-in-Pending-clause-waits
invariant_of-self-in-Pending-clause-waits c =
    let was = waits_for c.args.self.now.units c.args.self.now.wanted c.take.result c.in-Some.wanted c.args.self.now.waits c.take.ensures.value c.in-Some.is in
    (c.in-Pending.ensures.again, λ permit is. was.1 permit (c.in-Pending.ensures.same (Ok permit) is))

pub invariant_of-self-in-Ready-Ok-clause-fits : goal.invariant_of-self-in-Ready-Ok-clause-fits
invariant_of-self-in-Ready-Ok-clause-fits c =
    let was = waits_for c.args.self.now.units c.args.self.now.wanted c.take.result c.in-Some.wanted c.args.self.now.waits c.take.ensures.value c.in-Some.is in
    was.1 c.in-Ready-Ok.had (subst (λ (r : Result OwnedSemaphorePermit AcquireError). IfOk r (λ permit. owned_num_permits permit ≡ owned_permits_wanted c.in-Some.wanted))
    c.in-Ready-Ok.field-0-is c.in-Ready-Ok.ensures.value)
