-- What shows that a disk was configured says it of that disk, before and after.
use Rattle.broker_commands.specs.Configuring.{WasConfigured}
use Rattle.broker_commands.proofs.configured.configure.Goals as goal

pub invariant_of-result : goal.invariant_of-result
invariant_of-result g c =
    let fact : WasConfigured (g.D.Disk.view c.args.disk) c.args.new.now c.args.now (g.D.Disk.view c.in_ok-done.done.1) =
    λ honest s history durable legal stops. c.in_ok-done.ensures.configured honest s history durable legal stops in
    record { holds = rw (c.of-before.ensures, c.of-wanted.ensures, c.of-after.ensures) (∣ fact ∣₁) }
