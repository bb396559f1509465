use Rattle.std.proofs.Common.{inl, inr}
use Rattle.http_front.proofs.port_application.PortApplication.refuse.Goals as goal

pub returns : goal.returns
returns g c = elim (rw (c.manner.ensures, c.deref-4.ensures) at c.refuse.ensures) [ inl alone ↦ inl alone | inr tells ↦ inr (c.args.id, tells) ]
