use Rattle.std.proofs.Common.{◌∙◌}
use Rattle.disk_claim.proofs.Claims.{claimed_over}
use Rattle.disk_claim.proofs.claiming.claim.Goals as goal

pub returns-clause-claims : goal.returns-clause-claims
returns-clause-claims g c =
    claimed_over g.D.Disk.view c.args.disk c.put.new.disk c.args.watch.own c.own.result _ c.over.result
    (c.own.ensures ∙ c.peek.ensures.same.own) c.in_ok-put.ensures.claim c.over.ensures

pub returns-clause-forgets : goal.returns-clause-forgets
returns-clause-forgets g c = (
  c.forget_all.new.self,
  c.over.ensures.watch,
  c.in_ok-forget_all.ensures.same.own ∙ (c.look.ensures.same.own ∙ c.peek.ensures.same.own),
  λ honest. c.in_ok-forget_all.ensures.forgets (c.look.ensures.same.volume.1 (c.peek.ensures.same.volume.1 honest)),
)

pub returns-clause-found : goal.returns-clause-found
returns-clause-found g c = (c.peek.new.self, c.peek.ensures.same, c.in_ok-found.ensures.shows)
