use Rattle.std.proofs.Common.{ℕ, take, Result, sym, ap, subst, arith, is_ok}
use Rattle.sector_disk.specs.Memory.{memory_view}
use Rattle.async_core.specs.State.{State}
use Rattle.checkpoint.specs.declared.error.OpenError.{OpenError}
use Rattle.broker_core.specs.Broker.{Stands}
use Rattle.group_commit.proofs.Results.{if_ok, if_ok_both, ok_from, err_from}
use Rattle.group_commit.proofs.drilling.start.Goals as goal

pub returns-clause-recovers : goal.returns-clause-recovers
returns-clause-recovers c s history durable legal stops =
    ok_from _ c.open.result c.without_disk.result c.without_disk.ensures.ok
    (if_ok_both _ _ _ c.open.result
    (λ b fresh facts. (
      omega (arith, fresh.2, facts.0),
      omega (arith, fresh.2, facts.1),
      facts.2,
      fresh.0,
      subst (λ (n : ℕ). Stands memory_view b (take n history)) (sym fresh.2) facts.3,
    ))
    c.open.ensures.fresh
    (c.open.ensures.stands tt s history durable legal stops))

pub returns-clause-refused : goal.returns-clause-refused
returns-clause-refused c s history durable legal stops =
    err_from (λ failure. failure.cause) _ c.open.result c.without_disk.result c.without_disk.ensures.err c.without_disk.ensures.same
    (c.open.ensures.refused tt s history durable legal stops)

pub returns-clause-nothing : goal.returns-clause-nothing
returns-clause-nothing c = ok_from _ c.open.result c.without_disk.result c.without_disk.ensures.ok (if_ok _ _ c.open.result (λ b fresh. fresh.1) c.open.ensures.fresh)

pub returns-clause-generation : goal.returns-clause-generation
returns-clause-generation c = ok_from _ c.open.result c.without_disk.result c.without_disk.ensures.ok (if_ok _ _ c.open.result (λ b is. is) (c.open.ensures.generation tt))

pub returns-clause-opened : goal.returns-clause-opened
returns-clause-opened c =
    ok_from _ c.open.result c.without_disk.result c.without_disk.ensures.ok
    (if_ok _ _ c.open.result (λ b is. ap (λ (r : Result State OpenError). is_ok r) is) (c.open.ensures.recovers tt))

pub returns-clause-not_formatted : goal.returns-clause-not_formatted
returns-clause-not_formatted c =
    err_from (λ failure. failure.cause) _ c.open.result c.without_disk.result c.without_disk.ensures.err c.without_disk.ensures.same (c.open.ensures.not_formatted tt)

pub returns-clause-damaged : goal.returns-clause-damaged
returns-clause-damaged c =
    err_from (λ failure. failure.cause) _ c.open.result c.without_disk.result c.without_disk.ensures.err c.without_disk.ensures.same (c.open.ensures.damaged tt)

pub returns-clause-old_version : goal.returns-clause-old_version
returns-clause-old_version c =
    err_from (λ failure. failure.cause) _ c.open.result c.without_disk.result c.without_disk.ensures.err c.without_disk.ensures.same (c.open.ensures.old_version tt)
