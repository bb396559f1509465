use Rattle.std.proofs.Common.{rules, arith, length, sym}
use Rattle.std.proofs.lemmas.List.Sums.{position_or_len_is}
use Rattle.http_port.specs.Hosts.{is_colon}
use Rattle.http_port.proofs.hosts.colon_at.Goals as goal

pub returns-then-host-at-eq58-clause-place : goal.returns-then-host-at-eq58-clause-place
returns-then-host-at-eq58-clause-place c =
    sym (position_or_len_is is_colon c.args.host.now c.loop-at.at 0 (omega arith) c.loop-at.invariant (λ _. search rules))

pub returns-clause-place : goal.returns-clause-place
returns-clause-place c =
    let host = c.args.host.now in
    sym (position_or_len_is is_colon host (length host) 0 (omega arith) (λ k h. c.loop-at.invariant k (omega arith)) (λ h. absurd (omega arith)))
