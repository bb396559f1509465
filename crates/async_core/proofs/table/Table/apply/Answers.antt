-- The new table is the old one after the command.
use Rattle.std.proofs.Common.{ℕ, List, ◌≡◌, ◌+◌, ◌∙◌, refl, ap, arith}
use Rattle.async_core.specs.State.{State}
use Rattle.async_core.specs.Rules.{rows_after, table_after}
use Rattle.async_core.specs.Policies.{policy_by}
use Rattle.retry_rules.specs.declared.policy.RetryPolicy.{RetryPolicy}
use Rattle.retry_rules.specs.declared.settings.Settings.{Settings}
use Rattle.invoke_records.specs.declared.command.Command.{Command}
use Rattle.invoke_records.specs.declared.row.EventRow.{EventRow}
use Rattle.invoke_records.specs.declared.snapshot.Snapshot.{Snapshot}
use Rattle.async_core.specs.laws.Tables.{legal_time, applied-by_history}
use Rattle.async_core.proofs.table.Table.apply.Goals as goal

pub change-requires : goal.change-requires
change-requires c =
    let moment = legal_time _ _ c.args.command.now c.in_default.ensures.legal in
    omega arith

table_after-is : (s : Settings) (n last : ℕ) (policy next : RetryPolicy) (rows changed : List EventRow) (c : Command) → next ≡ policy_by policy c.kind → changed ≡ rows_after s policy (n + 1) c c.kind rows
    → record { number = n + 1; last_moment = c.time; policy = next; rows = changed } ≡ table_after s (record { number = n; last_moment = last; policy = policy; rows = rows }) c
unfolding table_after
table_after-is s n last policy next rows changed c p h = rw (p, h) refl

pub returns-clause-applied : goal.returns-clause-applied
returns-clause-applied c =
    let inside = c.self.inside in
    rw (← c.self.view_is)
    (ap (λ (t : Snapshot). record { settings = inside.settings; table = t })
    (table_after-is inside.settings inside.number inside.last_moment inside.policy c.policy_after-self-inside.result inside.held c.change.new.held c.args.command.now c.policy_after-self-inside.ensures c.in_ok-change.ensures.ok))

pub returns-clause-by_history : goal.returns-clause-by_history
unfolding table_after
returns-clause-by_history c =
    let applied : _ ≡ table_after c.args.self.now.settings c.args.self.now.table c.args.command.now = ap (λ (t : State). t.table) (returns-clause-applied c) in
    λ history good legal is.
    let both = applied-by_history _ _ history c.args.command.now good legal is c.in_default.ensures.legal in
    (both.0, applied ∙ both.1)
