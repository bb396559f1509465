use Rattle.std.proofs.Common.{◌≡◌, ◌++◌, ◌∷◌, [], refl, sym, ap, subst, ◌∙◌, arith}
use Rattle.invoke_records.specs.declared.snapshot.Snapshot.{Snapshot}
use Rattle.async_core.specs.State.{State}
use Rattle.async_core.specs.laws.Tables.{number-table_of}
use Rattle.broker_core.specs.declared.error.IssueError.{IssueError}
use Rattle.broker_core.specs.declared.error.IssueError.TheVariants as issue_error
use Rattle.broker_core.specs.Steps.{IsTakeReason}
use Rattle.broker_core.proofs.Memory.{refusal_in_memory, memory_more, memory_along}
use Rattle.broker_core.proofs.issue_half.IssueHalf.issue.Goals as goal

pub returns-in-Ok-clause-stands : goal.returns-in-Ok-clause-stands
returns-in-Ok-clause-stands c history stands =
    let old = c.args.self.now in
    let command = c.args.command in
    let issued = c.in-Ok.ensures in
    let state : State = c.take.new.table in
    let settings : state.settings ≡ old.table.settings = ap (λ (t : State). t.settings) issued.applied in (
      sym (refusal_in_memory _ _ _ _ history old.good stands command) ∙ issued.legal,
      omega (arith, c.number.ensures, c.new.ensures, issued.number, ap (λ (t : Snapshot). t.number) stands.table_is, number-table_of old.table.settings history),
      memory_along old.table.settings state.settings _ state.table _ c.take.new.pending.items old.durable old.durable (history ++ command ∷ []) settings
          (ap (λ (t : State). t.table) issued.applied) issued.kept refl
          (memory_more _ _ _ _ history old.good stands command issued.legal),
    )

pub returns-in-Err-clause-refused : goal.returns-in-Err-clause-refused
returns-in-Err-clause-refused c history stands why is =
    let old = c.args.self.now in
    let same : c.in-Err.why ≡ issue_error.Illegal why = cc in
    sym (refusal_in_memory _ _ _ _ history old.good stands c.args.command)
    ∙ subst (λ (e : IssueError). IsTakeReason old.table old.pending.items c.args.command e) same c.in-Err.ensures.reason
