use Rattle.std.proofs.Common.{◌≡◌, ◌++◌, ◌∷◌, [], Err, refl, sym, ap, subst, ◌∙◌, arith}
use Rattle.sector_disk.specs.laws.Moments.{started}
use Rattle.invoke_records.specs.declared.snapshot.Snapshot.{Snapshot}
use Rattle.async_core.specs.State.{State}
use Rattle.async_core.specs.laws.Tables.{number-table_of}
use Rattle.broker_core.specs.declared.error.IssueError.{IssueError}
use Rattle.broker_core.specs.declared.error.IssueError.TheVariants as issue_error
use Rattle.broker_core.specs.Broker.{settings_of, state_of}
use Rattle.broker_core.specs.Steps.{IsTakeReason}
use Rattle.broker_core.proofs.Framed.{ok_not_err}
use Rattle.broker_core.proofs.Writes.{same_error}
use Rattle.broker_core.proofs.Issued.{reason_of, refusal_is, with_command, stands_more, stands_along}
use Rattle.broker_core.proofs.broker.Broker.issue.Goals as goal

pub returns-in-Ok-clause-stands : goal.returns-in-Ok-clause-stands
returns-in-Ok-clause-stands g c history stands =
    let old = c.args.self.now in
    let command = c.args.command in
    let was = state_of g.D.Disk.view old in
    let issued = c.in-Ok.ensures in
    let state : State = c.take.new.table in
    let settings : state.settings ≡ settings_of old = ap (λ (t : State). t.settings) issued.applied in (
      sym (refusal_is history stands command) ∙ issued.legal,
      omega (arith, c.number.ensures, c.new.ensures, issued.number, ap (λ (t : Snapshot). t.number) stands.table_is, number-table_of (settings_of old) history),
      stands_along (with_command was command) (record was { settings = state.settings; table = state.table; pending = c.take.new.pending.items }) (history ++ command ∷ [])
          refl refl settings (ap (λ (t : State). t.table) issued.applied) issued.kept refl refl refl (stands_more history stands command issued.legal),
    )

pub returns-in-Err-clause-refused : goal.returns-in-Err-clause-refused
returns-in-Err-clause-refused g c history stands why is =
    let old = c.args.self.now in
    let same : c.in-Err.why ≡ issue_error.Illegal why = cc in
    sym (refusal_is history stands c.args.command)
    ∙ subst (λ (e : IssueError). IsTakeReason old.table old.pending.items c.args.command e) same c.in-Err.ensures.reason

pub returns-then-self-clause-any_moment : goal.returns-then-self-clause-any_moment
returns-then-self-clause-any_moment g c honest history stands =
    (started g.D.Disk.view g.met.D.Disk.laws c.args.self.now.disk _ honest (λ image left. stands.stops honest image left)).leaves

pub returns-in-Ok-clause-any_moment : goal.returns-in-Ok-clause-any_moment
returns-in-Ok-clause-any_moment g c honest history stands =
    (started g.D.Disk.view g.met.D.Disk.laws c.args.self.now.disk _ honest (λ image left. stands.stops honest image left)).leaves

pub returns-in-Err-clause-any_moment : goal.returns-in-Err-clause-any_moment
returns-in-Err-clause-any_moment g c honest history stands =
    (started g.D.Disk.view g.met.D.Disk.laws c.args.self.now.disk _ honest (λ image left. stands.stops honest image left)).leaves

pub returns-in-Ok-clause-worn_out : goal.returns-in-Ok-clause-worn_out
returns-in-Ok-clause-worn_out g c whole worn =
    ok_not_err (c.in-Ok.ensures.worn_out worn)

pub returns-in-Err-clause-worn_out : goal.returns-in-Err-clause-worn_out
returns-in-Err-clause-worn_out g c whole worn =
    ap Err (same_error (c.in-Err.ensures.worn_out worn))

pub returns-in-Ok-clause-illegal : goal.returns-in-Ok-clause-illegal
returns-in-Ok-clause-illegal g c whole below why fails =
    ok_not_err (c.in-Ok.ensures.illegal below why fails)

pub returns-in-Err-clause-illegal : goal.returns-in-Err-clause-illegal
returns-in-Err-clause-illegal g c whole below why fails =
    ap Err (same_error (c.in-Err.ensures.illegal below why fails))

pub returns-in-Ok-clause-backlog : goal.returns-in-Ok-clause-backlog
returns-in-Ok-clause-backlog g c whole below legal full =
    ok_not_err (c.in-Ok.ensures.backlog below legal full)

pub returns-in-Err-clause-backlog : goal.returns-in-Err-clause-backlog
returns-in-Err-clause-backlog g c whole below legal full =
    ap Err (same_error (c.in-Err.ensures.backlog below legal full))

pub returns-in-Ok-clause-ok : goal.returns-in-Ok-clause-ok
returns-in-Ok-clause-ok g c =
    record {
      disk = refl;
      settings = c.in-Ok.ensures.settings;
      table = ap (λ (t : State). t.table) c.in-Ok.ensures.applied;
      legal = c.in-Ok.ensures.legal;
      issued = c.in-Ok.ensures.number;
      pending = c.in-Ok.ensures.kept;
      durable = refl;
      broken = refl;
      opened = refl;
      staged = refl;
      number = c.new.ensures ∙ c.number.ensures;
    }

pub returns-in-Err-clause-err : goal.returns-in-Err-clause-err
returns-in-Err-clause-err g c =
    record {
      disk = refl;
      settings = ap (λ (t : State). t.settings) c.in-Err.ensures.err;
      table = ap (λ (t : State). t.table) c.in-Err.ensures.err;
      pending = c.in-Err.ensures.err_kept;
      durable = refl;
      broken = refl;
      opened = refl;
      staged = refl;
    }

pub returns-in-Err-clause-reason : goal.returns-in-Err-clause-reason
returns-in-Err-clause-reason g c =
    reason_of c.args.self.now c.args.command c.in-Err.why c.in-Err.ensures.reason

pub returns-in-Err-clause-stands_refused : goal.returns-in-Err-clause-stands_refused
returns-in-Err-clause-stands_refused g c history stands =
    let was = state_of g.D.Disk.view c.args.self.now in
    let state : State = c.take.new.table in
    let same = c.in-Err.ensures.err in
    stands_along was (record was { settings = state.settings; table = state.table; pending = c.take.new.pending.items }) history
    refl refl (ap (λ (t : State). t.settings) same) (ap (λ (t : State). t.table) same) c.in-Err.ensures.err_kept refl refl refl stands
