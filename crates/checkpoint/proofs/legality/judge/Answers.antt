use Rattle.std.proofs.Common.{Result, IfErr, IsOk, OnOk, sym, subst}
use Rattle.std.proofs.lemmas.Result.{err_from_is_err_and}
use Rattle.invoke_records.specs.declared.snapshot.Snapshot.{Snapshot}
use Rattle.checkpoint.specs.declared.error.OpenError.{OpenError}
use Rattle.checkpoint.specs.Opening.{Refuses}
use Rattle.checkpoint.proofs.Refusals.{err_refuses}
use Rattle.checkpoint.proofs.Folds.{all_kinds, kinds_damaged}
use Rattle.checkpoint.proofs.legality.judge.Goals as goal

pub returns-in_err-check_kinds-clause-refused : goal.returns-in_err-check_kinds-clause-refused
returns-in_err-check_kinds-clause-refused c =
    let p = err_from_is_err_and c.from_residual.result c.from_residual.ensures.1 in
    rw (p.1, p.2) (err_refuses _ _ (kinds_damaged c.args.version c.args.settings.now c.args.snapshot c.args.behind.now _ (sym c.in_err-check_kinds.ensures.exact)))

pub returns-clause-legal : goal.returns-clause-legal
returns-clause-legal c =
    let same = all_kinds c.args.version c.args.settings.now c.args.snapshot c.args.behind.now (sym c.in_ok-check_kinds.ensures.exact) in
    subst (λ (r : Result Snapshot OpenError). OnOk c.judge_legal.result (IsOk r)) (sym same) c.judge_legal.ensures.legal

pub returns-clause-refused : goal.returns-clause-refused
returns-clause-refused c =
    let same = all_kinds c.args.version c.args.settings.now c.args.snapshot c.args.behind.now (sym c.in_ok-check_kinds.ensures.exact) in
    subst (λ (r : Result Snapshot OpenError). IfErr c.judge_legal.result (λ why. Refuses why r)) (sym same) c.judge_legal.ensures.refused
