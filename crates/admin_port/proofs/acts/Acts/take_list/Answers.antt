use Rattle.std.proofs.Common.{inl, inr}
use Rattle.std.proofs.lemmas.Result.{err_from_is_err_and}
use Rattle.admin_port.proofs.acts.Acts.take_list.Goals as goal

pub returns-in_err-may_act-clause-refused : goal.returns-in_err-may_act-clause-refused
returns-in_err-may_act-clause-refused g c =
    let p = err_from_is_err_and c.from_residual.result c.from_residual.ensures.1 in
    rw (p.1, p.2) (inr (inl c.in_err-may_act.ensures.refused))
