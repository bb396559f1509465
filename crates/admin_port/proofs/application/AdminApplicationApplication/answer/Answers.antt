use Rattle.std.proofs.Common.{is_some}
use Rattle.std.proofs.lemmas.Result.{err_from_is_err_and}
use Rattle.admin_port.proofs.Acted.{named_refused}
use Rattle.admin_port.proofs.application.AdminApplicationApplication.answer.Goals as goal

pub returns-in_err-retrying-in-Some-record_named-clause-answered :
    goal.returns-in_err-retrying-in-Some-record_named-clause-answered
returns-in_err-retrying-in-Some-record_named-clause-answered g c =
    let p = err_from_is_err_and c.from_residual-in_err-retrying-in-Some-record_named.result
    c.from_residual-in_err-retrying-in-Some-record_named.ensures.1 in
    rw (p.1, p.2) (
      tt,
      named_refused (is_some c.args.self.now.acts) c.args.head.now c.args.body
          c.in_err-retrying-in-Some-record_named.field-0.0 c.in-Some-record_named.id c.in-None.ensures c.in-Some-record_named.ensures
          c.in_err-retrying-in-Some-record_named.ensures.refused,
    )
