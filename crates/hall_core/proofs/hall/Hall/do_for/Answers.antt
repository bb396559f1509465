use Rattle.std.proofs.Common.{rules, ◌++◌, ◌∷◌, [], refl, subst}
use Rattle.api_core.specs.declared.call.Call.TheVariants as calls
use Rattle.hall_plans.specs.Past.{asked}
use Rattle.broker_core.specs.Issuer.{issued_in}
use Rattle.hall_core.specs.OpenSlots.{KeepFor}
use Rattle.hall_plans.specs.Settling.{replied_at, own_at}
use Rattle.hall_core.proofs.hall.Hall.do_for.Goals as goal

-- src/hall.rt:83:5
pub returns-after-self-clause-slots : goal.returns-after-self-clause-slots
returns-after-self-clause-slots g c = λ s events keep is told own tells call.
    let opened = c.in_ok-open.ensures.ok s events keep is call in
    let polls = c.reply_all.ensures s (events ++ asked c.args.slot call ∷ []) opened told tells.0 in
    let all = c.reply_own.ensures s ((events ++ asked c.args.slot call ∷ []) ++ replied_at (issued_in (g.I.Issuer.view c.issue.new.issuer)) told) polls own tells.1 in
    subst (λ n. KeepFor s c.reply_own.new.self (((events ++ asked c.args.slot call ∷ []) ++ replied_at (issued_in (g.I.Issuer.view c.issue.new.issuer)) told) ++ own_at c.args.slot n own)) c.ticket.ensures all

-- src/hall.rt:83:5
pub returns-in-Err-clause-err : goal.returns-in-Err-clause-err
returns-in-Err-clause-err g c = record {
  issuer = search rules;
  environments = refl;
  wanted = refl;
  slots = λ events keep. c.undo.ensures _ events calls.StopBroker (c.in_ok-open.ensures.ok _ events keep c.requires.told calls.StopBroker);
  dialect = refl;
  stops = refl;
}
