use Rattle.std.proofs.Common.{◌≡◌, Ok, Err, inl, inr, refl, ◌∙◌, ap}
use Rattle.hall_plans.specs.declared.error.HallError.TheVariants.{Fault}
use Rattle.receipts.specs.declared.locked.Loan.TheVariants.{Nothing, Out}
use Rattle.receipts.specs.Advancing.{IsToldByShare, IsNotSharedTo}
use Rattle.receipts.specs.UnderLock.{IsNoFault}
use Rattle.receipts.proofs.Lent.{told_why, told_durable, at_error, at_loan, not_error, kept_along}
use Rattle.receipts.proofs.Advanced.{shares_as, shared_broken, advanced_broken, advance_fault, refused_sharing, refused_advancing, told_at_least, told_up_to}
use Rattle.receipts.proofs.UnderLock.{never_told}
use Rattle.receipts.proofs.office.Office.advance.Goals as goal

pub returns-in-Err-clause-disk : goal.returns-in-Err-clause-disk
returns-in-Err-clause-disk g c = inl refl

pub returns-in-Err-clause-steps : goal.returns-in-Err-clause-steps
returns-in-Err-clause-steps g c = record {
  loan = c.share-lend.result.0;
  lends = c.share-lend.ensures.lends;
  tells = told_why c.share-lend.result.0 c.in-Err.why c.in-Err.is;
  disk = refl;
}

pub returns-in-Err-clause-broken : goal.returns-in-Err-clause-broken
returns-in-Err-clause-broken g c =
    let seen = c.share-lend.result.1 in
    shared_broken c.args.desk.now.told seen.before.value.hall.issuer seen.after.value.hall.issuer c.share-lend.result.0 c.in-Err.why c.share-lend.result.2 c.in-Err.is
    c.share-lend.ensures.lends.refused c.share-lend.ensures.lends.no_fault c.share-lend.ensures.lends.same.hall.issuer.broken c.share-lend.ensures.broken.0

pub returns-in-Nothing-clause-disk : goal.returns-in-Nothing-clause-disk
returns-in-Nothing-clause-disk g c = inl refl

pub returns-in-Nothing-clause-steps : goal.returns-in-Nothing-clause-steps
returns-in-Nothing-clause-steps g c = record {
  loan = c.share-lend.result.0;
  lends = c.share-lend.ensures.lends;
  tells = told_durable c.share-lend.result.0 c.in-Nothing.durable (c.in-Ok.is ∙ ap Ok c.in-Nothing.is);
  disk = refl;
}

pub returns-in-Out-clause-disk : goal.returns-in-Out-clause-disk
returns-in-Out-clause-disk g c = inr (
  c.in-Out.batch,
  record {
    outcome = c.advance-outcome.result;
    told = c.settle_advance-answer.ensures.settles.tells;
    numbers = c.advance-outcome.ensures.numbers;
    done = c.advance-outcome.ensures.ok;
    refused = c.advance-outcome.ensures.err;
    fault = c.advance-outcome.ensures.fault;
    later = c.advance-outcome.ensures.later;
    same = c.advance-outcome.ensures.same;
    settings = c.advance-outcome.ensures.settings;
    longer = c.advance-outcome.ensures.longer;
    stands = c.advance-outcome.ensures.stands;
    front = c.advance-outcome.ensures.front;
    any_moment = c.advance-outcome.ensures.any_moment;
  },
)

pub returns-in-Out-clause-broken : goal.returns-in-Out-clause-broken
returns-in-Out-clause-broken g c =
    let seen = c.settle_advance-answer.result.1 in
    advanced_broken seen.before.value.hall.issuer seen.after.value.hall.issuer c.advance-outcome.result c.settle_advance-answer.result.0 c.settle_advance-answer.result.2
    c.settle_advance-answer.ensures.settles.settles c.settle_advance-answer.ensures.broken.0

pub returns-in-Out-clause-fault : goal.returns-in-Out-clause-fault
returns-in-Out-clause-fault g c is = c.advance-outcome.ensures.fault (advance_fault _ _ c.settle_advance-answer.ensures.settles.tells is)

pub returns-in-Out-clause-steps : goal.returns-in-Out-clause-steps
returns-in-Out-clause-steps g c = record {
  batch = c.in-Out.batch;
  between = c.share-lend.new.desk;
  lends = shares_as _ _ _ _ _ _ c.share-lend.result.0 (Ok (Out c.in-Out.batch)) (c.in-Ok.is ∙ ap Ok c.in-Out.is) c.share-lend.ensures.lends;
  writes = record {
    outcome = c.advance-outcome.result;
    told = c.settle_advance-answer.ensures.settles.tells;
    numbers = c.advance-outcome.ensures.numbers;
    done = c.advance-outcome.ensures.ok;
    refused = c.advance-outcome.ensures.err;
    fault = c.advance-outcome.ensures.fault;
    later = c.advance-outcome.ensures.later;
    same = c.advance-outcome.ensures.same;
    settings = c.advance-outcome.ensures.settings;
    longer = c.advance-outcome.ensures.longer;
    stands = c.advance-outcome.ensures.stands;
    front = c.advance-outcome.ensures.front;
    any_moment = c.advance-outcome.ensures.any_moment;
  };
  settles = c.settle_advance-answer.ensures.settles;
}

-- ## What is told, and what stays

pub returns-in-Err-clause-told : goal.returns-in-Err-clause-told
returns-in-Err-clause-told g c = tt

pub returns-in-Err-clause-number : goal.returns-in-Err-clause-number
returns-in-Err-clause-number g c = c.share-lend.ensures.lends.number

pub returns-in-Err-clause-marks : goal.returns-in-Err-clause-marks
returns-in-Err-clause-marks g c = c.share-lend.ensures.lends.own

pub returns-in-Err-clause-answered : goal.returns-in-Err-clause-answered
returns-in-Err-clause-answered g c = c.share-lend.ensures.lends.answered

pub returns-in-Err-clause-err : goal.returns-in-Err-clause-err
returns-in-Err-clause-err g c =
    at_error c.share-lend.result.0 c.in-Err.why (λ _. c.share-lend.new.desk.told ≡ c.args.desk.now.told) c.in-Err.is c.share-lend.ensures.lends.err

pub returns-in-Err-clause-refused : goal.returns-in-Err-clause-refused
returns-in-Err-clause-refused g c =
    let told = c.args.desk.now.told in
    let half = c.share-lend.result.1.before.value.hall.issuer in
    refused_sharing told half c.in-Err.why (at_error c.share-lend.result.0 c.in-Err.why (IsNotSharedTo told half) c.in-Err.is c.share-lend.ensures.lends.refused)

pub returns-in-Err-clause-fault : goal.returns-in-Err-clause-fault
returns-in-Err-clause-fault g c is =
    absurd (never_told c.in-Err.why (Err c.in-Err.why) refl (at_error c.share-lend.result.0 c.in-Err.why IsNoFault c.in-Err.is c.share-lend.ensures.lends.no_fault) is)

pub returns-in-Err-clause-left : goal.returns-in-Err-clause-left
returns-in-Err-clause-left g c = c.share-lend.ensures.broken

pub returns-in-Nothing-clause-told : goal.returns-in-Nothing-clause-told
returns-in-Nothing-clause-told g c =
    told_at_least c.args.desk.now.told c.share-lend.new.desk.told c.in-Nothing.durable
    (at_loan c.share-lend.result.0 (Nothing c.in-Nothing.durable) (IsToldByShare c.args.desk.now.told c.share-lend.new.desk.told) (c.in-Ok.is ∙ ap Ok c.in-Nothing.is) c.share-lend.ensures.lends.told)

pub returns-in-Nothing-clause-number : goal.returns-in-Nothing-clause-number
returns-in-Nothing-clause-number g c = c.share-lend.ensures.lends.number

pub returns-in-Nothing-clause-marks : goal.returns-in-Nothing-clause-marks
returns-in-Nothing-clause-marks g c = c.share-lend.ensures.lends.own

pub returns-in-Nothing-clause-answered : goal.returns-in-Nothing-clause-answered
returns-in-Nothing-clause-answered g c = c.share-lend.ensures.lends.answered

pub returns-in-Nothing-clause-err : goal.returns-in-Nothing-clause-err
returns-in-Nothing-clause-err g c = tt

pub returns-in-Nothing-clause-refused : goal.returns-in-Nothing-clause-refused
returns-in-Nothing-clause-refused g c = tt

pub returns-in-Nothing-clause-fault : goal.returns-in-Nothing-clause-fault
returns-in-Nothing-clause-fault g c is = absurd (not_error c.in-Nothing.durable Fault is)

pub returns-in-Nothing-clause-broken : goal.returns-in-Nothing-clause-broken
returns-in-Nothing-clause-broken g c = tt

pub returns-in-Nothing-clause-left : goal.returns-in-Nothing-clause-left
returns-in-Nothing-clause-left g c = c.share-lend.ensures.broken

pub returns-in-Out-clause-told : goal.returns-in-Out-clause-told
returns-in-Out-clause-told g c =
    let same = at_loan c.share-lend.result.0 (Out c.in-Out.batch) (IsToldByShare c.args.desk.now.told c.share-lend.new.desk.told) (c.in-Ok.is ∙ ap Ok c.in-Out.is) c.share-lend.ensures.lends.told in
    told_up_to c.settle_advance-answer.result.0 c.args.desk.now.told c.share-lend.new.desk.told c.settle_advance-answer.new.desk.told same c.settle_advance-answer.ensures.settles.told

pub returns-in-Out-clause-number : goal.returns-in-Out-clause-number
returns-in-Out-clause-number g c = c.settle_advance-answer.ensures.settles.number ∙ c.share-lend.ensures.lends.number

pub returns-in-Out-clause-marks : goal.returns-in-Out-clause-marks
returns-in-Out-clause-marks g c = c.settle_advance-answer.ensures.settles.own ∙ c.share-lend.ensures.lends.own

pub returns-in-Out-clause-answered : goal.returns-in-Out-clause-answered
returns-in-Out-clause-answered g c = c.settle_advance-answer.ensures.settles.answered ∙ c.share-lend.ensures.lends.answered

pub returns-in-Out-clause-err : goal.returns-in-Out-clause-err
returns-in-Out-clause-err g c =
    let same = at_loan c.share-lend.result.0 (Out c.in-Out.batch) (IsToldByShare c.args.desk.now.told c.share-lend.new.desk.told) (c.in-Ok.is ∙ ap Ok c.in-Out.is) c.share-lend.ensures.lends.told in
    kept_along c.settle_advance-answer.result.0 c.args.desk.now.told c.share-lend.new.desk.told c.settle_advance-answer.new.desk.told same c.settle_advance-answer.ensures.settles.err

pub returns-in-Out-clause-refused : goal.returns-in-Out-clause-refused
returns-in-Out-clause-refused g c =
    refused_advancing c.args.desk.now.told c.advance-outcome.result c.settle_advance-answer.result.0 c.settle_advance-answer.ensures.settles.tells

pub returns-in-Out-clause-left : goal.returns-in-Out-clause-left
returns-in-Out-clause-left g c = c.settle_advance-answer.ensures.broken
