use Rattle.std.proofs.Common.{ℕ, Option, Ok, Err, refl, sym, subst, ◌∙◌}
use Rattle.broker_core.specs.declared.batch.Batch.{Batch}
use Rattle.broker_core.specs.declared.batch.Written.{Written}
use Rattle.broker_core.specs.declared.issue_half.IssueHalf.{IssueHalf}
use Rattle.broker_core.specs.declared.error.SettleError.{SettleError}
use Rattle.broker_core.specs.Advancing.{HasNumbers}
use Rattle.group_commit.specs.declared.split_script.SplitStep.TheVariants as step
use Rattle.group_commit.specs.declared.split_script.SplitAnswer.TheVariants as answer
use Rattle.group_commit.specs.declared.split_drilling.Halves.{Halves}
use Rattle.broker_core.specs.Lending.{IsNotSettled}
use Rattle.broker_core.specs.LendingMore.{LendsMore}
use Rattle.broker_core.specs.Splitting.{broker_of}
use Rattle.group_commit.specs.SplitDrill.{SplitLog, IsSplitStep}
use Rattle.group_commit.specs.SplitSteps.{Keeps}
use Rattle.group_commit.proofs.SplitAdvanced.{advance_idle, advance_opened, advance_staged, advance_refused}
use Rattle.group_commit.proofs.split_drilling.advance_on.Goals as goal

pub returns-in-Ok-None : goal.returns-in-Ok-None
returns-in-Ok-None c = record {
  step = λ s log keeps.
      let old = c.args.halves in
      let issue : IssueHalf = c.lend_more.new.self in
      let lends = subst (λ (lent : Option Batch). LendsMore old.issue issue lent) c.in-Ok-None.field-0-is c.in-Ok-None.ensures.ok in
      advance_idle s log old keeps c.requires issue c.in-Ok-None.ensures.same c.in-Ok-None.ensures.could lends;
}

pub returns-in-Ok : goal.returns-in-Ok
returns-in-Ok c = record {
  step = λ s log keeps.
      let old = c.args.halves in
      let mid : IssueHalf = c.lend_more.new.self in
      let batch = c.in-Ok-Some.batch in
      let new : Halves = record old { issue = c.settle_front.new.self; disk = c.advance.new.self } in
      let lent = c.in-Ok-Some.ensures in
      let lends = subst (λ (o : Option Batch). LendsMore old.issue mid o) c.in-Ok-Some.field-0-is lent.ok in
      let went = c.in-Ok-Some-advance.ensures in
      let written = c.in-Ok-Some-advance.written in
      subst (λ (n : ℕ). (next : SplitLog) × IsSplitStep s log step.Advance (answer.Number n) next × Keeps s next new) (sym c.number.ensures)
      (advance_opened s log old keeps c.requires new c.requires batch lent.could lends.0 lends.1 went.settings went.stands went.front mid lent.same lends.2 written c.in-Ok.durable went.ok
      (subst (λ (o : Option Written). HasNumbers (broker_of old.disk) batch (broker_of new.disk) (Ok o)) c.in-Ok-Some-advance.field-0-is went.numbers) went.switched c.in-Ok.ensures.ok);
}

pub returns-in-Ok-None-advance : goal.returns-in-Ok-None-advance
returns-in-Ok-None-advance c = record {
  step = λ s log keeps.
      let old = c.args.halves in
      let mid : IssueHalf = c.lend_more.new.self in
      let batch = c.in-Ok-Some.batch in
      let new : Halves = record old { issue = mid; disk = c.advance.new.self } in
      let lent = c.in-Ok-Some.ensures in
      let lends = subst (λ (o : Option Batch). LendsMore old.issue mid o) c.in-Ok-Some.field-0-is lent.ok in
      let went = c.in-Ok-None-advance.ensures in
      advance_staged s log old keeps c.requires new c.requires batch lent.could lends.0 lends.1 went.settings went.stands went.front mid lent.same lends.2 c.number-in-Ok-None-advance.result refl
      (c.number-in-Ok-None-advance.ensures ∙ c.durable.ensures) went.ok
      (subst (λ (o : Option Written). HasNumbers (broker_of old.disk) batch (broker_of new.disk) (Ok o)) c.in-Ok-None-advance.field-0-is went.numbers) went.switched;
}

pub returns-in-Err-NotWritten : goal.returns-in-Err-NotWritten
returns-in-Err-NotWritten c = record {
  step = λ s log keeps.
      let old = c.args.halves in
      let mid : IssueHalf = c.lend_more.new.self in
      let batch = c.in-Ok-Some.batch in
      let new : Halves = record old { issue = c.settle.new.self; disk = c.advance.new.self } in
      let lent = c.in-Ok-Some.ensures in
      let lends = subst (λ (o : Option Batch). LendsMore old.issue mid o) c.in-Ok-Some.field-0-is lent.ok in
      let went = c.in-Err-advance.ensures in
      let failed = c.in-Err-advance.failed in
      advance_refused s log old keeps c.requires new c.requires batch lent.could lends.0 lends.1 went.settings went.stands went.front mid lent.same lends.2 failed went.numbers c.in-Err-NotWritten.why
      went.longer went.err went.switched went.sound
      (subst (λ (why : SettleError). IsNotSettled mid new.issue (Err failed) why) c.in-Err-NotWritten.field-0-is c.in-Err-NotWritten.ensures.err);
}
