use Rattle.std.proofs.Common.{◌≡◌, ◌++◌, ◌∷◌, [], refl, sym, subst, ◌∙◌}
use Rattle.invoke_records.specs.declared.command.Command.{Command}
use Rattle.async_core.specs.History.{refusal_of}
use Rattle.broker_core.specs.IssuerHalf.{half_view}
use Rattle.group_commit.specs.Drill.{IsRefused}
use Rattle.group_commit.specs.SplitDrill.{issue_log}
use Rattle.group_commit.proofs.Drilled.{unbroken}
use Rattle.group_commit.proofs.SplitDrilled.{keeps_issued, keeps_same, reason_is}
use Rattle.group_commit.proofs.split_drilling.issue.Goals as goal

pub returns-in-Ok : goal.returns-in-Ok
returns-in-Ok c = record {
  step = λ s log keeps.
      let accepts = c.in-Ok.ensures.stands log.history keeps.stands in
      let command = c.args.command.now in
      let same : c.in_ok-command.command ≡ command = c.in_ok-command.ensures in (
        record log { history = log.history ++ command ∷ [] },
        (
          sym keeps.broken ∙ unbroken (half_view c.args.halves.now.issue).broken (λ broken. let wrong = c.in-Ok.ensures.broken broken in cc),
          sym (λ i. refusal_of (keeps.settings i) log.history (same i)) ∙ accepts.0,
          c.number.ensures ∙ accepts.1,
          refl,
        ),
        keeps_issued s log c.args.halves.now c.issue.new.self command keeps c.in-Ok.ensures.ok.settings c.in-Ok.ensures.ok.durable c.in-Ok.ensures.ok.broken c.in-Ok.ensures.lent
            (subst (λ (x : Command). (half_view c.issue.new.self).stands (log.history ++ x ∷ [])) same accepts.2),
      );
}

pub returns-in-Err : goal.returns-in-Err
returns-in-Err c = record {
  step = λ s log keeps.
      let same : c.in_ok-command.command ≡ c.args.command.now = c.in_ok-command.ensures in (
        log,
        (
          subst (λ (x : Command). IsRefused s (issue_log log) x c.in-Err.why) same
              (reason_is s log c.args.halves.now keeps c.in_ok-command.command c.in-Err.why (λ broken. let told = c.in-Err.ensures.broken broken in cc) c.in-Err.ensures.reason),
          refl,
        ),
        keeps_same s log c.args.halves.now c.issue.new.self keeps c.in-Err.ensures.err c.in-Err.ensures.lent,
      );
}
