use Rattle.std.proofs.Common.{◌≡◌, ℕ, take, sym, ap, ◌∙◌, arith}
use Rattle.broker_core.specs.IssuerHalf.{half_view}
use Rattle.group_commit.specs.declared.split_drilling.Halves.{Halves}
use Rattle.group_commit.specs.declared.split_script.SplitStep.TheVariants as step
use Rattle.group_commit.specs.declared.split_script.SplitAnswer.TheVariants as answer
use Rattle.group_commit.specs.SplitDrill.{SplitLog, recovered}
use Rattle.group_commit.specs.SplitSteps.{generation_in, ForEachLog, ForEachStop, IsStopped, Leads}
use Rattle.group_commit.proofs.split_drilling.stop_on.Goals as goal

-- a stop that recovered so many leads on
stopped_on : (old new : Halves) (n : ℕ) → n ≡ (half_view new.issue).durable → ForEachLog old (λ s log. IsStopped s log new) → ForEachStop (λ step. Leads old step (answer.Number n) new)
stopped_on old new n same recovers (step.Stop choice) is s log keeps =
    let facts = recovers s log keeps in
    let next : ℕ → SplitLog = λ k. recovered (take k log.history) (generation_in new) in (
      next (half_view new.issue).durable,
      (omega (arith, same, facts.0), omega (arith, same, facts.1), omega (arith, same, facts.2), facts.3, ap next (sym same)),
      facts.4,
    )
stopped_on old new n same recovers (step.Issue command) is s log keeps = absurd is
stopped_on old new n same recovers step.Lend is s log keeps = absurd is
stopped_on old new n same recovers step.Write is s log keeps = absurd is
stopped_on old new n same recovers step.Settle is s log keeps = absurd is
stopped_on old new n same recovers step.Advance is s log keeps = absurd is

pub returns-in-Ok-clause-step : goal.returns-in-Ok-clause-step
returns-in-Ok-clause-step c =
    stopped_on c.args.halves c.in-Ok.halves c.number-recovered.result (c.number-recovered.ensures ∙ c.durable.ensures) c.in-Ok.ensures.recovers
