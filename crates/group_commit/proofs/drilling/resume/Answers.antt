use Rattle.std.proofs.Common.{ℕ, refl, subst, ap}
use Rattle.checkpoint.specs.Live.{generation_of}
use Rattle.broker_core.specs.Broker.{settings_of}
use Rattle.broker_core.specs.Resume.{IsResumed}
use Rattle.group_commit.specs.DrillBroker.{log_of}
use Rattle.group_commit.proofs.Drilled.{not_resumed}
use Rattle.group_commit.proofs.drilling.resume.Goals as goal

pub returns : goal.returns
returns c = record {
  step = λ history stands.
      let old = c.args.broker.now in
      let resumed = c.resume.ensures.resumes history stands in
      record {
        next = log_of old resumed.0;
        step_is = (
          c.resume.result,
          c.answer_to.ensures,
          subst (λ (now : ℕ). IsResumed (settings_of old) history now c.resume.result resumed.0) c.min.ensures resumed.1,
          λ broken. c.resume.ensures.broken broken,
          not_resumed old history stands _ c.resume.result resumed.0 resumed.1 (λ broken. c.resume.ensures.broken broken) c.resume.ensures.reason,
          refl,
          refl,
          refl,
        );
        settings = c.resume.ensures.settings;
        durable = c.resume.ensures.durable;
        generation = ap generation_of c.resume.ensures.segment;
        broken = c.resume.ensures.still;
        stands = resumed.2;
      };
}
