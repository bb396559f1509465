use Rattle.std.proofs.Common.{◌∙◌, ◌++◌, sym, subst}
use Rattle.std.proofs.lemmas.Bool.{true≢false}
use Rattle.broker_opening.specs.Opening.{ComesToRest}
use Rattle.broker_opening.proofs.Interrupting.{pushed_back, rested}
use Rattle.broker_opening.proofs.resting.interrupt_attempts.Goals.{in-None, in-Some+in_ok-resume+then-is_none}
use Rattle.broker_opening.proofs.resting.interrupt_attempts.Goals as goal

pub loop-preserved : goal.loop-preserved
loop-preserved g c = record {
  settings = c.resume.ensures.settings ∙ c.loop.invariant.settings;
  segment = c.resume.ensures.segment ∙ c.loop.invariant.segment;
  interrupted = λ history stands.
      let before = c.loop.invariant.interrupted history stands in
      pushed_back g.D.Disk.view history c.loop.broker c.resume.new.self _ c.resume.result c.in_ok-resume.field-0 c.is_none.result c.in_ok-resume.was
      c.is_none.ensures c.if-is_none.false before (c.resume.ensures.resumes (history ++ before.interrupts) before.stands);
}

pub returns-clause-rest : goal.returns-clause-rest
returns-clause-rest g c = λ history stands.
    elim c.match-next.branch [
      | in-None w ↦ absurd (true≢false (sym w.in-None.ensures.steps))
      | in-Some+in_ok-resume+then-is_none w ↦
          let before = c.loop.invariant.interrupted history stands in
          subst (ComesToRest g.D.Disk.view history) (sym w.broker-is)
          (rested g.D.Disk.view history c.loop.broker w.resume.new.self _ w.resume.result w.in_ok-resume.field-0 w.is_none.result w.in_ok-resume.was
          w.is_none.ensures w.if-is_none.true w.resume.ensures.settings before (w.resume.ensures.resumes (history ++ before.interrupts) before.stands)
          (w.resume.ensures.rested (history ++ before.interrupts) before.stands))
    ]
