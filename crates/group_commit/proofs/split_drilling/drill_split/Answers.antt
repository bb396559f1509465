use Rattle.std.proofs.Common.{◌≡◌, inr, refl, ◌+◌, ◌++◌, ◌∷◌, [], List, take, sym, ◌∙◌, ap, subst, arith}
use Rattle.std.proofs.lemmas.List.{take_more, take_all}
use Rattle.sector_disk.specs.Memory.{memory_view}
use Rattle.group_commit.specs.declared.split_script.SplitStep.{SplitStep}
use Rattle.group_commit.specs.declared.split_script.SplitAnswer.{SplitAnswer}
use Rattle.group_commit.specs.SplitSteps.{IsSplitDrilledOn}
use Rattle.group_commit.proofs.SplitRun.{drilled_none, drilled_more, cut_off}
use Rattle.checkpoint.specs.declared.error.OpenError.TheVariants as open_error
use Rattle.group_commit.proofs.split_drilling.drill_split.Goals as goal

pub loop-index-init : goal.loop-index-init
loop-index-init c s history durable legal stops =
    drilled_none (memory_view c.args.disk).content s history durable c.in-Ok.halves c.new-answers.result.items c.new-answers.ensures.items (c.in-Ok.ensures.begins s history durable legal stops)
    c.in-Ok.ensures.generation

pub returns-in-Err-run_step-clause-refused : goal.returns-in-Err-run_step-clause-refused
returns-in-Err-run_step-clause-refused c s history durable legal stops =
    let was = c.loop-index.invariant s history durable legal stops in
    c.in-Err-run_step.ensures.refused s was.end was.keeps

pub loop-index-preserved : goal.loop-index-preserved
loop-index-preserved c s history durable legal stops =
    let was = c.loop-index.invariant s history durable legal stops in
    let i = c.loop-index.index in
    let steps = c.args.steps.now in
    let step = c.index-steps-index.result in
    let more : take (i + 1) steps ≡ take i steps ++ step ∷ [] =
    take_more steps i step c.loop-index-test.true ∙ ap (λ (x : SplitStep). take i steps ++ x ∷ []) (sym c.index-steps-index.is) in
    subst (λ (l : List SplitStep). IsSplitDrilledOn (memory_view c.args.disk).content s history durable l c.push_reserved.new.self.items c.in-Ok-run_step.done.0) (sym more)
    (subst (λ (l : List SplitAnswer). IsSplitDrilledOn (memory_view c.args.disk).content s history durable (take i steps ++ step ∷ []) l c.in-Ok-run_step.done.0)
    (sym (rw c.push_reserved.ensures.items (ap (λ (l : List SplitAnswer). l ++ c.in-Ok-run_step.done.1 ∷ []) c.reserve.ensures.items)))
    (drilled_more (memory_view c.args.disk).content s history durable (take i steps) c.loop-index.answers.items c.loop-index.halves c.in-Ok-run_step.done.0 step c.in-Ok-run_step.done.1 was
    (λ r log keeps. c.in-Ok-run_step.ensures.step r log keeps)))

pub returns-clause-run : goal.returns-clause-run
returns-clause-run c s history durable legal stops =
    let was = c.loop-index.invariant s history durable legal stops in
    let all : take c.loop-index.index c.args.steps.now ≡ c.args.steps.now = take_all c.loop-index.index c.args.steps.now (omega arith) in
    let is = subst (λ (l : List SplitStep). IsSplitDrilledOn (memory_view c.args.disk).content s history durable l c.loop-index.answers.items c.loop-index.halves) all was in
    record {
      opened = is.opened;
      least = is.least;
      most = is.most;
      generation = is.generation;
      generation_is = is.generation_is;
      end = is.end;
      run = is.run;
      settings = is.keeps.settings;
      durable_is = is.keeps.durable;
      broken_is = is.keeps.broken;
      stands = is.keeps.stands;
    }

pub returns-then-is_err-clause-failed : goal.returns-then-is_err-clause-failed
returns-then-is_err-clause-failed c s history durable legal stops =
    cut_off (memory_view c.args.disk).content s history durable c.args.steps.now c.loop-index.index c.loop-index.answers.items c.loop-index.halves (c.loop-index.invariant s history durable legal stops) c.index-steps-index.result
    c.loop-index-test.true c.index-steps-index.is open_error.OutOfMemory (inr refl)

pub returns-in-Err-run_step-clause-failed : goal.returns-in-Err-run_step-clause-failed
returns-in-Err-run_step-clause-failed c s history durable legal stops =
    cut_off (memory_view c.args.disk).content s history durable c.args.steps.now c.loop-index.index c.loop-index.answers.items c.loop-index.halves (c.loop-index.invariant s history durable legal stops) c.index-steps-index.result
    c.loop-index-test.true c.index-steps-index.is c.in-Err-run_step.cause c.in-Err-run_step.ensures.needs
