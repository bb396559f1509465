use Rattle.std.proofs.Common.{◌≡◌, inr, refl, ◌+◌, ◌++◌, ◌∷◌, [], List, take, sym, ◌∙◌, ap, subst, arith}
use Rattle.std.proofs.lemmas.List.{take_more, take_all}
use Rattle.sector_disk.specs.Memory.{memory_view}
use Rattle.group_commit.specs.declared.script.Step.{Step}
use Rattle.group_commit.specs.declared.script.StepAnswer.{StepAnswer}
use Rattle.group_commit.specs.DrillBroker.{IsDrilled}
use Rattle.group_commit.proofs.Drilled.{drilled_none, drilled_more, cut_off}
use Rattle.checkpoint.specs.declared.error.OpenError.TheVariants as open_error
use Rattle.group_commit.proofs.drilling.drill.Goals as goal

pub loop-index-init : goal.loop-index-init
loop-index-init c s history durable legal stops =
    let facts = c.in-Ok.ensures.recovers s history durable legal stops in
    drilled_none (memory_view c.args.disk).content s history durable c.in-Ok.broker c.new-answers.result.items c.new-answers.ensures.items facts.0 facts.1 facts.2 facts.3 facts.4 c.in-Ok.ensures.generation

pub returns-in-Err-run_step-clause-refused : goal.returns-in-Err-run_step-clause-refused
returns-in-Err-run_step-clause-refused c s history durable legal stops =
    let was = c.loop-index.invariant s history durable legal stops in
    c.in-Err-run_step.ensures.refused was.end.history was.stands

pub loop-index-preserved : goal.loop-index-preserved
loop-index-preserved c s history durable legal stops =
    let was = c.loop-index.invariant s history durable legal stops in
    let i = c.loop-index.index in
    let steps = c.args.steps.now in
    let step = c.index-steps-index.result in
    let more : take (i + 1) steps ≡ take i steps ++ step ∷ [] =
    take_more steps i step c.loop-index-test.true ∙ ap (λ (x : Step). take i steps ++ x ∷ []) (sym c.index-steps-index.is) in
    subst (λ (l : List Step). IsDrilled (memory_view c.args.disk).content s history durable l c.push_reserved.new.self.items c.in-Ok-run_step.done.0) (sym more)
    (subst (λ (l : List StepAnswer). IsDrilled (memory_view c.args.disk).content s history durable (take i steps ++ step ∷ []) l c.in-Ok-run_step.done.0)
    (sym (rw c.push_reserved.ensures.items (ap (λ (l : List StepAnswer). l ++ c.in-Ok-run_step.done.1 ∷ []) c.reserve.ensures.items)))
    (drilled_more (memory_view c.args.disk).content s history durable (take i steps) c.loop-index.answers.items c.loop-index.broker c.in-Ok-run_step.done.0 step c.in-Ok-run_step.done.1 was
    (λ now stands. c.in-Ok-run_step.ensures.step now stands)))

pub returns-clause-run : goal.returns-clause-run
returns-clause-run c s history durable legal stops =
    subst (λ (l : List Step). IsDrilled (memory_view c.args.disk).content s history durable l c.loop-index.answers.items c.loop-index.broker) (take_all c.loop-index.index c.args.steps.now (omega arith))
    (c.loop-index.invariant s history durable legal stops)

pub returns-then-is_err-clause-failed : goal.returns-then-is_err-clause-failed
returns-then-is_err-clause-failed c s history durable legal stops =
    cut_off (memory_view c.args.disk).content s history durable c.args.steps.now c.loop-index.index c.loop-index.answers.items c.loop-index.broker (c.loop-index.invariant s history durable legal stops) c.index-steps-index.result
    c.loop-index-test.true c.index-steps-index.is open_error.OutOfMemory (inr refl)

pub returns-in-Err-run_step-clause-failed : goal.returns-in-Err-run_step-clause-failed
returns-in-Err-run_step-clause-failed c s history durable legal stops =
    cut_off (memory_view c.args.disk).content s history durable c.args.steps.now c.loop-index.index c.loop-index.answers.items c.loop-index.broker (c.loop-index.invariant s history durable legal stops) c.index-steps-index.result
    c.loop-index-test.true c.index-steps-index.is c.in-Err-run_step.cause c.in-Err-run_step.ensures.needs
