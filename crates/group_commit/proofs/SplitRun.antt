-- A script of two halves, as far as it was run.
use Rattle.std.proofs.Common.{◌≡◌, ℕ, ◌<◌, List, [], ◌∷◌, ◌++◌, length, take, get_or, Option, refl, sym, subst}
use Rattle.std.specs.Prelude.{IfSome}
use Rattle.std.proofs.lemmas.Option.{slice_get_read}
use Rattle.retry_rules.specs.declared.settings.Settings.{Settings}
use Rattle.invoke_records.specs.declared.command.Command.{Command}
use Rattle.checkpoint.specs.declared.error.OpenError.{OpenError}
use Rattle.group_commit.specs.declared.split_script.SplitStep.{SplitStep}
use Rattle.group_commit.specs.declared.split_script.SplitAnswer.{SplitAnswer}
use Rattle.group_commit.specs.declared.split_drilling.Halves.{Halves}
use Rattle.broker_core.specs.IssuerHalf.{half_view}
use Rattle.group_commit.specs.SplitDrill.{SplitLog, IsSplitStep, IsSplitRun, MayBeCutOff, IsSplitCutOffAt, recovered}
use Rattle.group_commit.specs.SplitSteps.{generation_in, IsBegun, HaveGenerationOf, Leads, IsSplitDrilledOn}

-- a script with one step more
pub run_more : (s : Settings) (steps : List SplitStep) (answers : List SplitAnswer) (start mid end : SplitLog) (step : SplitStep) (answer : SplitAnswer) → IsSplitRun s start steps answers mid
    → IsSplitStep s mid step answer end → IsSplitRun s start (steps ++ step ∷ []) (answers ++ answer ∷ []) end
run_more s [] [] start mid end step answer run is = (end, subst (λ (log : SplitLog). IsSplitStep s log step answer end) run is, refl)
run_more s [] (a ∷ answers) start mid end step answer run is = absurd run
run_more s (x ∷ steps) [] start mid end step answer run is = absurd run
run_more s (x ∷ steps) (a ∷ answers) start mid end step answer run is = (run.0, run.1, run_more s steps answers run.0 mid end step answer run.2 is)

module _ (content : List ℕ) (s : Settings) (history : List Command) (durable : ℕ) where
  -- before the first step
  pub drilled_none : (halves : Halves) (answers : List SplitAnswer) → answers ≡ [] → IsBegun s history durable halves → HaveGenerationOf content halves → IsSplitDrilledOn content s history durable [] answers halves
  drilled_none halves answers none begun has =
      subst (λ (l : List SplitAnswer). IsSplitDrilledOn content s history durable [] l halves) (sym none)
      (record {
        opened = (half_view halves.issue).durable;
        least = begun.0;
        most = begun.1;
        generation = generation_in halves;
        generation_is = has;
        end = recovered (take (half_view halves.issue).durable history) (generation_in halves);
        run = refl;
        keeps = begun.2;
      })

  -- after one step more
  pub drilled_more : (steps : List SplitStep) (answers : List SplitAnswer) (old new : Halves) (step : SplitStep) (answer : SplitAnswer) → IsSplitDrilledOn content s history durable steps answers old
      → Leads old step answer new → IsSplitDrilledOn content s history durable (steps ++ step ∷ []) (answers ++ answer ∷ []) new
  drilled_more steps answers old new step answer was leads =
      let led = leads s was.end was.keeps in
      record {
        opened = was.opened;
        least = was.least;
        most = was.most;
        generation = was.generation;
        generation_is = was.generation_is;
        end = led.0;
        run = run_more s steps answers _ was.end led.0 step answer was.run led.1;
        keeps = led.2;
      }

  -- a script cut off at its next step
  pub cut_off : (steps : List SplitStep) (index : ℕ) (answers : List SplitAnswer) (halves : Halves) → IsSplitDrilledOn content s history durable (take index steps) answers halves → (step : SplitStep)
      → index < length steps → step ≡ get_or steps index step → (cause : OpenError) → MayBeCutOff step cause → IsSplitCutOffAt content s history durable steps index cause
  cut_off steps index answers halves was step within is cause may = record {
    opened = was.opened;
    least = was.least;
    most = was.most;
    generation = was.generation;
    generation_is = was.generation_is;
    answers = answers;
    end = was.end;
    run = was.run;
    needs = subst (λ (found : Option SplitStep). IfSome found (λ step. MayBeCutOff step cause)) (sym (slice_get_read steps (length steps) index step refl within is)) may;
  }
