-- The steps of a script, one after another.
use Rattle.std.specs.Prelude.{get_or, IfSome, IfErr, Option, Result, Ok, Err}
use Rattle.std.proofs.lemmas.Option.{slice_get_read}
use Rattle.std.proofs.Common.{◌≡◌, ◌⊎◌, inl, inr, ⊎_elim, ◌+◌, ℕ, ◌<◌, ◌≤◌, Bool, true, false, List, [], ◌∷◌, ◌++◌, length, take, refl, sym, ap, subst, ◌∙◌, arith, length-drop}
use Rattle.sector_disk.specs.declared.disk.Disk.{Ghosts}
use Rattle.retry_rules.specs.declared.settings.Settings.{Settings}
use Rattle.invoke_records.specs.declared.snapshot.Snapshot.{Snapshot}
use Rattle.invoke_records.specs.declared.command.Command.{Command}
use Rattle.async_core.specs.laws.Tables.{number-table_of}
use Rattle.broker_core.specs.declared.broker.Broker.{Broker}
use Rattle.broker_core.specs.declared.error.IssueError.{IssueError}
use Rattle.broker_core.specs.declared.error.IssueError.TheVariants as issue_error
use Rattle.broker_core.specs.declared.error.CommitError.{CommitError}
use Rattle.broker_core.specs.declared.error.CommitError.TheVariants as commit_error
use Rattle.group_commit.specs.declared.script.Step.{Step}
use Rattle.group_commit.specs.declared.script.Step.TheVariants as step
use Rattle.group_commit.specs.declared.script.StepAnswer.{StepAnswer}
use Rattle.group_commit.specs.declared.script.StepAnswer.TheVariants as answer
use Rattle.checkpoint.specs.Image.{HasGeneration}
use Rattle.checkpoint.specs.Live.{generation_of}
use Rattle.broker_core.specs.Broker.{disk_of, settings_of, table_in, pending_of, durable_of, is_broken, opened_of, Stands, IsSameBroker, Commits, Breaks, IsReason}
use Rattle.broker_core.specs.Promises.{HasAllDurable}
use Rattle.broker_core.specs.Refusals.{AnswersAtOnce, NeedsSwitch, NeedsNoSwitch, IsWornOut, HasSwitched}
use Rattle.broker_core.specs.laws.Generations.{broker_generation, one_generation, needs_or_not}
use Rattle.sector_disk.specs.declared.memory.MemDisk.{MemDisk}
use Rattle.sector_disk.specs.Memory.{memory_view}
use Rattle.group_commit.specs.Drill.{Log, opening, IsRefused, IsNotResumed, IsNotCommitted, IsCommittedIn, IsStep, IsRun, MayBeCutOff, IsCutOffAt}
use Rattle.checkpoint.specs.declared.error.OpenError.{OpenError}
use Rattle.group_commit.specs.DrillBroker.{log_of, LeadsOn, HasGenerationOf, KeepsGeneration, IsDrilled}
use Rattle.broker_core.specs.Resume.{IsResumed, IsOwnReason}
use Rattle.broker_core.specs.IssuerBroker.{issuer_of, issuer_laws}
use Rattle.broker_core.specs.laws.Issuer.{refusal_is}

-- it is not broken, since it would answer so
pub unbroken : (b : Bool) → (b ≡ true → ⊥) → b ≡ false
unbroken true never = absurd (never refl)
unbroken false _ = refl

-- why a broker refuses, said of the history that it stands for
pub reason_is : {g : Ghosts MemDisk} (broker : Broker MemDisk g) (history : List Command) → Stands memory_view broker history → (command : Command) (why : IssueError)
    → (is_broken broker ≡ true → why ≡ issue_error.Broken) → IsReason broker command why
    → IsRefused (settings_of broker) (log_of broker history) command why
reason_is broker history stands command issue_error.Broken first is = is
reason_is broker history stands command issue_error.WornOut first is =
    let number : (table_in broker).number ≡ length history = ap (λ (t : Snapshot). t.number) stands.table_is ∙ number-table_of (settings_of broker) history in
    (unbroken (is_broken broker) (λ broken. let wrong = first broken in cc), omega (arith, is, number))
reason_is broker history stands command (issue_error.Illegal why) first is = (
  unbroken (is_broken broker) (λ broken. let wrong = first broken in cc),
  sym (refusal_is (issuer_of memory_view broker) (issuer_laws memory_view broker) history stands command) ∙ is,
)
reason_is broker history stands command issue_error.Backlog first is = (
  unbroken (is_broken broker) (λ broken. let wrong = first broken in cc),
  sym (refusal_is (issuer_of memory_view broker) (issuer_laws memory_view broker) history stands command) ∙ is.0,
  omega (arith, is.1, ap length stands.pending_is, length-drop (durable_of broker) history, stands.durable_is),
)
reason_is broker history stands command issue_error.OutOfMemory first is = (
  unbroken (is_broken broker) (λ broken. let wrong = first broken in cc),
  sym (refusal_is (issuer_of memory_view broker) (issuer_laws memory_view broker) history stands command) ∙ is,
)

-- why a broker is not resumed, said of the history that it stands for
pub not_resumed : {g : Ghosts MemDisk} (broker : Broker MemDisk g) (history : List Command) → Stands memory_view broker history → (now : ℕ) (result : Result (Option ℕ) IssueError) (next : List Command)
    → IsResumed (settings_of broker) history now result next → (is_broken broker ≡ true → result ≡ Err issue_error.Broken) → IfErr result (IsOwnReason broker)
    → IfErr result (IsNotResumed (log_of broker history))
not_resumed broker history stands now (Ok number) next is first reason = tt
not_resumed broker history stands now (Err issue_error.Broken) next is first reason = reason
not_resumed broker history stands now (Err issue_error.WornOut) next is first reason =
    let number : (table_in broker).number ≡ length history = ap (λ (t : Snapshot). t.number) stands.table_is ∙ number-table_of (settings_of broker) history in
    (unbroken (is_broken broker) (λ broken. let wrong = first broken in cc), omega (arith, reason, number))
not_resumed broker history stands now (Err (issue_error.Illegal why)) next is first reason = is.0
not_resumed broker history stands now (Err issue_error.Backlog) next is first reason = (
  unbroken (is_broken broker) (λ broken. let wrong = first broken in cc),
  omega (arith, reason, ap length stands.pending_is, length-drop (durable_of broker) history, stands.durable_is),
)
not_resumed broker history stands now (Err issue_error.OutOfMemory) next is first reason = unbroken (is_broken broker) (λ broken. let wrong = first broken in cc)

-- where something is pending the history is longer than what is durable
pub has_pending : {g : Ghosts MemDisk} (broker : Broker MemDisk g) (history : List Command) → Stands memory_view broker history → 1 ≤ length (pending_of broker) → durable_of broker < length history
has_pending broker history stands some = omega (arith, some, ap length stands.pending_is, length-drop (durable_of broker) history)

some_of : (pending : List Command) → (pending ≡ [] → ⊥) → 1 ≤ length pending
some_of [] never = absurd (never refl)
some_of (c ∷ pending) never = omega arith

-- a commit that does not answer at once has something pending
pub pending_unless : {g : Ghosts MemDisk} (old new : Broker MemDisk g) (history : List Command) → Stands memory_view old history → (why : CommitError)
    → (is_broken old ≡ false → pending_of old ≡ [] → AnswersAtOnce old new (Err why)) → is_broken old ≡ false → durable_of old < length history
pending_unless old new history stands why at_once whole = has_pending old history stands (some_of (pending_of old) (λ none. let wrong = (at_once whole none).0 in cc))

module _ {g : Ghosts MemDisk} (old new : Broker MemDisk g) (history : List Command) (stands : Stands memory_view new history) where
  -- a step that changed nothing
  pub same_log : (step : Step) (answer : StepAnswer) → IsStep (settings_of old) (log_of old history) step answer (log_of old history) → IsSameBroker old new → LeadsOn old history step answer new
  same_log step answer is same = record {
    next = log_of old history;
    step_is = is;
    settings = same.settings;
    durable = same.durable;
    generation = ap generation_of same.opened;
    broken = same.broken;
    stands = stands;
  }

  same_of : (why : CommitError) → ((why ≡ commit_error.Fault) ⊎ IsSameBroker old new) → (why ≡ commit_error.Fault → ⊥) → IsSameBroker old new
  same_of why (inl fault) never = absurd (never fault)
  same_of why (inr same) _ = same

  -- a commit
  pub committed : (n durable : ℕ) → n ≡ durable → is_broken old ≡ false → Stands memory_view old history → Commits old new durable → HasAllDurable new history durable → (NeedsNoSwitch old → HasSwitched 0 old new)
      → (NeedsSwitch old → HasSwitched 1 old new) → LeadsOn old history step.Commit (answer.Number n) new
  committed n durable number whole was commits all stays switches =
      let generation : IsCommittedIn (log_of old history) (generation_of (opened_of new)) =
      ⊎_elim (λ needs. inr (switches needs, has_pending old history was needs.0)) (λ none. inl (omega (arith, stays none))) (needs_or_not old) in
      record {
        next = record (log_of old history) { durable = n; generation = generation_of (opened_of new) };
        step_is = (whole, number ∙ all.0, generation, refl);
        settings = commits.settings;
        durable = sym (number ∙ commits.number);
        generation = refl;
        broken = commits.broken;
        stands = stands;
      }

  -- a switch
  pub switched : (n durable : ℕ) → n ≡ durable → is_broken old ≡ false → Commits old new durable → HasAllDurable new history durable → HasSwitched 1 old new → LeadsOn old history step.Switch (answer.Number n) new
  switched n durable number whole commits all switches = record {
    next = record (log_of old history) { durable = n; generation = generation_of (opened_of old) + 1 };
    step_is = (whole, number ∙ all.0, refl);
    settings = commits.settings;
    durable = sym (number ∙ commits.number);
    generation = switches;
    broken = commits.broken;
    stands = stands;
  }

  -- a commit or a switch that was refused, which is worn out only for its reason, and of which this else is said
  module _ (given : Step) (P : Type 0) (says : P)
      (is_step : (why : CommitError) (next : Log) → IsNotCommitted (log_of old history) why next → P → IsStep (settings_of old) (log_of old history) given (answer.CommitRefused why) next) where
    still : (why : CommitError) → (is_broken old ≡ true → why ≡ commit_error.Broken) → (why ≡ commit_error.Broken → ⊥) → is_broken old ≡ false
    still why first other = unbroken (is_broken old) (λ broken. other (first broken))

    refused : (why : CommitError) → IsNotCommitted (log_of old history) why (log_of old history) → IsSameBroker old new → LeadsOn old history given (answer.CommitRefused why) new
    refused why is same = same_log given (answer.CommitRefused why) (is_step why (log_of old history) is says) same

    pub not_committed : (why : CommitError) → (why ≡ commit_error.Broken → is_broken old ≡ true) → (is_broken old ≡ true → why ≡ commit_error.Broken) → (why ≡ commit_error.BadKind → ⊥)
        → (why ≡ commit_error.WornOut → IsWornOut old) → (why ≡ commit_error.Fault → Breaks old new) → ((why ≡ commit_error.Fault) ⊎ IsSameBroker old new)
        → LeadsOn old history given (answer.CommitRefused why) new
    not_committed commit_error.Broken told first sound worn breaks kept = refused commit_error.Broken (told refl, refl) (same_of commit_error.Broken kept (λ wrong. cc))
    not_committed commit_error.Fault told first sound worn breaks kept =
        let broke = breaks refl in
        record {
          next = record (log_of old history) { broken = true };
          step_is = is_step commit_error.Fault _ (still commit_error.Fault first (λ wrong. cc), refl) says;
          settings = broke.settings;
          durable = broke.durable;
          generation = ap generation_of broke.opened;
          broken = broke.broken;
          stands = stands;
        }
    not_committed commit_error.BadKind told first sound worn breaks kept = absurd (sound refl)
    not_committed commit_error.WornOut told first sound worn breaks kept =
        refused commit_error.WornOut (still commit_error.WornOut first (λ wrong. cc), worn refl, refl) (same_of commit_error.WornOut kept (λ wrong. cc))
    not_committed commit_error.OutOfMemory told first sound worn breaks kept =
        refused commit_error.OutOfMemory (still commit_error.OutOfMemory first (λ wrong. cc), refl) (same_of commit_error.OutOfMemory kept (λ wrong. cc))

-- ## A stop

-- what was opened of what a broker left has the generation that the broker had, unless that was broken
pub kept_by : {g : Ghosts MemDisk} (old new : Broker MemDisk g) (closed after : MemDisk) (history : List Command) → closed ≡ disk_of old → (memory_view closed).may_leave (memory_view after).content
    → Stands memory_view old history → HasGenerationOf (memory_view after).content new → KeepsGeneration old new
kept_by old new closed after history same possible stands has whole =
    let content = (memory_view after).content in
    let left = subst (λ (disk : MemDisk). (memory_view disk).may_leave content) same possible in
    let is : content ≡ (memory_view (disk_of old)).content = (stands.live whole tt).settled content left in
    one_generation _ _ content has (subst (HasGeneration (generation_of (opened_of old))) (sym is) (broker_generation memory_view old history stands whole tt))

-- ## A run

-- a script with one step more
pub run_more : (s : Settings) (steps : List Step) (answers : List StepAnswer) (start mid end : Log) (step : Step) (answer : StepAnswer) → IsRun s start steps answers mid → IsStep s mid step answer end
    → IsRun s start (steps ++ step ∷ []) (answers ++ answer ∷ []) end
run_more s [] [] start mid end step answer run is = (end, subst (λ (log : Log). IsStep s log step answer end) run is, refl)
run_more s [] (a ∷ answers) start mid end step answer run is = absurd run
run_more s (x ∷ steps) [] start mid end step answer run is = absurd run
run_more s (x ∷ steps) (a ∷ answers) start mid end step answer run is = (run.0, run.1, run_more s steps answers run.0 mid end step answer run.2 is)

module _ {g : Ghosts MemDisk} (content : List ℕ) (s : Settings) (history : List Command) (durable : ℕ) where
  -- before the first step
  pub drilled_none : (broker : Broker MemDisk g) (answers : List StepAnswer) → answers ≡ [] → durable ≤ durable_of broker → durable_of broker ≤ length history → settings_of broker ≡ s → is_broken broker ≡ false
      → Stands memory_view broker (take (durable_of broker) history) → HasGenerationOf content broker → IsDrilled content s history durable [] answers broker
  drilled_none broker answers none least most settings whole stands generation =
      subst (λ (l : List StepAnswer). IsDrilled content s history durable [] l broker) (sym none)
      (record {
        opened = durable_of broker;
        least = least;
        most = most;
        generation = generation_of (opened_of broker);
        generation_is = generation;
        end = opening history (durable_of broker) (generation_of (opened_of broker));
        run = refl;
        settings = settings;
        durable_is = refl;
        generation_now = refl;
        broken_is = whole;
        stands = stands;
      })

  -- after one step more
  pub drilled_more : (steps : List Step) (answers : List StepAnswer) (old new : Broker MemDisk g) (step : Step) (answer : StepAnswer) → IsDrilled content s history durable steps answers old
      → ((now : List Command) → Stands memory_view old now → LeadsOn old now step answer new) → IsDrilled content s history durable (steps ++ step ∷ []) (answers ++ answer ∷ []) new
  drilled_more steps answers old new step answer was leads =
      let led = leads was.end.history was.stands in
      let here : IsStep s was.end step answer led.next =
      subst (λ (log : Log). IsStep s log step answer led.next)
      (λ i. record { history = was.end.history; durable = was.durable_is i; generation = was.generation_now i; broken = was.broken_is i })
      (subst (λ (r : Settings). IsStep r (log_of old was.end.history) step answer led.next) was.settings led.step_is) in
      record {
        opened = was.opened;
        least = was.least;
        most = was.most;
        generation = was.generation;
        generation_is = was.generation_is;
        end = led.next;
        run = run_more s steps answers _ was.end led.next step answer was.run here;
        settings = led.settings ∙ was.settings;
        durable_is = led.durable;
        generation_now = led.generation;
        broken_is = led.broken;
        stands = led.stands;
      }

-- a script cut off at its next step
pub cut_off : {g : Ghosts MemDisk} (content : List ℕ) (s : Settings) (history : List Command) (durable : ℕ) (steps : List Step) (index : ℕ) (answers : List StepAnswer) (broker : Broker MemDisk g)
    → IsDrilled content s history durable (take index steps) answers broker → (step : Step) → index < length steps → step ≡ get_or steps index step → (cause : OpenError) → MayBeCutOff step cause
    → IsCutOffAt content s history durable steps index cause
cut_off content s history durable steps index answers broker was step within is cause may = record {
  opened = was.opened;
  least = was.least;
  most = was.most;
  generation = was.generation;
  generation_is = was.generation_is;
  answers = answers;
  end = was.end;
  run = was.run;
  needs = subst (λ (found : Option Step). IfSome found (λ step. MayBeCutOff step cause)) (sym (slice_get_read steps (length steps) index step refl within is)) may;
}
