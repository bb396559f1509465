-- The steps of a script of two halves, one after another.
use Rattle.std.proofs.Common.{◌≡◌, ◌⊎◌, inl, inr, ⊎_elim, ℕ, zero, suc, ◌+◌, ◌-◌, ◌^◌, ◌<◌, ◌≤◌, Bool, true, false, List, [], ◌∷◌, ◌++◌, length, take, drop, get_or, Option, None, Some, refl, sym, ap, subst, ◌∙◌, arith, length-append, length-drop, get_or-drop, get_or-take}
use Rattle.std.specs.Prelude.{IfSome, IfOk, IfErr, IsSome, OnOk, Result, Ok, Err, slice_get, is_some}
use Rattle.std.proofs.lemmas.Bool.{false≢true}
use Rattle.std.proofs.lemmas.List.{length-take, take-take, take-append-le, take_all, drop-drop}
use Rattle.std.proofs.lemmas.Option.{slice_get_read, get_or_from_slice_get, none-some}
use Rattle.sector_disk.specs.declared.disk.Disk.{Ghosts}
use Rattle.sector_disk.specs.declared.memory.MemDisk.{MemDisk}
use Rattle.sector_disk.specs.Memory.{memory_view}
use Rattle.retry_rules.specs.declared.settings.Settings.{Settings}
use Rattle.invoke_records.specs.declared.snapshot.Snapshot.{Snapshot}
use Rattle.invoke_records.specs.declared.command.Command.{Command}
use Rattle.async_core.specs.declared.illegal.Illegal.{Illegal}
use Rattle.async_core.specs.Rules.{refusal_at}
use Rattle.async_core.specs.History.{IsLegal, refusal_of}
use Rattle.async_core.specs.laws.Tables.{number-table_of}
use Rattle.gate_journal.specs.declared.staged.Staged.{Staged}
use Rattle.broker_core.specs.declared.broker.Broker.{Broker}
use Rattle.broker_core.specs.declared.batch.Batch.{Batch}
use Rattle.broker_core.specs.declared.batch.Written.{Written}
use Rattle.broker_core.specs.declared.batch.Failed.{Failed}
use Rattle.broker_core.specs.declared.issue_half.IssueHalf.{IssueHalf}
use Rattle.broker_core.specs.declared.error.IssueError.{IssueError}
use Rattle.broker_core.specs.declared.error.IssueError.TheVariants as issue_error
use Rattle.broker_core.specs.declared.error.LendError.{LendError}
use Rattle.broker_core.specs.declared.error.LendError.TheVariants as lend_error
use Rattle.broker_core.specs.declared.error.WriteError.{WriteError}
use Rattle.broker_core.specs.declared.error.WriteError.TheVariants as write_error
use Rattle.broker_core.specs.declared.error.SettleError.{SettleError}
use Rattle.broker_core.specs.declared.error.SettleError.TheVariants as settle_error
use Rattle.group_commit.specs.declared.split_script.SplitStep.TheVariants as step
use Rattle.group_commit.specs.declared.split_script.SplitAnswer.TheVariants as answer
use Rattle.group_commit.specs.declared.split_drilling.Halves.{Halves}
use Rattle.group_commit.specs.declared.split_drilling.Held.{Held}
use Rattle.group_commit.specs.declared.split_drilling.Held.TheVariants as held
use Rattle.checkpoint.specs.Live.{generation_of}
use Rattle.broker_core.specs.Broker.{settings_of, table_in, issued_of, durable_of, is_broken, opened_of, staged_of, Stands}
use Rattle.group_commit.specs.DrillBroker.{IsStarted, KeepsGeneration}
use Rattle.broker_core.specs.Issuer.{issued_in, IsSameIssuer, IsReason}
use Rattle.broker_core.specs.laws.Issuer.{refusal_is}
use Rattle.broker_core.specs.IssuerHalf.{half_view, half_laws, lent_of}
use Rattle.broker_core.specs.Batch.{first_of, last_of, commands_of, cause_of, last_written, first_in, last_in, is_lasting}
use Rattle.broker_core.specs.Lending.{CanLend, Lends, IsLendReason, IsOut, SettlesBy, IsNotSettled}
use Rattle.broker_core.specs.Splitting.{broker_of}
use Rattle.broker_core.specs.Writing.{taken_from, missing_in, EndsWith, IsFrontOf, IsRefusedAs, IsWriteReason, NextIsIllegal, StaysInFront, Writes, HasSwitchedFor, IsNotWritten}
use Rattle.group_commit.specs.Drill.{IsRefused}
use Rattle.group_commit.specs.SplitDrill.{SplitLog, IsSplitStep, MayLend, HasLent, IsNotLent, IsWriteFailure, IsStagedBehind, issue_log, recovered, is_disk_broken}
use Rattle.group_commit.specs.SplitSteps.{generation_in, IsHeld, Keeps, IsBegun, IsStopped, told, write_answer, out_alone, staged_to}
use Rattle.group_commit.proofs.Drilled.{unbroken}
use Rattle.broker_core.specs.IssuerBroker.{issuer_of, issuer_laws}

-- how many commands a broker has that stands for a list
pub number : {g : Ghosts MemDisk} (broker : Broker MemDisk g) (history : List Command) → Stands memory_view broker history → issued_of broker ≡ length history
number broker history stands = ap (λ (t : Snapshot). t.number) stands.table_is ∙ number-table_of (settings_of broker) history

-- what is staged comes behind what is written, and is not more than what was issued
staged_by : {g : Ghosts MemDisk} (broker : Broker MemDisk g) (group : Option Staged) → staged_of broker ≡ group → (n : ℕ) → durable_of broker ≡ n
    → IsStagedBehind n (issued_of broker) (staged_to n group)
staged_by broker None is n written = tt
staged_by broker (Some group) is n written =
    let front = broker.front group is in (omega (arith, front.0), omega (arith, front.1, broker.counted, written))

behind_most : (n issued lent : ℕ) (staged : Option ℕ) → issued ≤ lent → IsStagedBehind n issued staged → IsStagedBehind n lent staged
behind_most n issued lent None most is = tt
behind_most n issued lent (Some staged) most is = (is.0, omega (arith, is.1, most))

pub staged_behind : {g : Ghosts MemDisk} (broker : Broker MemDisk g) (n lent : ℕ) → durable_of broker ≡ n → issued_of broker ≤ lent → IsStagedBehind n lent (staged_to n (staged_of broker))
staged_behind broker n lent written most = behind_most n (issued_of broker) lent (staged_to n (staged_of broker)) most (staged_by broker (staged_of broker) refl n written)

none_behind : (n : ℕ) (staged : Option ℕ) → IsStagedBehind n n staged → staged ≡ None
none_behind n None is = refl
none_behind n (Some staged) is = absurd (omega (arith, is.0, is.1))

-- where all is durable nothing is staged
pub none_staged : {g : Ghosts MemDisk} (broker : Broker MemDisk g) (n : ℕ) → durable_of broker ≡ n → issued_of broker ≡ n → staged_to n (staged_of broker) ≡ None
none_staged broker n written all = none_behind n (staged_to n (staged_of broker)) (staged_behind broker n n written (omega (arith, all)))

-- ## An opening

pub begun : (s : Settings) (history : List Command) (durable : ℕ) (halves : Halves) → IsStarted s history durable (broker_of halves.disk) → halves.held ≡ held.Nothing
    → (half_view halves.issue).settings ≡ settings_of (broker_of halves.disk) → (half_view halves.issue).durable ≡ durable_of (broker_of halves.disk)
    → (half_view halves.issue).broken ≡ false → lent_of halves.issue ≡ None → (half_view halves.issue).stands (take (durable_of (broker_of halves.disk)) history)
    → IsBegun s history durable halves
begun s history durable halves started nothing settings same whole unlent stands =
    let broker = broker_of halves.disk in
    let d = durable_of broker in
    let l = take d history in
    let size : length l ≡ d = omega (arith, length-take d history, started.1) in
    let issued : issued_of broker ≡ d = number broker l started.4 ∙ size in
    let n = (half_view halves.issue).durable in
    let front : take n history ≡ l = ap (λ (k : ℕ). take k history) same in
    let all : take (issued_of broker) l ≡ l = take_all (issued_of broker) l (omega (arith, issued, size)) in
    let keeps : Keeps s (recovered l (generation_in halves)) halves = record {
      settings = settings ∙ started.2;
      durable = same ∙ sym size;
      broken = whole;
      stands = stands;
      disk_settings = started.2;
      disk_durable = sym size;
      generation = refl;
      disk_broken = started.3;
      disk_most = omega (arith, issued, size);
      disk_stands = subst (λ (x : List Command). Stands memory_view broker x) (sym all) started.4;
      settled = omega arith;
      lent = omega arith;
      held_is = subst (IsHeld (recovered l (generation_in halves)) (lent_of halves.issue)) (sym nothing) (refl, refl, unlent, refl);
      staged = sym (none_staged broker (length l) (sym size) (issued ∙ sym size));
      all_out = λ out. absurd (false≢true out);
    } in
    (omega (arith, same, started.0), omega (arith, same, started.1), subst (λ (x : List Command). Keeps s (recovered x (generation_in halves)) halves) (sym front) keeps)

-- ## Issuing

held_longer : (log : SplitLog) (c : Command) (out : Option ℕ) (held : Held) → log.lent ≤ length log.history → IsHeld log out held → IsHeld (record log { history = log.history ++ c ∷ [] }) out held
held_longer log c out held.Nothing within is = is
held_longer log c out (held.Lent batch) within is = (
  is.0,
  is.1,
  is.2,
  is.3,
  is.4,
  is.5 ∙ ap (λ (l : List Command). drop log.durable l) (sym (take-append-le log.lent log.history (c ∷ []) within)),
  is.6,
  is.7,
)
held_longer log c out (held.Done outcome) within is = is

pub keeps_issued : (s : Settings) (log : SplitLog) (old : Halves) (issue : IssueHalf) (c : Command) → Keeps s log old → (half_view issue).settings ≡ (half_view old.issue).settings
    → (half_view issue).durable ≡ (half_view old.issue).durable → (half_view issue).broken ≡ (half_view old.issue).broken → lent_of issue ≡ lent_of old.issue
    → (half_view issue).stands (log.history ++ c ∷ []) → Keeps s (record log { history = log.history ++ c ∷ [] }) (record old { issue = issue })
keeps_issued s log old issue c keeps settings durable broken out stands = record {
  settings = settings ∙ keeps.settings;
  durable = durable ∙ keeps.durable;
  broken = broken ∙ keeps.broken;
  stands = stands;
  disk_settings = keeps.disk_settings;
  disk_durable = keeps.disk_durable;
  generation = keeps.generation;
  disk_broken = keeps.disk_broken;
  disk_most = keeps.disk_most;
  disk_stands =
      subst (λ (l : List Command). Stands memory_view (broker_of old.disk) l)
      (sym (take-append-le (issued_of (broker_of old.disk)) log.history (c ∷ []) (omega (arith, keeps.disk_most, keeps.lent)))) keeps.disk_stands;
  settled = keeps.settled;
  lent = omega (arith, keeps.lent, length-append log.history (c ∷ []));
  held_is =
      subst (λ (o : Option ℕ). IsHeld (record log { history = log.history ++ c ∷ [] }) o old.held) (sym out)
      (held_longer log c (lent_of old.issue) old.held keeps.lent keeps.held_is);
  staged = keeps.staged;
  all_out = keeps.all_out;
}

-- the issue half has changed in nothing that counts
pub keeps_same : (s : Settings) (log : SplitLog) (old : Halves) (issue : IssueHalf) → Keeps s log old → IsSameIssuer (half_view old.issue) (half_view issue) → lent_of issue ≡ lent_of old.issue
    → Keeps s log (record old { issue = issue })
keeps_same s log old issue keeps same out = record {
  settings = same.settings ∙ keeps.settings;
  durable = same.durable ∙ keeps.durable;
  broken = same.broken ∙ keeps.broken;
  stands = (same.stands log.history).1 keeps.stands;
  disk_settings = keeps.disk_settings;
  disk_durable = keeps.disk_durable;
  generation = keeps.generation;
  disk_broken = keeps.disk_broken;
  disk_most = keeps.disk_most;
  disk_stands = keeps.disk_stands;
  settled = keeps.settled;
  lent = keeps.lent;
  held_is = subst (λ (o : Option ℕ). IsHeld log o old.held) (sym out) keeps.held_is;
  staged = keeps.staged;
  all_out = keeps.all_out;
}

-- another reason than that it is broken
still_whole : (was is : Bool) (why : IssueError) → was ≡ is → (was ≡ true → why ≡ issue_error.Broken) → (why ≡ issue_error.Broken → ⊥) → is ≡ false
still_whole was is why same first other = sym same ∙ unbroken was (λ broken. other (first broken))

reason_by : (s : Settings) (log : SplitLog) (issue : IssueHalf) (c : Command) (why : IssueError) → refusal_at (half_view issue).settings (half_view issue).table c ≡ refusal_of s log.history c
    → (half_view issue).durable ≡ log.durable → (half_view issue).broken ≡ log.broken → ((half_view issue).broken ≡ true → why ≡ issue_error.Broken) → issued_in (half_view issue) ≡ length log.history
    → IsReason (half_view issue) c why → IsRefused s (issue_log log) c why
reason_by s log issue c issue_error.Broken same durable broken first number reason = sym broken ∙ reason
reason_by s log issue c issue_error.WornOut same durable broken first number reason =
    (still_whole (half_view issue).broken log.broken issue_error.WornOut broken first (λ wrong. cc), omega (arith, number, reason))
reason_by s log issue c (issue_error.Illegal why) same durable broken first number reason =
    (still_whole (half_view issue).broken log.broken (issue_error.Illegal why) broken first (λ wrong. cc), sym same ∙ reason)
reason_by s log issue c issue_error.Backlog same durable broken first number reason = (
  still_whole (half_view issue).broken log.broken issue_error.Backlog broken first (λ wrong. cc),
  sym same ∙ reason.0,
  omega (arith, issue.counted, reason.1, number, durable),
)
reason_by s log issue c issue_error.OutOfMemory same durable broken first number reason =
    (still_whole (half_view issue).broken log.broken issue_error.OutOfMemory broken first (λ wrong. cc), sym same ∙ reason)

-- why a half refuses, said of the list that it stands for
pub reason_is : (s : Settings) (log : SplitLog) (halves : Halves) → Keeps s log halves → (c : Command) (why : IssueError) → ((half_view halves.issue).broken ≡ true → why ≡ issue_error.Broken)
    → IsReason (half_view halves.issue) c why → IsRefused s (issue_log log) c why
reason_is s log halves keeps c why first reason =
    let issue = halves.issue in
    let whole = (half_laws issue).each log.history keeps.stands in
    let same : refusal_at (half_view issue).settings (half_view issue).table c ≡ refusal_of s log.history c =
    refusal_is (half_view issue) (half_laws issue) log.history keeps.stands c ∙ ap (λ (r : Settings). refusal_of r log.history c) keeps.settings in
    reason_by s log issue c why same keeps.durable keeps.broken first whole.issued_is reason

-- ## What is out

-- a half of which a batch is out is whole
pub whole_while : (issue : IssueHalf) (last : ℕ) → lent_of issue ≡ Some last → (half_view issue).broken ≡ false
whole_while issue last out = issue.sound (ap (λ (o : Option ℕ). is_some o) out)

-- where none is out, none is held, and none is out by advances
pub none_alone : (is_out : Bool) (lent : ℕ) → out_alone is_out lent ≡ None → is_out ≡ false
none_alone true lent none = absurd (none-some lent (sym none))
none_alone false lent none = refl

pub some_alone : (is_out : Bool) (lent : ℕ) → IsSome (out_alone is_out lent) → is_out ≡ true
some_alone true lent some = refl
some_alone false lent some = absurd (false≢true some)

none_held : (log : SplitLog) (out : Option ℕ) (held : Held) → out ≡ None → IsHeld log out held
    → (log.has_batch ≡ false) × (log.unsettled ≡ None) × (log.out ≡ false) × (log.durable ≡ log.written)
none_held log out held.Nothing none is = (is.0, is.1, none_alone log.out log.lent (sym is.2 ∙ none), is.3)
none_held log out (held.Lent batch) none is = absurd (none-some log.lent (sym none ∙ is.2))
none_held log out (held.Done outcome) none is = absurd (none-some log.lent (sym none ∙ is.2))

-- and where one is, it is held, or its result is, or it is out by advances
one_held : (log : SplitLog) (out : Option ℕ) (held : Held) → IsSome out → IsHeld log out held → HasLent log
one_held log out held.Nothing some is = inr (some_alone log.out log.lent (subst (λ (o : Option ℕ). IsSome o) is.2 some))
one_held log out (held.Lent batch) some is = inl (inl is.0)
one_held log out (held.Done outcome) some is = inl (inr (ap (λ (o : Option (Result ℕ WriteError)). is_some o) is.1))

-- ## Lending

module _ (s : Settings) (log : SplitLog) (old : Halves) (issue : IssueHalf) (keeps : Keeps s log old) where
  may_lend : CanLend old.issue → MayLend log
  may_lend can =
      let none = none_held log (lent_of old.issue) old.held can.unlent keeps.held_is in
      record { whole = sym keeps.broken ∙ can.whole; no_batch = none.0; no_result = none.1; none_out = none.2 }

  -- the list ends where the half's does
  end_is : issued_in (half_view old.issue) ≡ length log.history
  end_is = ((half_laws old.issue).each log.history keeps.stands).issued_is

  more : 1 ≤ length (half_view old.issue).pending → log.durable < length log.history
  more some = omega (arith, some, end_is, keeps.durable, old.issue.counted)

  pub lent_more : (batch : Batch) → IsSameIssuer (half_view old.issue) (half_view issue) → CanLend old.issue → Lends old.issue issue (Some batch)
      → (next : SplitLog) × IsSplitStep s log step.Lend (answer.Number (last_of batch)) next × Keeps s next (record old { issue = issue; held = held.Lent batch })
  lent_more batch same can lends =
      let n = last_of batch in
      let all = lends.1 in
      let size : n ≡ length log.history = all.last ∙ end_is in
      let pending = ((half_laws old.issue).each log.history keeps.stands).pending_is in
      let may = may_lend can in (
        record log { lent = n; has_batch = true },
        (may, more lends.0, size, refl),
        record {
          settings = same.settings ∙ keeps.settings;
          durable = same.durable ∙ keeps.durable;
          broken = same.broken ∙ keeps.broken;
          stands = (same.stands log.history).1 keeps.stands;
          disk_settings = keeps.disk_settings;
          disk_durable = keeps.disk_durable;
          generation = keeps.generation;
          disk_broken = keeps.disk_broken;
          disk_most = omega (arith, keeps.disk_most, keeps.lent, size);
          disk_stands = keeps.disk_stands;
          settled = keeps.settled;
          lent = omega (arith, size);
          held_is = (
            refl,
            may.no_result,
            lends.2,
            omega (arith, all.first, keeps.durable),
            refl,
            all.commands ∙ pending ∙ ap (λ (k : ℕ). drop k log.history) keeps.durable
                ∙ ap (λ (l : List Command). drop log.durable l) (sym (take_all n log.history (omega (arith, size)))),
            may.none_out,
            (none_held log (lent_of old.issue) old.held can.unlent keeps.held_is).3,
          );
          staged = keeps.staged;
          all_out = λ out. absurd (false≢true (sym may.none_out ∙ out));
        },
      )

  pub lent_none : IsSameIssuer (half_view old.issue) (half_view issue) → CanLend old.issue → Lends old.issue issue None
      → (next : SplitLog) × IsSplitStep s log step.Lend answer.Idle next × Keeps s next (record old { issue = issue })
  lent_none same can lends = (
    log,
    (may_lend can, omega (arith, ap length lends.0, end_is, keeps.durable, old.issue.counted), refl),
    keeps_same s log old issue keeps same (lends.1 ∙ sym can.unlent),
  )

  not_lent : (why : LendError) → IsLendReason old.issue why → IsNotLent log why
  not_lent lend_error.Broken reason = sym keeps.broken ∙ reason
  not_lent lend_error.Lent reason = (sym keeps.broken ∙ reason.0, one_held log (lent_of old.issue) old.held reason.1 keeps.held_is)
  not_lent lend_error.OutOfMemory reason = (may_lend reason.0, more reason.1)

  pub lend_refused : (why : LendError) → IsSameIssuer (half_view old.issue) (half_view issue) → lent_of issue ≡ lent_of old.issue → IsLendReason old.issue why
      → (next : SplitLog) × IsSplitStep s log step.Lend (answer.LendRefused why) next × Keeps s next (record old { issue = issue })
  lend_refused why same out reason = (log, (not_lent why reason, refl), keeps_same s log old issue keeps same out)

-- ## Writing

-- a half over the disk that stood for a front of what was lent does so after a write
pub front_on : {g : Ghosts MemDisk} (old new : Broker MemDisk g) (batch : Batch) (history : List Command) (durable lent : ℕ) → issued_of old ≤ lent → lent ≤ length history
    → first_of batch ≡ durable + 1 → last_of batch ≡ lent → commands_of batch ≡ drop durable (take lent history) → Stands memory_view old (take (issued_of old) history)
    → ((h : List Command) → Stands memory_view old h → Stands memory_view new (h ++ taken_from old new batch)) → StaysInFront memory_view old new batch
    → (issued_of new ≤ lent) × Stands memory_view new (take (issued_of new) history)
front_on old new batch history durable lent most within first last commands stands goes front =
    let whole = take lent history in
    let before = take (issued_of old) history in
    let after = before ++ taken_from old new batch in
    let size : length whole ≡ lent = omega (arith, length-take lent history, within) in
    let front_size : length before ≡ issued_of old = omega (arith, length-take (issued_of old) history, within, most) in
    let ends : EndsWith whole batch = record {
      last = last ∙ sym size;
      commands = commands ∙ ap (λ (n : ℕ). drop n whole) (omega (arith, first));
    } in
    let was : IsFrontOf before whole = sym (take-take (issued_of old) lent history most) ∙ ap (λ (n : ℕ). take n whole) (sym front_size) in
    let is : after ≡ take (length after) whole = front whole ends before stands was in
    let now = goes before stands in
    let n : issued_of new ≡ length after = number new after now in
    let less : length after ≤ lent = omega (arith, ap length is, length-take (length after) whole, size) in
    let same : after ≡ take (issued_of new) history =
    is ∙ ap (λ (k : ℕ). take k whole) (sym n) ∙ take-take (issued_of new) lent history (omega (arith, n, less)) in
    (omega (arith, n, less), subst (λ (l : List Command). Stands memory_view new l) same now)

-- ### Why it is not written

found_at : (xs : List Command) (n : ℕ) → n < length xs → (c : Command) × (slice_get xs n ≡ Some c)
found_at [] n within = absurd (omega arith)
found_at (c ∷ xs) zero within = (c, refl)
found_at (c ∷ xs) (suc n) within = found_at xs n (omega arith)

-- a command of a middle part of a list
found_between : (xs : List Command) (from to n : ℕ) (c : Command) → from ≤ n → n < to → to ≤ length xs → slice_get xs n ≡ Some c → slice_get (drop from (take to xs)) (n - from) ≡ Some c
found_between xs from to n c least most within found =
    let size : length (drop from (take to xs)) ≡ to - from = length-drop from (take to xs) ∙ omega (arith, length-take to xs, within) in
    let place : from + (n - from) ≡ n = omega arith in
    let is : get_or (drop from (take to xs)) (n - from) c ≡ c =
    get_or-drop from (take to xs) (n - from) c
    ∙ ap (λ (k : ℕ). get_or (take to xs) k c) place
    ∙ get_or-take to xs n c most
    ∙ get_or_from_slice_get xs n c c found in
    slice_get_read (drop from (take to xs)) (length (drop from (take to xs))) (n - from) c refl (omega (arith, size)) (sym is)

-- a refusal of what is not refused
refused_none : (refusal : Option Illegal) → refusal ≡ None → IsSome refusal → ⊥
refused_none refusal none some = false≢true (sym (ap (λ (r : Option Illegal). is_some r) none) ∙ some)

module _ {g : Ghosts MemDisk} (old new : Broker MemDisk g) (batch : Batch) (history : List Command) (durable lent : ℕ) (first : first_of batch ≡ durable + 1) (last : last_of batch ≡ lent)
    (commands : commands_of batch ≡ drop durable (take lent history)) (least : durable ≤ issued_of old) (most : issued_of old ≤ lent) (within : lent ≤ length history) where
  not_apart : (issued_of old + 1 < first_of batch) ⊎ (last_of batch < issued_of old) → ⊥
  not_apart (inl gap) = omega (arith, gap, first, least)
  not_apart (inr short) = omega (arith, short, last, most)

  missing_is : missing_in old batch ≡ drop (issued_of old) (take lent history)
  missing_is =
      ap (drop (issued_of old + 1 - first_of batch)) commands
      ∙ drop-drop (issued_of old + 1 - first_of batch) durable (take lent history)
      ∙ ap (λ (n : ℕ). drop n (take lent history)) (omega (arith, first, least))

  -- the next command is legal
  not_illegal : IsLegal (settings_of new) history → Stands memory_view new (take (issued_of new) history) → issued_of old ≤ issued_of new → NextIsIllegal old new batch → ⊥
  not_illegal legal stands longer illegal =
      let n = issued_of new in
      let below : n < lent = omega (arith, illegal.1, last) in
      let found = found_at history n (omega (arith, below, within)) in
      let c = found.0 in
      let there : slice_get (missing_in old batch) (n - issued_of old) ≡ Some c =
      ap (λ (l : List Command). slice_get l (n - issued_of old)) missing_is ∙ found_between history (issued_of old) lent n c longer below within found.1 in
      let passes : refusal_at (settings_of new) (table_in new) c ≡ None =
      refusal_is (issuer_of memory_view new) (issuer_laws memory_view new) (take n history) stands c ∙ legal.each n c found.1 in
      refused_none (refusal_at (settings_of new) (table_in new) c) passes
      (subst (λ (o : Option Command). IfSome o (λ command. IsSome (refusal_at (settings_of new) (table_in new) command))) there illegal.0)

  pub failure_is : (why : WriteError) → IsWriteReason old batch new why → is_broken old ≡ false → IsLegal (settings_of new) history → Stands memory_view new (take (issued_of new) history)
      → issued_of old ≤ issued_of new → (why ≡ write_error.BadKind → ⊥) → lent ≤ durable_of new + 256 → (log : SplitLog) → generation_of (opened_of new) ≡ log.generation → IsWriteFailure log why
  failure_is write_error.Broken reason whole legal stands longer good few log generation = false≢true (sym whole ∙ reason)
  failure_is write_error.Mismatch reason whole legal stands longer good few log generation = ⊎_elim (λ apart. not_apart apart) (λ illegal. not_illegal legal stands longer illegal) reason
  failure_is write_error.WornOut reason whole legal stands longer good few log generation = subst (λ (n : ℕ). 2 ^ 62 ≤ n) generation reason.1
  failure_is write_error.Backlog reason whole legal stands longer good few log generation = omega (arith, reason.0, reason.1, last, few, new.counted)
  failure_is write_error.BadKind reason whole legal stands longer good few log generation = good refl
  failure_is write_error.OutOfMemory reason whole legal stands longer good few log generation = tt
  failure_is write_error.Fault reason whole legal stands longer good few log generation = tt

-- ### What it leads to

-- the number of what was written, and the result that is held
pub keeps_written : (s : Settings) (log : SplitLog) (old new : Halves) (batch : Batch) (outcome : Result Written Failed) → Keeps s log old → IsHeld log (lent_of old.issue) (held.Lent batch)
    → new.issue ≡ old.issue → new.held ≡ held.Done outcome → settings_of (broker_of new.disk) ≡ settings_of (broker_of old.disk) → first_in outcome ≡ first_of batch → last_in outcome ≡ last_of batch
    → (issued_of (broker_of new.disk) ≤ log.lent) × Stands memory_view (broker_of new.disk) (take (issued_of (broker_of new.disk)) log.history)
    → (n : ℕ) → durable_of (broker_of new.disk) ≡ n → log.durable ≤ n → IfOk outcome (λ written. last_written written ≡ n)
    → is_broken (broker_of new.disk) ≡ is_disk_broken log.broken (Some (told outcome)) → (generation : ℕ) → generation_in new ≡ generation → IfErr outcome (λ failed. log.durable ≡ n)
    → (staged : Option ℕ) → staged ≡ staged_to n (staged_of (broker_of new.disk))
    → Keeps s (record log { written = n; generation = generation; has_batch = false; unsettled = Some (told outcome); staged = staged }) new
keeps_written s log old new batch outcome keeps is issue held settings first last there n durable settled written broken generation same even staged staged_is =
    record {
      settings = ap (λ (i : IssueHalf). (half_view i).settings) issue ∙ keeps.settings;
      durable = ap (λ (i : IssueHalf). (half_view i).durable) issue ∙ keeps.durable;
      broken = ap (λ (i : IssueHalf). (half_view i).broken) issue ∙ keeps.broken;
      stands = subst (λ (i : IssueHalf). (half_view i).stands log.history) (sym issue) keeps.stands;
      disk_settings = settings ∙ keeps.disk_settings;
      disk_durable = durable;
      generation = same;
      disk_broken = broken;
      disk_most = there.0;
      disk_stands = there.1;
      settled = settled;
      lent = keeps.lent;
      held_is =
          subst (IsHeld (record log { written = n; generation = generation; has_batch = false; unsettled = Some (told outcome); staged = staged }) (lent_of new.issue)) (sym held)
          (refl, refl, ap (λ (i : IssueHalf). lent_of i) issue ∙ is.2, first ∙ is.3, last ∙ is.4, written, is.6, even);
      staged = staged_is;
      all_out = λ out. absurd (false≢true (sym is.6 ∙ out));
    }

-- whatever the write answers
pub write_leads : (s : Settings) (log : SplitLog) (old new : Halves) (batch : Batch) (outcome : Result Written Failed) → Keeps s log old → IsHeld log (lent_of old.issue) (held.Lent batch)
    → new.issue ≡ old.issue → new.held ≡ held.Done outcome → settings_of (broker_of new.disk) ≡ settings_of (broker_of old.disk) → issued_of (broker_of old.disk) ≤ issued_of (broker_of new.disk)
    → ((h : List Command) → Stands memory_view (broker_of old.disk) h → Stands memory_view (broker_of new.disk) (h ++ taken_from (broker_of old.disk) (broker_of new.disk) batch))
    → ((h : List Command) → Stands memory_view (broker_of old.disk) h → IsRefusedAs outcome write_error.BadKind → ⊥) → StaysInFront memory_view (broker_of old.disk) (broker_of new.disk) batch
    → first_in outcome ≡ first_of batch → last_in outcome ≡ last_of batch → OnOk outcome (Writes batch (broker_of new.disk))
    → IfErr outcome (λ failed. IsNotWritten (broker_of old.disk) batch (broker_of new.disk) (cause_of failed)) → HasSwitchedFor (broker_of old.disk) (broker_of new.disk) outcome
    → (next : SplitLog) × IsSplitStep s log step.Write (write_answer outcome) next × Keeps s next new
write_leads s log old new batch (Ok written) keeps is issue held settings longer goes good front first last ok err switched =
    let n = last_written written in
    let there = front_on (broker_of old.disk) (broker_of new.disk) batch log.history log.durable log.lent keeps.disk_most keeps.lent is.3 is.4 is.5 keeps.disk_stands goes front in
    let whole : log.broken ≡ false = sym keeps.broken ∙ whole_while old.issue log.lent is.2 in
    let generation : (generation_in new ≡ log.generation) ⊎ (generation_in new ≡ log.generation + 1) =
    ⊎_elim (λ never. inl (omega (arith, never, keeps.generation))) (λ once. inr (omega (arith, once, keeps.generation))) switched in (
      record log { written = n; generation = generation_in new; has_batch = false; unsettled = Some (Ok n); staged = None },
      (is.0, last ∙ is.4, generation, refl),
      keeps_written s log old new batch (Ok written) keeps is issue held settings first last there n (ok.durable ∙ sym last)
          (omega (arith, last, is.4, keeps.settled, keeps.disk_durable, keeps.disk_most, (broker_of old.disk).counted)) refl (ok.whole ∙ sym whole) (generation_in new) refl tt
          None (sym (none_staged (broker_of new.disk) n (ok.durable ∙ sym last) (ok.issued ∙ sym last))),
    )
write_leads s log old new batch (Err failed) keeps is issue held settings longer goes good front first last ok err switched =
    let there = front_on (broker_of old.disk) (broker_of new.disk) batch log.history log.durable log.lent keeps.disk_most keeps.lent is.3 is.4 is.5 keeps.disk_stands goes front in
    let whole : log.broken ≡ false = sym keeps.broken ∙ whole_while old.issue log.lent is.2 in
    let disk_whole : is_broken (broker_of old.disk) ≡ false = keeps.disk_broken ∙ ap (is_disk_broken log.broken) is.1 ∙ whole in
    let least : log.durable ≤ issued_of (broker_of old.disk) = omega (arith, keeps.settled, keeps.disk_durable, (broker_of old.disk).counted) in
    let ends : issued_in (half_view old.issue) ≡ length log.history = ((half_laws old.issue).each log.history keeps.stands).issued_is in
    let few : log.lent ≤ durable_of (broker_of new.disk) + 256 =
    omega (arith, keeps.lent, ends, old.issue.counted, old.issue.few, keeps.durable, keeps.settled, keeps.disk_durable, err.durable) in
    let same : (half_view old.issue).settings ≡ settings_of (broker_of new.disk) = keeps.settings ∙ sym (settings ∙ keeps.disk_settings) in
    let legal : IsLegal (settings_of (broker_of new.disk)) log.history =
    subst (λ (r : Settings). IsLegal r log.history) same ((half_laws old.issue).each log.history keeps.stands).legal in
    let generation : generation_in new ≡ log.generation = omega (arith, switched, keeps.generation) in
    let failure : IsWriteFailure log (cause_of failed) =
    failure_is (broker_of old.disk) (broker_of new.disk) batch log.history log.durable log.lent is.3 is.4 is.5 least keeps.disk_most keeps.lent (cause_of failed) err.reason disk_whole legal there.1
    longer (λ bad. good (take (issued_of (broker_of old.disk)) log.history) keeps.disk_stands bad) few log generation in
    let written : durable_of (broker_of new.disk) ≡ log.written = err.durable ∙ keeps.disk_durable in
    let staged = staged_to log.written (staged_of (broker_of new.disk)) in (
      record log { has_batch = false; unsettled = Some (Err (cause_of failed)); staged = staged },
      (is.0, failure, staged_behind (broker_of new.disk) log.written log.lent written there.0, refl),
      keeps_written s log old new batch (Err failed) keeps is issue held settings first last there log.written written keeps.settled tt err.broken log.generation generation is.7
          staged refl,
    )

-- ## Settling

-- up to which was written, or why not
abbrev pub up_to : ℕ → Option (Result ℕ WriteError)
up_to n = Some (Ok n)

abbrev refused_for : WriteError → Option (Result ℕ WriteError)
refused_for why = Some (Err why)

module _ (s : Settings) (log : SplitLog) (old : Halves) (issue : IssueHalf) (keeps : Keeps s log old) where
  -- the issue half has changed, and nothing is held
  keeps_settled : (n : ℕ) (broken : Bool) → log.has_batch ≡ false → (half_view issue).settings ≡ (half_view old.issue).settings → (half_view issue).durable ≡ n → (half_view issue).broken ≡ broken
      → lent_of issue ≡ None → (half_view issue).stands log.history → n ≡ log.written → is_broken (broker_of old.disk) ≡ broken → log.out ≡ false
      → Keeps s (record log { durable = n; broken = broken; unsettled = None }) (record old { issue = issue; held = held.Nothing })
  keeps_settled n broken unlent settings durable is_whole lent stands settled disk_broken none_out = record {
    settings = settings ∙ keeps.settings;
    durable = durable;
    broken = is_whole;
    stands = stands;
    disk_settings = keeps.disk_settings;
    disk_durable = keeps.disk_durable;
    generation = keeps.generation;
    disk_broken = disk_broken;
    disk_most = keeps.disk_most;
    disk_stands = keeps.disk_stands;
    settled = omega (arith, settled);
    lent = keeps.lent;
    held_is = (unlent, refl, lent ∙ sym (ap (λ (o : Bool). out_alone o log.lent) none_out), settled);
    staged = keeps.staged;
    all_out = keeps.all_out;
  }

  -- the result that is held is that of the batch that is out
  is_out : (outcome : Result Written Failed) → IsHeld log (lent_of old.issue) (held.Done outcome) → IsOut old.issue (first_in outcome) (last_in outcome)
  is_out outcome is = record { first_is = omega (arith, is.3, keeps.durable); last_is = is.2 ∙ ap (λ (k : ℕ). Some k) (sym is.4) }

  pub settled : (outcome : Result Written Failed) (n : ℕ) → IsHeld log (lent_of old.issue) (held.Done outcome) → SettlesBy old.issue issue outcome n
      → (log.unsettled ≡ Some (Ok n)) × Keeps s (record log { durable = n; unsettled = None }) (record old { issue = issue; held = held.Nothing })
  settled (Err failed) n is settles = absurd settles
  settled (Ok written) n is settles =
      let facts = settles.1 in (
        is.1 ∙ ap up_to (sym facts.number),
        keeps_settled n log.broken is.0 facts.settings (facts.durable_is ∙ sym facts.number) (facts.whole ∙ sym facts.sound ∙ keeps.broken) facts.lent (facts.stands log.history keeps.stands)
            (facts.number ∙ is.5) (keeps.disk_broken ∙ ap (is_disk_broken log.broken) is.1) is.6,
      )

  pub settle_refused : (outcome : Result Written Failed) (why : SettleError) → IsHeld log (lent_of old.issue) (held.Done outcome) → IsNotSettled old.issue issue outcome why
      → (next : SplitLog) × IsSplitStep s log step.Settle (answer.SettleRefused why) next × Keeps s next (record old { issue = issue; held = held.Nothing })
  settle_refused (Ok written) settle_error.Mismatch is refused = absurd (refused.0 (is_out (Ok written) is))
  settle_refused (Err failed) settle_error.Mismatch is refused = absurd (refused.0 (is_out (Err failed) is))
  settle_refused (Ok written) (settle_error.NotWritten why) is refused = absurd refused
  settle_refused (Err failed) (settle_error.NotWritten why) is refused =
      let back = refused.2 in (
        record log { broken = is_lasting why; unsettled = None },
        (is.1 ∙ ap refused_for (sym refused.1), refl),
        keeps_settled log.durable (is_lasting why) is.0 back.settings (back.durable ∙ keeps.durable) back.broken back.lent ((back.stands log.history).1 keeps.stands) is.7
            (keeps.disk_broken ∙ ap (is_disk_broken log.broken) is.1 ∙ ap is_lasting (sym refused.1)) is.6,
      )

-- ## Stopping

-- after an opening of what the half over the disk left
pub stopped : (s : Settings) (log : SplitLog) (old new : Halves) → Keeps s log old → KeepsGeneration (broker_of old.disk) (broker_of new.disk)
    → IsBegun (settings_of (broker_of old.disk)) (take (issued_of (broker_of old.disk)) log.history) (durable_of (broker_of old.disk)) new → IsStopped s log new
stopped s log old new keeps kept begun =
    let n = (half_view new.issue).durable in
    let k = issued_of (broker_of old.disk) in
    let size : length (take k log.history) ≡ k = omega (arith, length-take k log.history, keeps.disk_most, keeps.lent) in
    let front : take n (take k log.history) ≡ take n log.history = take-take n k log.history (omega (arith, begun.1, size)) in (
      omega (arith, begun.0, keeps.disk_durable),
      omega (arith, begun.1, size, keeps.disk_most),
      omega (arith, begun.1, size, keeps.disk_most, keeps.lent),
      λ whole. kept (keeps.disk_broken ∙ whole) ∙ keeps.generation,
      subst (λ (r : Settings). Keeps r (recovered (take n log.history) (generation_in new)) new) keeps.disk_settings
          (subst (λ (l : List Command). Keeps (settings_of (broker_of old.disk)) (recovered l (generation_in new)) new) front begun.2),
    )
