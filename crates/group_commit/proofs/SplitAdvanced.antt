-- An advance of two halves, which is lent and settled at once.
use Rattle.std.proofs.Common.{◌≡◌, ◌⊎◌, inl, inr, ⊎_elim, ℕ, ◌+◌, ◌-◌, ◌<◌, ◌≤◌, nat_lt, Bool, true, false, List, ◌++◌, length, take, drop, Option, None, Some, refl, sym, ap, subst, ◌∙◌, arith, lt-ltb, le-ltb}
use Rattle.std.specs.Prelude.{Ok, Err}
use Rattle.std.proofs.lemmas.Bool.{false≢true}
use Rattle.std.proofs.lemmas.List.{take_all, drop-drop}
use Rattle.sector_disk.specs.declared.disk.Disk.{Ghosts}
use Rattle.sector_disk.specs.declared.memory.MemDisk.{MemDisk}
use Rattle.sector_disk.specs.Memory.{memory_view}
use Rattle.retry_rules.specs.declared.settings.Settings.{Settings}
use Rattle.invoke_records.specs.declared.command.Command.{Command}
use Rattle.async_core.specs.History.{IsLegal}
use Rattle.gate_journal.specs.declared.staged.Staged.{Staged}
use Rattle.broker_core.specs.declared.broker.Broker.{Broker}
use Rattle.broker_core.specs.declared.batch.Batch.{Batch}
use Rattle.broker_core.specs.declared.batch.Written.{Written}
use Rattle.broker_core.specs.declared.batch.Failed.{Failed}
use Rattle.broker_core.specs.declared.issue_half.IssueHalf.{IssueHalf}
use Rattle.broker_core.specs.declared.error.WriteError.{WriteError}
use Rattle.broker_core.specs.declared.error.WriteError.TheVariants as write_error
use Rattle.broker_core.specs.declared.error.SettleError.TheVariants as settle_error
use Rattle.group_commit.specs.declared.split_script.SplitStep.TheVariants as step
use Rattle.group_commit.specs.declared.split_script.SplitAnswer.TheVariants as answer
use Rattle.group_commit.specs.declared.split_drilling.Halves.{Halves}
use Rattle.group_commit.specs.declared.split_drilling.Held.TheVariants as held
use Rattle.broker_core.specs.Broker.{settings_of, issued_of, durable_of, is_broken, staged_of, Stands}
use Rattle.broker_core.specs.Issuer.{issued_in, IsSameIssuer}
use Rattle.broker_core.specs.IssuerHalf.{half_view, half_laws, lent_of}
use Rattle.broker_core.specs.Batch.{last_of, commands_of, cause_of, last_written, is_lasting}
use Rattle.broker_core.specs.Lending.{IsNotSettled}
use Rattle.broker_core.specs.LendingMore.{last_out, lent_to, IsRest, LendsMore, IsStillOut, SettlesFront}
use Rattle.broker_core.specs.Advancing.{HasOpened, Advances, HasNumbers, HasSwitchedIn}
use Rattle.broker_core.specs.Splitting.{broker_of}
use Rattle.broker_core.specs.Writing.{taken_from, StaysInFront, IsNotWritten}
use Rattle.group_commit.specs.SplitDrill.{SplitLog, IsSplitStep, MayAdvance, IsWriteFailure, IsStagedBehind, HasAdvanced, is_disk_broken}
use Rattle.group_commit.specs.SplitSteps.{generation_in, IsHeld, Keeps, out_alone, staged_to}
use Rattle.group_commit.proofs.SplitDrilled.{keeps_same, front_on, failure_is, staged_behind}

-- where nothing is pending nothing is out
none_lent : (issue : IssueHalf) (out : Option ℕ) → lent_of issue ≡ out → length (half_view issue).pending ≡ 0 → out ≡ None
none_lent issue None is none = refl
none_lent issue (Some last) is none = absurd (omega (arith, (issue.within last is).0, (issue.within last is).1, issue.counted, none))

-- how far an advance went, by what it opened
advanced_to : {g : Ghosts MemDisk} (before after : Option Staged) (old new : Broker MemDisk g) (n durable end : ℕ) → HasOpened before after old new → durable_of new ≡ n → durable_of old ≡ durable
    → issued_of new ≡ end → IsStagedBehind n end (staged_to n after) → HasAdvanced (staged_to durable before) (staged_to n after) durable end n
advanced_to (Some group) after old new n durable end opened written was all behind = (omega (arith, opened, written, was), behind)
advanced_to None (Some next) old new n durable end opened written was all behind =
    (omega (arith, opened.0, written, was), omega (arith, opened.1, written, all, new.counted))
advanced_to None None old new n durable end opened written was all behind = omega (arith, opened, written, all)

-- what is out behind a number
still_out : (n out end : ℕ) (left : Option ℕ) → out ≡ end → IsStillOut n out left → left ≡ out_alone (nat_lt n end) end
still_out n out end left same (inl none) = none.1 ∙ sym (ap (λ (b : Bool). out_alone b end) (le-ltb n end (omega (arith, same, none.0))))
still_out n out end left same (inr some) =
    some.1 ∙ ap (λ (k : ℕ). Some k) same ∙ sym (ap (λ (b : Bool). out_alone b end) (lt-ltb n end (omega (arith, same, some.0))))

abbrev value_or : Option ℕ → ℕ
value_or None = 0
value_or (Some n) = n

module _ (s : Settings) (log : SplitLog) (old : Halves) (keeps : Keeps s log old) (nothing : old.held ≡ held.Nothing) where
  free : IsHeld log (lent_of old.issue) held.Nothing
  free = subst (IsHeld log (lent_of old.issue)) nothing keeps.held_is

  may_advance : (half_view old.issue).broken ≡ false → MayAdvance log
  may_advance whole = record { whole = sym keeps.broken ∙ whole; no_batch = free.0; no_result = free.1 }

  -- the list ends where the half's does
  end_is : issued_in (half_view old.issue) ≡ length log.history
  end_is = ((half_laws old.issue).each log.history keeps.stands).issued_is

  some_left : 1 ≤ length (half_view old.issue).pending → log.durable < length log.history
  some_left some = omega (arith, some, end_is, keeps.durable, old.issue.counted)

  -- ## Nothing is lent

  pub advance_idle : (issue : IssueHalf) → IsSameIssuer (half_view old.issue) (half_view issue) → (half_view old.issue).broken ≡ false → LendsMore old.issue issue None
      → (next : SplitLog) × IsSplitStep s log step.Advance answer.Idle next × Keeps s next (record old { issue = issue })
  advance_idle issue same whole lends = (
    log,
    (inr (may_advance whole, omega (arith, ap length lends.0, end_is, keeps.durable, old.issue.counted)), refl),
    keeps_same s log old issue keeps same (lends.1 ∙ sym (none_lent old.issue (lent_of old.issue) refl (ap length lends.0))),
  )

  -- ## A batch is lent

  module _ (new : Halves) (free_still : new.held ≡ held.Nothing) (batch : Batch) (whole : (half_view old.issue).broken ≡ false) (some : 1 ≤ length (half_view old.issue).pending)
      (rest : IsRest old.issue batch) (settings : settings_of (broker_of new.disk) ≡ settings_of (broker_of old.disk))
      (goes : (h : List Command) → Stands memory_view (broker_of old.disk) h → Stands memory_view (broker_of new.disk) (h ++ taken_from (broker_of old.disk) (broker_of new.disk) batch))
      (front : StaysInFront memory_view (broker_of old.disk) (broker_of new.disk) batch) where
    last_is : last_of batch ≡ length log.history
    last_is = rest.last ∙ end_is

    -- what was lent is known to the half over the disk
    reach_by : (out : Bool) → log.out ≡ out → (log.durable ≤ lent_to old.issue) × (lent_to old.issue ≤ issued_of (broker_of old.disk))
    reach_by true is =
        let lent : lent_of old.issue ≡ Some log.lent = free.2 ∙ ap (λ (b : Bool). out_alone b log.lent) is in
        let known : lent_to old.issue ≡ log.lent = ap (λ (o : Option ℕ). last_out o (half_view old.issue).durable) lent in
        (omega (arith, known, keeps.durable, (old.issue.within log.lent lent).0), omega (arith, known, keeps.all_out is))
    reach_by false is =
        let lent : lent_of old.issue ≡ None = free.2 ∙ ap (λ (b : Bool). out_alone b log.lent) is in
        let known : lent_to old.issue ≡ (half_view old.issue).durable = ap (λ (o : Option ℕ). last_out o (half_view old.issue).durable) lent in
        (omega (arith, known, keeps.durable), omega (arith, known, keeps.durable, free.3, keeps.disk_durable, (broker_of old.disk).counted))

    reach : (log.durable ≤ lent_to old.issue) × (lent_to old.issue ≤ issued_of (broker_of old.disk))
    reach = reach_by log.out refl

    commands_is : commands_of batch ≡ drop (lent_to old.issue) (take (length log.history) log.history)
    commands_is =
        let known = lent_to old.issue in
        let d = (half_view old.issue).durable in
        rest.commands
        ∙ ap (λ (l : List Command). drop (known - d) l) ((half_laws old.issue).each log.history keeps.stands).pending_is
        ∙ drop-drop (known - d) d log.history
        ∙ ap (λ (n : ℕ). drop n log.history) (omega (arith, reach.0, keeps.durable))
        ∙ ap (λ (l : List Command). drop known l) (sym (take_all (length log.history) log.history (omega arith)))

    most : issued_of (broker_of old.disk) ≤ length log.history
    most = omega (arith, keeps.disk_most, keeps.lent)

    there : (issued_of (broker_of new.disk) ≤ length log.history) × Stands memory_view (broker_of new.disk) (take (issued_of (broker_of new.disk)) log.history)
    there =
        front_on (broker_of old.disk) (broker_of new.disk) batch log.history (lent_to old.issue) (length log.history) most (omega arith) rest.first last_is commands_is keeps.disk_stands goes front

    -- where nothing is held again, and what was written is durable
    keeps_advanced : (n w : ℕ) → n ≡ w → (broken out : Bool) (generation : ℕ) → (half_view new.issue).settings ≡ (half_view old.issue).settings → (half_view new.issue).durable ≡ n
        → (half_view new.issue).broken ≡ broken → (half_view new.issue).stands log.history → lent_of new.issue ≡ out_alone out (length log.history) → durable_of (broker_of new.disk) ≡ w
        → is_broken (broker_of new.disk) ≡ broken → generation_in new ≡ generation → (out ≡ true → issued_of (broker_of new.disk) ≡ length log.history)
        → Keeps s (record log { durable = n; written = w; lent = length log.history; generation = generation; broken = broken; staged = staged_to w (staged_of (broker_of new.disk)); out = out }) new
    keeps_advanced n w even broken out generation same durable is_whole stands lent written disk_broken generation_is all =
        let next : SplitLog =
        record log { durable = n; written = w; lent = length log.history; generation = generation; broken = broken; staged = staged_to w (staged_of (broker_of new.disk)); out = out } in
        record {
          settings = same ∙ keeps.settings;
          durable = durable;
          broken = is_whole;
          stands = stands;
          disk_settings = settings ∙ keeps.disk_settings;
          disk_durable = written;
          generation = generation_is;
          disk_broken = disk_broken ∙ sym (ap (is_disk_broken broken) free.1);
          disk_most = there.0;
          disk_stands = there.1;
          settled = omega (arith, even);
          lent = omega arith;
          held_is = subst (IsHeld next (lent_of new.issue)) (sym free_still) (free.0, free.1, lent, even);
          staged = refl;
          all_out = all;
        }

    -- ### It went on

    advanced : (n : ℕ) → (half_view new.issue).settings ≡ (half_view old.issue).settings → (half_view new.issue).durable ≡ n → (half_view new.issue).broken ≡ false
        → (half_view new.issue).stands log.history → lent_of new.issue ≡ out_alone (nat_lt n (length log.history)) (length log.history) → durable_of (broker_of new.disk) ≡ n
        → Advances (broker_of old.disk) batch (broker_of new.disk)
        → (generation_in new ≡ generation_in old + 0) ⊎ (generation_in new ≡ generation_in old + 1)
        → (next : SplitLog) × IsSplitStep s log step.Advance (answer.Number n) next × Keeps s next new
    advanced n same durable is_whole stands lent written advances switched =
        let may = may_advance whole in
        let end = length log.history in
        let all : issued_of (broker_of new.disk) ≡ end = advances.issued ∙ last_is in
        let staged = staged_to n (staged_of (broker_of new.disk)) in
        let behind = staged_behind (broker_of new.disk) n end written there.0 in
        let was : durable_of (broker_of old.disk) ≡ log.durable = keeps.disk_durable ∙ sym free.3 in
        let before : staged_to log.durable (staged_of (broker_of old.disk)) ≡ log.staged =
        ap (λ (k : ℕ). staged_to k (staged_of (broker_of old.disk))) free.3 ∙ sym keeps.staged in
        let far : HasAdvanced log.staged staged log.durable end n =
        subst (λ (o : Option ℕ). HasAdvanced o staged log.durable end n) before
        (advanced_to (staged_of (broker_of old.disk)) (staged_of (broker_of new.disk)) (broker_of old.disk) (broker_of new.disk) n log.durable end advances.opened written was all behind) in
        let generation : (generation_in new ≡ log.generation) ⊎ (generation_in new ≡ log.generation + 1) =
        ⊎_elim (λ never. inl (omega (arith, never, keeps.generation))) (λ once. inr (omega (arith, once, keeps.generation))) switched in (
          record log { durable = n; written = n; lent = end; generation = generation_in new; staged = staged; out = nat_lt n end },
          (may, some_left some, far, generation, refl),
          keeps_advanced n n refl log.broken (nat_lt n end) (generation_in new) same durable (is_whole ∙ sym may.whole) stands lent written (advances.whole ∙ sym may.whole) refl (λ out. all),
        )

    module _ (mid : IssueHalf) (same : IsSameIssuer (half_view old.issue) (half_view mid)) (lent : lent_of mid ≡ Some (last_of batch)) where
      -- something was opened, or all is durable
      pub advance_opened : (written : Written) (n : ℕ) → Advances (broker_of old.disk) batch (broker_of new.disk) → HasNumbers (broker_of old.disk) batch (broker_of new.disk) (Ok (Some written))
          → HasSwitchedIn (broker_of old.disk) (broker_of new.disk) (Ok (Some written)) → SettlesFront mid new.issue written n
          → (next : SplitLog) × IsSplitStep s log step.Advance (answer.Number n) next × Keeps s next new
      advance_opened written n advances numbers switched settles =
          let facts = settles.1 in
          let last : last_written written ≡ n = sym facts.number in
          let out : settles.0.out ≡ length log.history = ap value_or (sym settles.0.out_is ∙ lent) ∙ last_is in
          advanced n (facts.settings ∙ same.settings) (facts.durable_is ∙ last) facts.whole (facts.stands log.history ((same.stands log.history).1 keeps.stands))
          (still_out n settles.0.out (length log.history) (lent_of new.issue) out (subst (λ (k : ℕ). IsStillOut k settles.0.out (lent_of new.issue)) last facts.left))
          (sym numbers.2 ∙ last) advances switched

      -- all is staged
      pub advance_staged : (n : ℕ) → new.issue ≡ mid → n ≡ (half_view mid).durable → Advances (broker_of old.disk) batch (broker_of new.disk)
          → HasNumbers (broker_of old.disk) batch (broker_of new.disk) (Ok None) → HasSwitchedIn (broker_of old.disk) (broker_of new.disk) (Ok None)
          → (next : SplitLog) × IsSplitStep s log step.Advance (answer.Number n) next × Keeps s next new
      advance_staged n is number advances numbers switched =
          let d : n ≡ log.durable = number ∙ same.durable ∙ keeps.durable in
          let end = length log.history in
          let more : nat_lt n end ≡ true = lt-ltb n end (omega (arith, d, some_left some)) in
          advanced n (ap (λ (i : IssueHalf). (half_view i).settings) is ∙ same.settings) (ap (λ (i : IssueHalf). (half_view i).durable) is ∙ sym number)
          (ap (λ (i : IssueHalf). (half_view i).broken) is ∙ same.broken ∙ whole)
          (subst (λ (i : IssueHalf). (half_view i).stands log.history) (sym is) ((same.stands log.history).1 keeps.stands))
          (ap (λ (i : IssueHalf). lent_of i) is ∙ lent ∙ ap (λ (k : ℕ). Some k) last_is ∙ sym (ap (λ (b : Bool). out_alone b end) more))
          (numbers ∙ keeps.disk_durable ∙ sym free.3 ∙ sym d) advances switched

      -- ### It was refused

      module _ (failed : Failed) (numbers : HasNumbers (broker_of old.disk) batch (broker_of new.disk) (Err failed)) where
        failure : issued_of (broker_of old.disk) ≤ issued_of (broker_of new.disk) → IsNotWritten (broker_of old.disk) batch (broker_of new.disk) (cause_of failed)
            → HasSwitchedIn (broker_of old.disk) (broker_of new.disk) (Err failed)
            → ((h : List Command) → Stands memory_view (broker_of old.disk) h → cause_of failed ≡ write_error.BadKind → ⊥) → IsWriteFailure log (cause_of failed)
        failure longer err switched good =
            let disk_whole : is_broken (broker_of old.disk) ≡ false = keeps.disk_broken ∙ ap (is_disk_broken log.broken) free.1 ∙ sym keeps.broken ∙ whole in
            let few : length log.history ≤ durable_of (broker_of new.disk) + 256 =
            omega (arith, end_is, old.issue.counted, old.issue.few, keeps.durable, free.3, keeps.disk_durable, err.durable) in
            let legal : IsLegal (settings_of (broker_of new.disk)) log.history =
            subst (λ (r : Settings). IsLegal r log.history) (keeps.settings ∙ sym (settings ∙ keeps.disk_settings)) ((half_laws old.issue).each log.history keeps.stands).legal in
            failure_is (broker_of old.disk) (broker_of new.disk) batch log.history (lent_to old.issue) (length log.history) rest.first last_is commands_is reach.1 most (omega arith)
            (cause_of failed) err.reason disk_whole legal there.1 longer (λ bad. good (take (issued_of (broker_of old.disk)) log.history) keeps.disk_stands bad) few log
            (omega (arith, switched, keeps.generation))

        pub advance_refused : (why : WriteError) → issued_of (broker_of old.disk) ≤ issued_of (broker_of new.disk) → IsNotWritten (broker_of old.disk) batch (broker_of new.disk) (cause_of failed)
            → HasSwitchedIn (broker_of old.disk) (broker_of new.disk) (Err failed)
            → ((h : List Command) → Stands memory_view (broker_of old.disk) h → cause_of failed ≡ write_error.BadKind → ⊥)
            → IsNotSettled mid new.issue (Err failed) (settle_error.NotWritten why)
            → (next : SplitLog) × IsSplitStep s log step.Advance (answer.WriteRefused why) next × Keeps s next new
        advance_refused why longer err switched good refused =
            let back = refused.2 in
            let end = length log.history in
            let written : durable_of (broker_of new.disk) ≡ log.written = err.durable ∙ keeps.disk_durable in
            let staged = staged_to log.written (staged_of (broker_of new.disk)) in (
              record log { lent = end; broken = is_lasting why; staged = staged; out = false },
              (
                may_advance whole,
                some_left some,
                subst (λ (w : WriteError). IsWriteFailure log w) (sym refused.1) (failure longer err switched good),
                staged_behind (broker_of new.disk) log.written end written there.0,
                refl,
              ),
              keeps_advanced log.durable log.written free.3 (is_lasting why) false log.generation (back.settings ∙ same.settings) (back.durable ∙ same.durable ∙ keeps.durable) back.broken
                  ((back.stands log.history).1 ((same.stands log.history).1 keeps.stands)) back.lent written (err.broken ∙ ap is_lasting (sym refused.1)) (omega (arith, switched, keeps.generation))
                  (λ wrong. absurd (false≢true wrong)),
            )
