-- The runs that the hall under the lock stands for, from the opening on.
use Rattle.std.proofs.Common.{◌≡◌, ℕ, ◌+◌, Bool, List, [], ◌∷◌, ◌++◌, length, Option, Some, None, refl, sym, subst, ◌∙◌, ap, arith}
use Rattle.std.proofs.lemmas.List.{drop_all}
use Rattle.std.specs.Prelude.{OnSome, IfNone}
use Rattle.retry_rules.specs.declared.settings.Settings.{Settings}
use Rattle.invoke_records.specs.declared.snapshot.Snapshot.{Snapshot}
use Rattle.invoke_records.specs.declared.command.Command.{Command}
use Rattle.async_core.specs.laws.Tables.{number-table_of}
use Rattle.broker_core.specs.Issuer.{IssuerView, issued_in}
use Rattle.broker_core.specs.declared.issuer.Issuer.{Ghosts}
use Rattle.broker_core.specs.declared.issue_half.IssueHalf.{IssueHalf}
use Rattle.env_phase.specs.State.{EnvState}
use Rattle.hall_core.specs.declared.hall.Hall.{Hall}
use Rattle.hall_core.specs.declared.released.Released.{Released}
use Rattle.hall_plans.specs.Environments.{HoldFor}
use Rattle.hall_core.specs.OpenSlots.{Entries, KeepFor}
use Rattle.receipts.specs.Locked.{hall_in, issuer_in}
use Rattle.broker_core.specs.IssuerHalf.{half_view, half_laws}
use Rattle.hall_plans.specs.Past.{HallCall, take_slot, forget_slot, Past, opening}
use Rattle.hall_plans.specs.Run.{past_after, after, past_of}
use Rattle.hall_plans.specs.Refusals.{why_refused}
use Rattle.hall_plans.specs.Agreement.{IsFit, IsUnrefused, IsRun}
use Rattle.hall_plans.specs.laws.Adding.{runs_join, wanted_stays}
use Rattle.hall_plans.specs.laws.Sound.{kept_at_opening}
use Rattle.hall_core.specs.Hall.{HallView, StandsFor, ForEachPast, IsSameHall, IsDone, view_of, settings_in, words_in}
use Rattle.hall_core.specs.Fresh.{IsFresh}
use Rattle.hall_core.specs.Halves.{HasSameParts}
use Rattle.receipts.specs.Running.{LeavesTable, HasRun, HasRuns}

-- ## At the opening

-- a half of which nothing is pending stands for each history that leaves its table
half_stands : (half : IssueHalf) → (half_view half).pending ≡ [] → (history : List Command) → LeavesTable (half_view half).settings history (half_view half).table
    → (half_view half).stands history
half_stands half none history leaves =
    let laws = half_laws half in
    let number : issued_in (half_view half) ≡ length history =
    ap (λ (t : Snapshot). t.number) leaves.table_is ∙ number-table_of (half_view half).settings history in
    let empty : length (half_view half).pending ≡ 0 = ap length none in
    let counted : (half_view half).durable + length (half_view half).pending ≡ issued_in (half_view half) = laws.counted in
    record {
      legal = leaves.legal;
      table_is = leaves.table_is;
      durable_is = omega arith;
      pending_is = none ∙ sym (drop_all (half_view half).durable history (omega arith));
    }

-- a hall over it in which nothing has come stands for the empty run
pub runs_at_first : {I : Type 0} {i : Ghosts I} {g : Ghosts IssueHalf} (view : I → IssuerView) (s : Settings) (old : Hall I i) (hall : Hall IssueHalf g) (opened : Snapshot)
    → IsFresh s old → HasSameParts (view_of view old) (hall_in hall) → (issuer_in hall).settings ≡ s → (issuer_in hall).table ≡ opened → (issuer_in hall).pending ≡ [] → HasRuns (hall_in hall) opened
runs_at_first view s old hall opened fresh parts settings table none history leaves =
    let there : LeavesTable (issuer_in hall).settings history (issuer_in hall).table = record { legal = leaves.legal; table_is = table ∙ leaves.table_is } in
    record {
      calls = [];
      run = tt;
      stands = record {
        history = half_stands hall.issuer none history there;
        environments = record {
          good = (half_laws hall.issuer).good.check;
          table_is = there.table_is;
          count = ap length parts.environments ∙ fresh.count ∙ ap (λ (x : Settings). x.environments) (sym settings);
          hold = subst (λ w. HoldFor w hall.environments []) (sym parts.wanted) (subst (λ (l : List EnvState). HoldFor old.wanted l []) (sym parts.environments) fresh.hold);
          kept = kept_at_opening (issuer_in hall).settings hall.wanted history leaves.legal;
        };
        waits = refl;
        slots = subst (λ (l : Entries). KeepFor (words_in (hall_in hall)) l []) (sym parts.slots) (fresh.slots (words_in (hall_in hall)));
        stopping = parts.stops ∙ fresh.stops;
      };
    }

-- ## One call more

run_longer : (s : Settings) (past : Past) (calls : List HallCall) (call : HallCall) → IsRun s past calls → IsUnrefused s (after s past calls) call
    → IsRun s past (calls ++ call ∷ [])
run_longer s past [] call run next = (next, tt)
run_longer s past (first ∷ calls) call run next = (run.0, run_longer s (past_after s past first) calls call run.1 next)

leaves_along : (s s' : Settings) (history : List Command) (opened : Snapshot) → s' ≡ s → LeavesTable s' history opened → LeavesTable s history opened
leaves_along s s' history opened same leaves = subst (λ (x : Settings). LeavesTable x history opened) same leaves

-- a run of a hall that waits for as many extensions as another
as_it_waits : (s : Settings) (history : List Command) (old new : HallView) (calls : List HallCall) → new.wanted ≡ old.wanted → IsRun s (opening old.wanted history) calls
    → StandsFor new (past_of s old.wanted history calls) → HasRun s history new
as_it_waits s history old new calls same run stands = record {
  calls = calls;
  run = subst (λ w. IsRun s (opening w history) calls) (sym same) run;
  stands = subst (λ w. StandsFor new (past_of s w history calls)) (sym same) stands;
}

-- a call that no check refuses is the next of the run
pub runs_by : (old new : HallView) (opened : Snapshot) (call : HallCall) → settings_in new ≡ settings_in old → IsFit (settings_in old) call
    → ForEachPast old (λ past. why_refused old.issuer.broken old.issuer.durable (settings_in old) past call ≡ None) → IsDone old new call
    → HasRuns old opened → HasRuns new opened
runs_by old new opened call same fit passes done runs history leaves =
    let s = settings_in old in
    let run = runs history (leaves_along s (settings_in new) history opened same leaves) in
    let past = past_of s old.wanted history run.calls in
    let next : IsUnrefused s past call = record {
      fit = fit;
      broken = old.issuer.broken;
      durable = old.issuer.durable;
      unrefused = passes past run.stands;
    } in
    let same_wanted : new.wanted ≡ old.wanted = (done past run.stands).waits ∙ wanted_stays s past call ∙ sym run.stands.waits in
    let all : HasRun s history new =
    as_it_waits s history old new (run.calls ++ call ∷ []) same_wanted (run_longer s (opening old.wanted history) run.calls call run.run next)
    (subst (StandsFor new) (sym (runs_join s (opening old.wanted history) run.calls (call ∷ []))) (done past run.stands)) in
    subst (λ (x : Settings). HasRun x history new) (sym same) all

-- where each thing that was done is still what was done
pub runs_kept : (old new : HallView) (opened : Snapshot) → settings_in new ≡ settings_in old → ((past : Past) → StandsFor old past → StandsFor new past)
    → HasRuns old opened → HasRuns new opened
runs_kept old new opened same stands runs history leaves =
    let s = settings_in old in
    let run = runs history (leaves_along s (settings_in new) history opened same leaves) in
    let still = stands (past_of s old.wanted history run.calls) run.stands in
    let all : HasRun s history new = as_it_waits s history old new run.calls (still.waits ∙ sym run.stands.waits) run.run still in
    subst (λ (x : Settings). HasRun x history new) (sym same) all

-- another hall with the same issuer, environments and slots
stands_moved : (old new : HallView) (past : Past) → StandsFor old past → new.issuer.settings ≡ old.issuer.settings → new.issuer.table ≡ old.issuer.table
    → new.issuer.stands past.history → HasSameParts old new → StandsFor new past
stands_moved old new past stands settings table history parts = record {
  history = history;
  environments = rw (settings, table, parts.environments) stands.environments;
  waits = parts.wanted ∙ stands.waits;
  slots = rw (settings, parts.slots, parts.dialect) stands.slots;
  stopping = parts.stops ∙ stands.stopping;
}

pub runs_moved : {g : Ghosts IssueHalf} (old new : Hall IssueHalf g) (opened : Snapshot) → new.issuer ≡ old.issuer
    → HasSameParts (hall_in old) (hall_in new) → HasRuns (hall_in old) opened → HasRuns (hall_in new) opened
runs_moved old new opened same parts runs =
    let settings : (issuer_in new).settings ≡ (issuer_in old).settings = ap (λ (i : IssueHalf). (half_view i).settings) same in
    let table : (issuer_in new).table ≡ (issuer_in old).table = ap (λ (i : IssueHalf). (half_view i).table) same in
    runs_kept (hall_in old) (hall_in new) opened settings
    (λ past stands. stands_moved (hall_in old) (hall_in new) past stands settings table
    (subst (λ (i : IssueHalf). (half_view i).stands past.history) (sym same) stands.history) parts) runs

pub same_stands : (old new : HallView) → IsSameHall old new → (past : Past) → StandsFor old past → StandsFor new past
same_stands old new same past stands = record {
  history = (same.issuer.stands past.history).1 stands.history;
  environments = rw (same.issuer.settings, same.issuer.table, same.environments) stands.environments;
  waits = same.wanted ∙ stands.waits;
  slots = rw (same.issuer.settings, same.dialect) (same.slots past.slots stands.slots);
  stopping = same.stops ∙ stands.stopping;
}

pub runs_same : (old new : HallView) (opened : Snapshot) → IsSameHall old new → HasRuns old opened → HasRuns new opened
runs_same old new opened same runs = runs_kept old new opened same.issuer.settings (same_stands old new same) runs

-- ## Slots

take_passes : (broken : Bool) (durable : ℕ) (s : Settings) (past : Past) (slot : ℕ) → why_refused broken durable s past (take_slot slot) ≡ None
unfolding why_refused
take_passes broken durable s past slot = refl

forget_passes : (broken : Bool) (durable : ℕ) (s : Settings) (past : Past) (slot : ℕ) → why_refused broken durable s past (forget_slot slot) ≡ None
unfolding why_refused
forget_passes broken durable s past slot = refl

-- a slot is told its reply
pub runs_by_take : (old new : HallView) (opened : Snapshot) (slot : ℕ) → settings_in new ≡ settings_in old → IsDone old new (take_slot slot)
    → HasRuns old opened → HasRuns new opened
runs_by_take old new opened slot same done runs =
    runs_by old new opened (take_slot slot) same tt (λ past stands. take_passes old.issuer.broken old.issuer.durable (settings_in old) past slot) done runs

-- the reply of a slot is not wanted any more
pub runs_by_forget : (old new : HallView) (opened : Snapshot) (slot : ℕ) → settings_in new ≡ settings_in old → IsDone old new (forget_slot slot)
    → HasRuns old opened → HasRuns new opened
runs_by_forget old new opened slot same done runs =
    runs_by old new opened (forget_slot slot) same tt (λ past stands. forget_passes old.issuer.broken old.issuer.durable (settings_in old) past slot) done runs

-- a take that gives a reply, or none
pub runs_taken : (old new : HallView) (opened : Snapshot) (slot : ℕ) (told : Option Released) → settings_in new ≡ settings_in old
    → OnSome told (IsDone old new (take_slot slot)) → IfNone told (IsSameHall old new) → HasRuns old opened → HasRuns new opened
runs_taken old new opened slot (Some reply) same done none runs = runs_by_take old new opened slot same done runs
runs_taken old new opened slot None same done none runs = runs_same old new opened none runs
