-- Laws: what a hall does at a tick is sound.
use Rattle.std.proofs.Common.{◌≡◌, ℕ, ◌+◌, ◌*◌, ◌≤◌, List, [], Bool, true, false, refl, sym, subst, Option, Some, None, if◌then◌else◌}
use Rattle.std.specs.Prelude.{is_some}
use Rattle.std.specs.List.{list_any}
use Rattle.std.proofs.lemmas.Bool.{true≢false}
use Rattle.invoke_records.specs.Spelling.{greatest_moment}
use Rattle.invoke_records.specs.declared.command.Command.{Command}
use Rattle.invoke_records.specs.declared.command.Kind.{Kind}
use Rattle.invoke_records.specs.declared.command.Kind.TheVariants.{Accept, Start, Succeed, Fail, Throttle, Interrupt, Expire, Collect, Configure}
use Rattle.invoke_records.specs.declared.command.Cause.TheVariants.{Reported, Timeout, Exited}
use Rattle.async_core.specs.Standings.{is_running}
use Rattle.async_core.specs.History.{standing_in, last_moment}
use Rattle.async_core.specs.Choice.{move_of}
use Rattle.env_phase.specs.Calls.{is_shutdown}
use Rattle.env_phase.specs.declared.call.EnvCall.TheVariants as env
use Rattle.env_phase.specs.laws.Running.{give_is_accepted, ready_runs_nothing}
use Rattle.hall_plans.specs.Past.{calls_of, holder, ready_in, is_stopping}
use Rattle.hall_plans.specs.Firsts.{Event, first_unheld, first_moving}
use Rattle.hall_plans.specs.Effects.{Scene, nothing, command_for, is_late, told_to, moves_event, moves_by, moves, interrupts_or_moves, effect_of_tick}
use Rattle.hall_plans.specs.Agreement.{AllAgree}
use Rattle.hall_plans.specs.laws.Keeping.{keeps_command, keeps_start}
use Rattle.hall_plans.specs.laws.Unheld.{RunsAlone, alone_command, alone_start}
use Rattle.hall_plans.specs.laws.Legal.{Moves, moves_so, legal_interrupt, legal_timeout, legal_start, legal_throttle, legal_expiry}
use Rattle.hall_plans.specs.laws.Choosing.{ready_is, idle_never, holder_runs, unheld_never, first_unheld_is, ready_is_free}
use Rattle.hall_plans.specs.laws.Requests.{Fine, same_command, other_kind, quiet, commanding, times_out}

module _ (x : Scene) (all : AllAgree x.settings x.past.wanted x.past.history (calls_of x.past)) (clock : last_moment x.past.history ≤ x.now) (bound : x.now ≤ greatest_moment) where
  module _ (open_ones : (environment : ℕ) → list_any is_shutdown (calls_of x.past environment) ≡ false) where
    -- a timeout of an event whose environment holds it, or of one that none holds
    timing_out : (id : List ℕ) → is_running (standing_in x.settings x.past.history id) ≡ true → is_late x id ≡ true → (o : Option ℕ) → holder x.settings x.past id ≡ o
        → Fine x.settings x.past (record { command = Some (command_for (Fail Timeout) id x.now []); made = told_to o (env.Timeout x.now); reply = None })
    timing_out id runs_it late (Some environment) holds = times_out x all clock bound open_ones environment id None (holder_runs x.settings x.past all id environment holds) late
    timing_out id runs_it late None holds =
        commanding x all (command_for (Fail Timeout) id x.now []) None refl refl (legal_timeout x.settings x.past.history x.now id clock bound runs_it late) (unheld_never x.settings x.past all id holds)

    starting : (ready : Option ℕ) → ready_in x.settings x.past ≡ ready → first_unheld x.settings x.past ≡ None → (id : List ℕ) → Moves x.settings x.past.history x.now (is_some ready) id Start
        → Fine x.settings x.past (moves_event x ready id Start)
    starting None is none id (known, rests, due, young, room, has) = absurd (true≢false (sym has))
    starting (Some environment) is none id facts =
        let chosen = ready_is x.settings x.past environment is in
        let c : Command = record { kind = Start; id = id; environment = environment; time = x.now; bytes = [] } in
        record {
          keeps = keeps_start x.settings x.past.history (calls_of x.past) all c (x.now + 1000 * x.settings.timeout) refl refl chosen.0
              (legal_start x.settings x.past.history x.now id clock bound environment chosen.0 (ready_is_free x.settings x.past all none environment chosen.1) facts)
              (give_is_accepted x.past.wanted (calls_of x.past environment) id (x.now + 1000 * x.settings.timeout) chosen.1)
              (idle_never x.settings x.past all id facts.1);
          unshut = refl;
          leaves_none = λ other u.
              alone_start x.settings x.past.history (calls_of x.past) other c environment (x.now + 1000 * x.settings.timeout)
              (ready_runs_nothing x.past.wanted (calls_of x.past environment) chosen.1) u;
          interrupts = λ d same is. absurd (other_kind c d refl same is);
        }

    moved : (ready : Option ℕ) → ready_in x.settings x.past ≡ ready → first_unheld x.settings x.past ≡ None → (id : List ℕ) (kind : Kind) → Moves x.settings x.past.history x.now (is_some ready) id kind
        → Fine x.settings x.past (moves_event x ready id kind)
    moved ready is none id Accept facts = absurd facts
    moved ready is none id Start facts = starting ready is none id facts
    moved ready is none id Succeed facts = absurd facts
    moved ready is none id (Fail Reported) facts = absurd facts
    moved ready is none id (Fail Timeout) facts = timing_out id facts.0 facts.1 (holder x.settings x.past id) refl
    moved ready is none id (Fail Exited) facts = absurd facts
    moved ready is none id Throttle facts =
        commanding x all (command_for Throttle id x.now []) None refl refl (legal_throttle x.settings x.past.history x.now id clock bound (is_some ready) facts) (idle_never x.settings x.past all id facts.1)
    moved ready is none id Interrupt facts = absurd facts
    moved ready is none id Expire facts =
        commanding x all (command_for Expire id x.now []) None refl refl (legal_expiry x.settings x.past.history x.now id clock bound (is_some ready) facts) (idle_never x.settings x.past all id facts.1)
    moved ready is none id Collect facts = absurd facts
    moved ready is none id (Configure policy) facts = absurd facts

    moving_by : (ready : Option ℕ) → ready_in x.settings x.past ≡ ready → first_unheld x.settings x.past ≡ None → (id : List ℕ) (o : Option Kind)
        → move_of x.settings x.past.history x.now (is_some ready) id ≡ o → Fine x.settings x.past (moves_by x ready id o)
    moving_by ready is none id None makes = quiet x all (moves_by x ready id None) refl refl
    moving_by ready is none id (Some kind) makes = moved ready is none id kind (moves_so x.settings x.past.history x.now (is_some ready) id kind makes)

    moving : (ready : Option ℕ) → ready_in x.settings x.past ≡ ready → first_unheld x.settings x.past ≡ None → (o : Option Event) → Fine x.settings x.past (moves x ready o)
    moving ready is none None = quiet x all (moves x ready None) refl refl
    moving ready is none (Some event) = moving_by ready is none event.1 (move_of x.settings x.past.history x.now (is_some ready) event.1) refl

    going : (o : Option Event) → first_unheld x.settings x.past ≡ o → Fine x.settings x.past (interrupts_or_moves x (ready_in x.settings x.past) o)
    going None is = moving (ready_in x.settings x.past) refl is (first_moving x.settings x.past.history x.now (is_some (ready_in x.settings x.past)))
    going (Some event) is =
        let unheld = first_unheld_is x.settings x.past event is in
        let c : Command = command_for Interrupt event.1 x.now [] in
        record {
          keeps = keeps_command x.settings x.past.history (calls_of x.past) all c (legal_interrupt x.settings x.past.history x.now event.1 clock bound unheld.stands)
              (unheld_never x.settings x.past all event.1 unheld.alone);
          unshut = refl;
          leaves_none = λ other u. alone_command x.settings x.past.history (calls_of x.past) other c refl u;
          interrupts = λ d same so.
              let e : c ≡ d = same_command c d same in
              subst (λ (v : Command). RunsAlone x.settings x.past.history (calls_of x.past) v.id) e
              (record { stands = unheld.stands; alone = unheld_never x.settings x.past all event.1 unheld.alone });
        }

  ticking : (stop : Bool) → is_stopping x.past ≡ stop → (is_stopping x.past ≡ false → (environment : ℕ) → list_any is_shutdown (calls_of x.past environment) ≡ false)
      → Fine x.settings x.past (if stop then nothing else interrupts_or_moves x (ready_in x.settings x.past) (first_unheld x.settings x.past))
  ticking true is open_ones = quiet x all nothing refl refl
  ticking false is open_ones = going (open_ones is) (first_unheld x.settings x.past) refl

  pub tick_is_fine : (is_stopping x.past ≡ false → (environment : ℕ) → list_any is_shutdown (calls_of x.past environment) ≡ false) → Fine x.settings x.past (effect_of_tick x)
  tick_is_fine open_ones = ticking (is_stopping x.past) refl open_ones
