-- Which event goes first: the running one that no environment holds, the one that has a move, the one that ended.
use Rattle.std.specs.Prelude.{ℕ, Bool, not, ◌&&◌, List, [], ◌∷◌, filter_map, Option, Some, None, is_some, option_map, if◌then◌else◌}
use Rattle.retry_rules.specs.declared.settings.Settings.{Settings}
use Rattle.invoke_records.specs.declared.command.Command.{Command}
use Rattle.invoke_records.specs.declared.command.Kind.{Kind}
use Rattle.async_core.specs.declared.choice.Side.{Side}
use Rattle.async_core.specs.Standings.{is_running}
use Rattle.async_core.specs.History.{held, standing_in, last_number}
use Rattle.async_core.specs.Choice.{move_of, ripe_at, ended_on, goes_before}
use Rattle.hall_plans.specs.Past.{Past, holder}

-- ## The first by rank

-- the one before the other, where there is another
abbrev pub sooner : {A : Type 0} → (ℕ × ℕ) × A → Option ((ℕ × ℕ) × A) → Option ((ℕ × ℕ) × A)
sooner x None = Some x
sooner x (Some y) = if goes_before y.0 x.0 then Some y else Some x

abbrev pub first_ranked : {A : Type 0} → List ((ℕ × ℕ) × A) → Option ((ℕ × ℕ) × A)
first_ranked [] = None
first_ranked (x ∷ xs) = sooner x (first_ranked xs)

abbrev pub ranked : {A : Type 0} → (A → Option (ℕ × ℕ)) → A → Option ((ℕ × ℕ) × A)
ranked rank x = option_map (λ at. (at, x)) (rank x)

-- the one of least rank, of those that have a rank
abbrev pub first_by : {A : Type 0} → (A → Option (ℕ × ℕ)) → List A → Option A
first_by rank xs = option_map (λ x. x.1) (first_ranked (filter_map (ranked rank) xs))

-- ## Events

-- an event that is held, behind the number of the command that accepted it
abbrev pub Event : Type 0
Event = ℕ × List ℕ

-- by acceptance, if it runs and no environment holds it
abbrev pub unheld_rank : Settings → Past → Event → Option (ℕ × ℕ)
unheld_rank s past event =
    if is_running (standing_in s past.history event.1) && not (is_some (holder s past event.1)) then Some (event.0, 0) else None

-- the running event that was accepted first of those that no environment holds
unfoldable pub first_unheld : Settings → Past → Option Event
first_unheld s past = first_by (unheld_rank s past) (held past.history)

-- by the moment from which it has something to do, then by acceptance, if it has a move
abbrev pub move_rank : Settings → List Command → ℕ → Bool → Event → Option (ℕ × ℕ)
move_rank s history now has_ready event =
    option_map (λ (kind : Kind). (ripe_at s history event.1, event.0)) (move_of s history now has_ready event.1)

-- the event that moves next
unfoldable pub first_moving : Settings → List Command → ℕ → Bool → Option Event
first_moving s history now has_ready = first_by (move_rank s history now has_ready) (held history)

-- by the command that ended it, if it ended on this side
abbrev pub ended_rank : Settings → List Command → Side → Event → Option (ℕ × ℕ)
ended_rank s history side event =
    if ended_on side (standing_in s history event.1) then Some (last_number event.1 history, 0) else None

-- the event that ended first of those on this side
unfoldable pub oldest_ended : Settings → List Command → Side → Option Event
oldest_ended s history side = first_by (ended_rank s history side) (held history)
