-- Which event goes next: what an event would do now, the moment from which it has something to do, and who goes first.
use Rattle.std.specs.Prelude.{◌≡◌, ℕ, ◌<◌, ◌≤◌, min, ◌⊎◌, Bool, true, false, ◌&&◌, ◌||◌, ◌==◌, List, [], ◌∷◌, ◌++◌, Option, Some, None, IsSome, is_some, unwrap_or, if◌then◌else◌, nat_lt, nat_le, All, Contains, option_map}
use Rattle.retry_rules.specs.declared.settings.Settings.{Settings}
use Rattle.invoke_records.specs.Spelling.{greatest_moment}
use Rattle.invoke_records.specs.declared.command.Command.{Command}
use Rattle.invoke_records.specs.declared.command.Kind.{Kind}
use Rattle.invoke_records.specs.declared.command.Kind.TheVariants.{Start, Fail, Throttle, Expire}
use Rattle.invoke_records.specs.declared.command.Cause.TheVariants.{Timeout}
use Rattle.invoke_records.specs.declared.row.Outcome.{Outcome}
use Rattle.invoke_records.specs.declared.row.Outcome.TheVariants as outcome
use Rattle.invoke_records.specs.declared.row.EventRow.{EventRow}
use Rattle.invoke_records.specs.declared.row.Standing.{Standing}
use Rattle.invoke_records.specs.declared.row.Standing.TheVariants as standing
use Rattle.async_core.specs.declared.choice.Side.{Side}
use Rattle.async_core.specs.declared.choice.Side.TheVariants as side
use Rattle.async_core.specs.declared.choice.Order.{Order}
use Rattle.async_core.specs.declared.choice.Order.TheVariants as order
use Rattle.async_core.specs.declared.choice.Move.{Move}
use Rattle.async_core.specs.Standings.{is_running}
use Rattle.async_core.specs.History.{held, standing_in, too_old_from, running_count, is_busy_in, row_of, refusal_of, last_number, last_moment}
use Rattle.async_core.specs.Rules.{running_at, too_old_at}

-- ## Moves

-- of an event that is due, where as many attempts run as may run at once, and where an environment is ready
abbrev pub start_or_throttle : Bool → Bool → Option Kind
start_or_throttle is_full has_ready = if is_full then Some Throttle else if has_ready then Some Start else None

abbrev pub move_when_due : Bool → Bool → ℕ → ℕ → ℕ → Option Kind
move_when_due is_full has_ready too_old now due =
    if nat_le too_old now then Some Expire
    else if nat_le due now then start_or_throttle is_full has_ready
    else None

-- what an event would do now, by where it stands
abbrev pub move_by : Bool → Bool → ℕ → ℕ → Standing → Option Kind
move_by is_full has_ready too_old now standing.Unknown = None
move_by is_full has_ready too_old now (standing.Waiting due) = move_when_due is_full has_ready too_old now due
move_by is_full has_ready too_old now (standing.DueAgain due) = move_when_due is_full has_ready too_old now due
move_by is_full has_ready too_old now (standing.Running environment deadline) = if nat_le deadline now then Some (Fail Timeout) else None
move_by is_full has_ready too_old now (standing.Ended outcome at) = None

-- the moment from which an event has something to do
abbrev pub ripe_by : ℕ → Standing → ℕ
ripe_by too_old (standing.Waiting due) = min due too_old
ripe_by too_old (standing.DueAgain due) = min due too_old
ripe_by too_old (standing.Running environment deadline) = deadline
ripe_by too_old (standing.Ended outcome at) = at
ripe_by too_old standing.Unknown = 0

-- ## By the history

-- what an event would do now, where an environment is ready or none is
unfoldable pub move_of : Settings → List Command → ℕ → Bool → List ℕ → Option Kind
move_of s history now has_ready id =
    move_by (nat_le s.concurrency (running_count s history)) has_ready (too_old_from s history id) now (standing_in s history id)

unfoldable pub ripe_at : Settings → List Command → List ℕ → ℕ
ripe_at s history id = ripe_by (too_old_from s history id) (standing_in s history id)

-- its moment is earlier, or the same and it was accepted no later
abbrev pub GoesFirst : Settings → List Command → ℕ × List ℕ → ℕ × List ℕ → Type 0
GoesFirst s history a b =
    (ripe_at s history a.1 < ripe_at s history b.1) ⊎ ((ripe_at s history a.1 ≡ ripe_at s history b.1) × (a.0 ≤ b.0))

-- this event makes this move, and no event that has a move goes before it
pub record IsNext (s : Settings) (history : List Command) (now : ℕ) (has_ready : Bool) (event : ℕ × List ℕ) (kind : Kind) : Type 0 where
  pub is_held : Contains (held history) event
  pub moves : move_of s history now has_ready event.1 ≡ Some kind
  pub first : All (λ other. IsSome (move_of s history now has_ready other.1) → GoesFirst s history event other) (held history)

-- ## By the rows

abbrev pub is_on : Side → Outcome → Bool
is_on side.Success outcome.Success = true
is_on side.Success other = false
is_on side.Failure outcome.Success = false
is_on side.Failure other = true

-- it has ended on this side
abbrev pub ended_on : Side → Standing → Bool
ended_on side (standing.Ended outcome at) = is_on side outcome
ended_on side other = false

-- the rank of a row, if it has one: the least goes first
abbrev pub rank : Order → EventRow → Option (ℕ × ℕ)
rank (order.Ended side) r = if ended_on side r.standing then Some (r.last_number, 0) else None
rank (order.EndedBehind side behind) r = if ended_on side r.standing && nat_lt behind r.last_number then Some (r.last_number, 0) else None
rank (order.Running above) r = if is_running r.standing && nat_lt above r.number then Some (r.number, 0) else None
rank (order.Moving now has_ready is_full) r =
    option_map (λ (kind : Kind). (ripe_by (too_old_at r) r.standing, r.number))
    (move_by is_full has_ready (too_old_at r) now r.standing)

abbrev pub goes_before : ℕ × ℕ → ℕ × ℕ → Bool
goes_before a b = nat_lt a.0 b.0 || ((a.0 == b.0) && nat_lt a.1 b.1)

-- a rank is none, or not before this one
abbrev pub NotBefore : ℕ × ℕ → Option (ℕ × ℕ) → Type 0
NotBefore k None = Unit {0}
NotBefore k (Some other) = (k.0 < other.0) ⊎ ((k.0 ≡ other.0) × (k.1 ≤ other.1))

-- this row has the least rank
pub record IsLeast (order : Order) (rows : List EventRow) (row : EventRow) : Type 0 where
  pub is_there : Contains rows row
  pub at : ℕ × ℕ
  pub ranked : rank order row ≡ Some at
  pub least : All (λ r. NotBefore at (rank order r)) rows

-- the row of least rank, or none where no row has a rank
abbrev pub IsChosen : Order → List EventRow → Option EventRow → Type 0
IsChosen order rows None = All (λ r. rank order r ≡ None) rows
IsChosen order rows (Some row) = IsLeast order rows row

-- of any rows of which best is chosen, and this row, the other one is chosen
abbrev pub ChoosesAgain : Order → Option EventRow → EventRow → Option EventRow → Type 0
ChoosesAgain order best row chosen =
    (rows : List EventRow) → IsChosen order rows best → IsChosen order (rows ++ row ∷ []) chosen

-- of any of these rows of which best is chosen, and at least as many more of them, the other one is chosen
abbrev pub ChoosesAmong : Order → List EventRow → (List EventRow → Type 0) → Option EventRow → Option EventRow → Type 0
ChoosesAmong order rows enough best chosen =
    (seen : List EventRow) → All (Contains rows) seen → IsChosen order seen best
    → (more : List EventRow) × All (Contains rows) more × All (Contains more) seen × enough more × IsChosen order more chosen

-- how moves are ranked in these rows
abbrev pub moving : Settings → List EventRow → ℕ → Bool → Order
moving s rows now has_ready = order.Moving now has_ready (nat_le s.concurrency (running_at rows))

-- what view says of the row of least rank, or none where no row has a rank
abbrev pub IsChosenAs : {A : Type 0} → Order → List EventRow → (EventRow → A) → Option A → Type 0
IsChosenAs order rows view None = All (λ r. rank order r ≡ None) rows
IsChosenAs order rows view (Some x) = (row : EventRow) × (x ≡ view row) × IsLeast order rows row

abbrev pub environment_for : Option ℕ → Kind → ℕ
environment_for ready Start = unwrap_or ready 0
environment_for ready kind = 0

-- the move of a row: whether as many attempts run as may, the moment, and the environment that is ready
abbrev pub row_move : Bool → ℕ → Option ℕ → EventRow → Option Move
row_move is_full now ready r =
    option_map (λ (kind : Kind). record { kind = kind; id = r.id; environment = environment_for ready kind })
    (move_by is_full (is_some ready) (too_old_at r) now r.standing)

-- the move of a row among these rows
abbrev pub move_at : Settings → List EventRow → ℕ → Option ℕ → EventRow → Option Move
move_at s rows now ready r = row_move (nat_le s.concurrency (running_at rows)) now ready r

-- the move of the row that goes first, or none where no row has a move
abbrev pub IsNextAt : Settings → List EventRow → ℕ → Option ℕ → Option Move → Type 0
IsNextAt s rows now ready None = All (λ r. move_at s rows now ready r ≡ None) rows
IsNextAt s rows now ready (Some move) =
    (row : EventRow) × (Some move ≡ move_at s rows now ready row) × IsLeast (moving s rows now (is_some ready)) rows row

-- ## What next_move answers after a history

-- the move of the event that goes next, or none where no event that is held has a move
abbrev pub IsNextMove : Settings → List Command → ℕ → Option ℕ → Option Move → Type 0
IsNextMove s history now ready None = All (λ event. move_of s history now (is_some ready) event.1 ≡ None) (held history)
IsNextMove s history now ready (Some move) =
    (event : ℕ × List ℕ) × (move.id ≡ event.1) × (move.environment ≡ environment_for ready move.kind)
    × IsNext s history now (is_some ready) event move.kind

-- an environment of the settings that runs nothing, if one is given
abbrev pub IsFree : Settings → List Command → Option ℕ → Type 0
IsFree s history None = Unit {0}
IsFree s history (Some environment) =
    (0 < environment) × (environment ≤ s.environments) × (is_busy_in s history environment ≡ false)

-- the command of a move
abbrev pub command_of_move : ℕ → Move → Command
command_of_move now move = record { kind = move.kind; id = move.id; environment = move.environment; time = now; bytes = [] }

-- the move, if there is one, is legal at this moment
abbrev pub IsLegalMove : Settings → List Command → ℕ → Option Move → Type 0
IsLegalMove s history now None = Unit {0}
IsLegalMove s history now (Some move) = refusal_of s history (command_of_move now move) ≡ None

-- at a moment of the calendar, no earlier than the last command, and with an environment that is free, the move is legal
abbrev pub IsLegalIfFree : Settings → List Command → ℕ → Option ℕ → Option Move → Type 0
IsLegalIfFree s history now ready result =
    now ≤ greatest_moment → last_moment history ≤ now → IsFree s history ready → IsLegalMove s history now result

-- ## The first event that passes a test after a history

-- the event that passes the test and has the least key, or none where none that is held passes
abbrev pub IsFirstHeld : {A : Type 0} → (ℕ × List ℕ → Bool) → (ℕ × List ℕ → ℕ) → (ℕ × List ℕ → A) → List Command → Option A → Type 0
IsFirstHeld test key view history None = All (λ event. test event ≡ false) (held history)
IsFirstHeld test key view history (Some x) =
    (event : ℕ × List ℕ) × (x ≡ view event) × Contains (held history) event × (test event ≡ true)
    × All (λ other. test other ≡ true → key event ≤ key other) (held history)

-- of the events that run and were accepted by a later command than this one, the one that was accepted first
abbrev pub IsFirstRunning : Settings → List Command → ℕ → Option (ℕ × List ℕ) → Type 0
IsFirstRunning s history after result =
    IsFirstHeld
    (λ event. is_running (standing_in s history event.1) && nat_lt after event.0)
    (λ event. event.0) (λ event. event) history result

-- the event that ended first of those that ended on this side
abbrev pub IsOldestEnded : Settings → List Command → Side → Option (List ℕ) → Type 0
IsOldestEnded s history side result =
    IsFirstHeld (λ event. ended_on side (standing_in s history event.1))
    (λ event. last_number event.1 history) (λ event. event.1) history result

-- of the events that ended on this side by a later command than this one, the one that ended first, as its row
abbrev pub IsNextEnded : Settings → List Command → Side → ℕ → Option EventRow → Type 0
IsNextEnded s history side behind result =
    IsFirstHeld (λ event. ended_on side (standing_in s history event.1) && nat_lt behind (last_number event.1 history))
    (λ event. last_number event.1 history) (λ event. row_of s history event) history result
