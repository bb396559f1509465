-- What is promised to whoever was answered, in the words of the calls.
--
-- 1. An event that was answered 202 is kept: whatever is called, wherever the broker stops and however often it is opened
--    again, the table has the event with the payload that it came with, until a Collect of it.
-- 2. A record that was shown is that of the history, and is shown again to whoever asks for the oldest of its side, until a
--    Collect of its event.
-- 3. A reply says what the hall computed from the first so many commands, and a stop takes none of them away.
-- 4. What a stop leaves follows the written rules: where each event stands, its attempts, its age, and which moves next.
-- 5. A disk that was migrated or copied goes on with all of that.
use Rattle.std.specs.Prelude.{◌≡◌, ℕ, ◌≤◌, Bool, true, false, List, [], ◌∷◌, ◌++◌, length, take, drop, Option, Some, ◌⊎◌}
use Rattle.std.specs.List.{list_any}
use Rattle.retry_rules.specs.declared.settings.Settings.{Settings}
use Rattle.invoke_records.specs.declared.snapshot.Snapshot.{Snapshot}
use Rattle.invoke_records.specs.declared.command.Command.{Command}
use Rattle.invoke_records.specs.declared.command.Kind.TheVariants.{Accept}
use Rattle.async_core.specs.declared.choice.Move.{Move}
use Rattle.async_core.specs.declared.choice.Side.{Side}
use Rattle.async_core.specs.Lives.{collects}
use Rattle.async_core.specs.History.{standing_in, table_of, IsLegal}
use Rattle.async_core.specs.Rules.{row_at, standing_at}
use Rattle.async_core.specs.Readers.{Ending, payload_at, counts_at, counts_after, accepted_at, accepted_after, judge_at, judge_after, ending_at, ending_after}
use Rattle.async_core.specs.Choice.{IsNextAt, IsNextMove}
use Rattle.api_core.specs.declared.call.Call.{Call}
use Rattle.api_core.specs.declared.call.Call.TheVariants.{Invoke, InvokeAsync, Oldest}
use Rattle.api_core.specs.Replies.{Told, accepted, accepted_async, record_of}
use Rattle.hall_plans.specs.Past.{HallCall, arrive, Past}
use Rattle.hall_plans.specs.Effects.{command_for, ending_of_event}
use Rattle.hall_plans.specs.Firsts.{oldest_ended}
use Rattle.hall_plans.specs.Run.{past_of}
use Rattle.hall_plans.specs.Slots.{reply_of, released}
use Rattle.hall_plans.specs.Promises.{comes_with, IsRunFrom}
use Rattle.checkpoint.specs.Live.{RecoversTo}

-- ## What was told

-- the calls of a hall, none of them refused, since it was opened on a legal history, and for how many extensions it waits
pub record Life (s : Settings) : Type 0 where
  pub wanted : ℕ
  pub opened : List Command
  pub calls : List HallCall
  pub made : IsRunFrom s wanted opened calls

-- what such a hall has done, and all commands
abbrev pub done : (s : Settings) → Life s → Past
done s life = past_of s life.wanted life.opened life.calls

-- where so many commands are durable, it tells a slot this, with a receipt for the first `point` commands
pub record Telling (s : Settings) : Type 0 where
  pub life : Life s
  pub broken : Bool
  pub durable : ℕ
  pub slot : ℕ
  pub told : Told
  pub point : ℕ
  pub given : released broken durable (done s life) slot ≡ Some (told, point)

-- the commands that were issued before it was told
abbrev pub issued : (s : Settings) → Telling s → List Command
issued s t = (done s t.life).history

-- the request that came last with the slot
pub record IsLastRequest (s : Settings) (t : Telling s) (request : Call) : Type 0 where
  pub before : List HallCall
  pub now : ℕ
  pub words : ℕ × ℕ
  pub later : List HallCall
  pub calls : t.life.calls ≡ before ++ arrive t.slot request now words ∷ later
  pub last : list_any (comes_with t.slot) later ≡ false

-- the request invokes with this payload, and this tells it that the event was accepted, with this id
abbrev pub Accepts : Call → List ℕ → Told → List ℕ → Type 0
Accepts request payload told id =
    ((request ≡ Invoke payload) × (told ≡ accepted id)) ⊎ ((request ≡ InvokeAsync payload) × (told ≡ accepted_async id))

-- the request to invoke with this payload was answered 202, with this id: the first so many commands end with its acceptance
pub record WasAnswered202 (s : Settings) (t : Telling s) (id payload : List ℕ) : Type 0 where
  pub invoked : Call
  pub told : Accepts invoked payload t.told id
  pub request : IsLastRequest s t invoked
  pub durable : t.point ≤ t.durable
  pub before : List Command
  pub time : ℕ
  pub accepts : take t.point (issued s t) ≡ before ++ command_for Accept id time payload ∷ []

-- the record of the event that ended first on this side, which a request for the oldest one is told
abbrev pub oldest_record : Settings → List Command → Side → Option Ending
oldest_record s history side = ending_of_event s history (oldest_ended s history side)

-- a request for the oldest record of this side was told this one, as the first so many commands have it
pub record WasShown (s : Settings) (t : Telling s) (side : Side) (e : Ending) : Type 0 where
  pub told : t.told ≡ record_of e
  pub request : IsLastRequest s t (Oldest side)
  pub durable : t.point ≤ t.durable
  pub is_oldest : oldest_record s (take t.point (issued s t)) side ≡ Some e
  pub is_its : ending_after s e.id (take t.point (issued s t)) ≡ Some e

-- the calls up to one of them computed it, and had issued just the first so many commands, which are durable
pub record IsToldOfPrefix (s : Settings) (t : Telling s) : Type 0 where
  pub front : List HallCall
  pub later : List HallCall
  pub calls : t.life.calls ≡ front ++ later
  pub computed : reply_of (past_of s t.life.wanted t.life.opened front) t.slot ≡ Some (t.told, t.point)
  pub history : (past_of s t.life.wanted t.life.opened front).history ≡ take t.point (issued s t)
  pub there : t.point ≤ length (issued s t)
  pub durable : t.point ≤ t.durable

-- ## What comes later

-- the later history is legal and begins with the first so many commands of this one
pub record GoesOn (s : Settings) (point : ℕ) (history later : List Command) : Type 0 where
  pub legal : IsLegal s later
  pub reaches : point ≤ length later
  pub begins : take point later ≡ take point history

-- a Collect of the event comes behind the first so many commands
abbrev pub IsCollected : ℕ → List Command → List ℕ → Type 0
IsCollected point later id = list_any (collects id) (drop point later) ≡ true

-- the table of the later history has the event with its payload, or the event was collected
abbrev pub IsKept : Settings → ℕ → List Command → List ℕ → List ℕ → Type 0
IsKept s point later id payload = (payload_at (row_at (table_of s later) id) ≡ Some payload) ⊎ IsCollected point later id

-- the table of the later history tells this record of the event, or the event was collected
abbrev pub IsShown : Settings → ℕ → List Command → Ending → Type 0
IsShown s point later e = (ending_at (row_at (table_of s later) e.id) ≡ Some e) ⊎ IsCollected point later e.id

-- it is still what a request for the oldest record of its side is told, or the event was collected
abbrev pub IsShownFirst : Settings → ℕ → List Command → Side → Ending → Type 0
IsShownFirst s point later side e = (oldest_record s later side ≡ Some e) ⊎ IsCollected point later e.id

-- the image recovers to the table of a history that goes on so
pub record Leaves (s : Settings) (point : ℕ) (history : List Command) (image : List ℕ) : Type 0 where
  pub after : List Command
  pub goes_on : GoesOn s point history after
  pub recovers : RecoversTo s (table_of s after) image

-- and that history has kept the event
abbrev pub LeavesEvent : (s now : Settings) → Telling s → List ℕ → List ℕ → List ℕ → Type 0
LeavesEvent s now t id payload image = (stop : Leaves now t.point (issued s t) image) × IsKept now t.point stop.after id payload

-- the table says of each event, and of what moves next, what the written rules say of the history
pub record FollowsRules (s : Settings) (history : List Command) (table : Snapshot) : Type 0 where
  pub stands : (id : List ℕ) → standing_at table id ≡ standing_in s history id
  pub accepted : (id : List ℕ) → accepted_at (row_at table id) ≡ accepted_after id history
  pub attempts : (id : List ℕ) → counts_at (row_at table id) ≡ counts_after id history
  pub judged : (id : List ℕ) → judge_at (row_at table id) ≡ judge_after s id history
  pub ended : (id : List ℕ) → ending_at (row_at table id) ≡ ending_after s id history
  pub moves : (now : ℕ) (ready : Option ℕ) (move : Option Move) → IsNextAt s table.rows now ready move → IsNextMove s history now ready move
