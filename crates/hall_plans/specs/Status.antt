-- What the events say of one slot, and what one event more changes.
use Rattle.std.specs.Prelude.{◌≡◌, ℕ, Bool, true, false, ◌&&◌, ◌==◌, List, not, Option, Some, None, slice_get, take, if◌then◌else◌}
use Rattle.std.specs.List.{list_any}
use Rattle.hall_plans.specs.Past.{SlotEvent, asked, replied, taken, forgotten}
use Rattle.hall_plans.specs.Slots.{Reply, since, forgets, reply_in, is_open_in, tell}

-- ## A slot

-- what an open slot waits for
pub record Status : Type 0 where
  -- its reply is not wanted
  pub is_forgotten : Bool
  -- the reply that waits to be taken
  pub reply : Option Reply

-- where a slot stands by these events, if it is open in a hall that is not broken
unfoldable pub status_of : List SlotEvent → ℕ → Option Status
status_of events slot =
    if is_open_in false events slot
    then Some (record { is_forgotten = list_any (forgets slot) (since events slot); reply = reply_in events slot })
    else None

-- ## One event more

-- the slot that an event speaks of
abbrev pub slot_of : SlotEvent → ℕ
slot_of (asked slot call) = slot
slot_of (replied slot answer point) = slot
slot_of (taken slot) = slot
slot_of (forgotten slot) = slot

-- a slot that was just opened
abbrev pub fresh : Status
fresh = record { is_forgotten = false; reply = None }

-- the first reply stays; a slot whose reply is not wanted is closed by it
abbrev pub answered_by : Reply → Bool → Option Reply → Option Status
answered_by reply is_forgotten (Some first) = Some (record { is_forgotten = is_forgotten; reply = Some first })
answered_by reply true None = None
answered_by reply false None = Some (record { is_forgotten = false; reply = Some reply })

abbrev pub after_reply : Reply → Option Status → Option Status
after_reply reply None = None
after_reply reply (Some status) = answered_by reply status.is_forgotten status.reply

-- a slot that has its reply is closed, one that has none waits for it still
abbrev pub left_with : Option Reply → Option Status
left_with (Some reply) = None
left_with None = Some (record { is_forgotten = true; reply = None })

abbrev pub after_forgetting : Option Status → Option Status
after_forgetting None = None
after_forgetting (Some status) = left_with status.reply

-- what an event changes for its own slot
abbrev pub changed_by : SlotEvent → Option Status → Option Status
changed_by (asked slot call) status = Some fresh
changed_by (replied slot answer point) status = after_reply (answer, point) status
changed_by (taken slot) status = None
changed_by (forgotten slot) status = after_forgetting status

-- where a slot stands after one event more
abbrev pub status_after : SlotEvent → ℕ → Option Status → Option Status
status_after event slot status = if slot == slot_of event then changed_by event status else status

-- ## What a status says

-- the slot is open: in a broken hall it is not where its reply is not wanted
abbrev pub is_open_by : Bool → Option Status → Bool
is_open_by broken None = false
is_open_by broken (Some status) = not (broken && status.is_forgotten)

-- its reply is wanted
abbrev pub is_wanted_by : Option Status → Bool
is_wanted_by None = false
is_wanted_by (Some status) = not status.is_forgotten

-- what a take gives
abbrev pub released_by : Bool → ℕ → Option Status → Option Reply
released_by broken durable None = None
released_by broken durable (Some status) = if status.is_forgotten then None else tell broken durable status.reply

-- ## Requests that come apart

-- where a request comes, its slot is not open
abbrev pub ComesApart : List SlotEvent → SlotEvent → Type 0
ComesApart events (asked slot call) = is_open_in false events slot ≡ false
ComesApart events event = Unit {0}

-- each request came with a slot that was not open
pub record AreApart (events : List SlotEvent) : Type 0 where
  pub each : (n : ℕ) (event : SlotEvent) → slice_get events n ≡ Some event → ComesApart (take n events) event
