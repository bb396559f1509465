-- What a hall keeps of its slots as contracts see it, which of them are open, and the events that they keep.
use Rattle.std.specs.Prelude.{◌≡◌, ℕ, Bool, false, not, ◌&&◌, List, [], ◌∷◌, ◌++◌, length, count_by, Option, Some, None, option_map}
use Rattle.std.specs.Ordering.{nat_cmp}
use Rattle.std.specs.BTreeMap.{is_at}
use Rattle.std.specs.Map.{lookup, values_of}
use Rattle.api_core.specs.declared.call.Call.{Call}
use Rattle.api_core.specs.declared.reply.Reply.{Reply as Text}
use Rattle.api_core.specs.declared.dialect.Audience.TheVariants.{Caller}
use Rattle.api_core.specs.declared.refusal.Refusal.TheVariants.{Unavailable}
use Rattle.api_core.specs.Replies.{refused, Words, reply_in}
use Rattle.hall_core.specs.declared.open_slot.OpenSlot.{OpenSlot}
use Rattle.hall_plans.specs.Past.{SlotEvent, asked}
use Rattle.hall_plans.specs.Slots.{Reply, open_among}
use Rattle.hall_plans.specs.Status.{Status, status_of, AreApart}

-- what is kept of slots, behind their numbers
abbrev pub Entries : Type 0
Entries = List (ℕ × OpenSlot)

-- what is kept of a slot, if something is
abbrev pub entry_at : Entries → ℕ → Option OpenSlot
entry_at slots slot = lookup (is_at (nat_cmp slot)) slots

-- ## Which of them are open

-- a slot that is kept is open, unless its reply is not wanted and the hall is broken
abbrev pub is_open_entry : Bool → OpenSlot → Bool
is_open_entry broken entry = not (broken && entry.is_forgotten)

abbrev pub is_open_at : Bool → Option OpenSlot → Bool
is_open_at broken None = false
is_open_at broken (Some entry) = is_open_entry broken entry

-- the slot is open
abbrev pub has_open : Bool → Entries → ℕ → Bool
has_open broken slots slot = is_open_at broken (entry_at slots slot)

-- how many are open
abbrev pub open_count : Bool → Entries → ℕ
open_count broken slots = count_by (is_open_entry broken) (values_of slots)

-- ## The events that they keep

-- an answer as it is told, and the number of its receipt
abbrev pub told_in : Words → Reply → Text × ℕ
told_in w reply = (reply_in w reply.0, reply.1)

-- what a slot is told whose reply is not available
abbrev pub unavailable_in : Words → Text
unavailable_in w = reply_in w (refused Caller Unavailable)

-- what is kept of an open slot
abbrev pub kept : Words → Status → OpenSlot
kept w status = record {
  is_forgotten = status.is_forgotten;
  reply = option_map (told_in w) status.reply;
  unavailable = unavailable_in w;
}

-- each request came with a slot that was not open, and of each slot is kept how it stands by these events
pub record KeepFor (w : Words) (slots : Entries) (events : List SlotEvent) : Type 0 where
  pub apart : AreApart events
  pub each : (slot : ℕ) → entry_at slots slot ≡ option_map (kept w) (status_of events slot)
  pub count : length slots ≡ length (open_among false events)

-- this holds of all words and events that they keep
abbrev pub ForEachKept : Entries → (Words → List SlotEvent → Type 0) → Type 0
ForEachKept slots holds = (w : Words) (events : List SlotEvent) → KeepFor w slots events → holds w events

-- they keep these events and one more
abbrev pub KeepMore : Words → Entries → List SlotEvent → SlotEvent → Type 0
KeepMore w slots events event = KeepFor w slots (events ++ event ∷ [])

-- whichever events they kept before a request came with this slot, they keep them again
abbrev pub IsUndone : Entries → Entries → ℕ → Type 0
IsUndone old new slot =
    (w : Words) (events : List SlotEvent) (call : Call) → KeepMore w old events (asked slot call)
    → KeepFor w new events
