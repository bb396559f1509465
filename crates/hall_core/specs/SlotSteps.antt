-- Words for the steps of private functions over open slots.
use Rattle.std.specs.Prelude.{◌≡◌, ℕ, ◌+◌, ◌==◌, Bool, true, false, length, Option, Some, None, is_some, option_map, if◌then◌else◌, nat_le}
use Rattle.std.specs.Option.{option_len}
use Rattle.api_core.specs.declared.reply.Reply.{Reply as Text}
use Rattle.hall_core.specs.declared.open_slot.OpenSlot.{OpenSlot}
use Rattle.hall_core.specs.declared.open_slot.SlotStanding.{SlotStanding}
use Rattle.hall_core.specs.declared.open_slot.SlotStanding.TheVariants.{Waiting, Forgotten, Replied}
use Rattle.hall_core.specs.OpenSlots.{Entries, entry_at}

-- the slot has this entry now, if any, and the others are as they were
pub record PutsEntry (old new : Entries) (slot : ℕ) (entry : Option OpenSlot) : Type 0 where
  pub each : (other : ℕ) → entry_at new other ≡ (if slot == other then entry else entry_at old other)
  pub count : length new + option_len (entry_at old slot) ≡ length old + option_len entry

-- a slot that was just opened
abbrev pub fresh_entry : Text → OpenSlot
fresh_entry unavailable = record { is_forgotten = false; reply = None; unavailable = unavailable }

abbrev pub standing_of : OpenSlot → SlotStanding
standing_of entry = if is_some entry.reply then Replied else if entry.is_forgotten then Forgotten else Waiting

-- what is told of a reply: it is durable, or the hall is broken
abbrev pub tell_entry : Bool → ℕ → Text → Option (Text × ℕ) → Option (Text × ℕ)
tell_entry broken durable unavailable None = if broken then Some (unavailable, durable) else None
tell_entry broken durable unavailable (Some reply) =
    if nat_le reply.1 durable then Some reply
    else if broken then Some (unavailable, durable)
    else None

-- what a take gives of an entry
abbrev pub released_entry : Bool → ℕ → OpenSlot → Option (Text × ℕ)
released_entry broken durable entry =
    if entry.is_forgotten then None else tell_entry broken durable entry.unavailable entry.reply

abbrev pub released_at : Bool → ℕ → Option OpenSlot → Option (Text × ℕ)
released_at broken durable None = None
released_at broken durable (Some entry) = released_entry broken durable entry

-- how many commands have to be durable before the reply of an entry is told, where it has one that is wanted
abbrev pub point_by : OpenSlot → Option ℕ
point_by entry = if entry.is_forgotten then None else option_map (λ (reply : Text × ℕ). reply.1) entry.reply

abbrev pub point_at : Option OpenSlot → Option ℕ
point_at None = None
point_at (Some entry) = point_by entry

abbrev pub told_now : ℕ → Text → Option (Text × ℕ) → Text × ℕ
told_now durable unavailable None = (unavailable, durable)
told_now durable unavailable (Some reply) = if nat_le reply.1 durable then reply else (unavailable, durable)

-- what is told of an entry that is released
abbrev pub told_entry : ℕ → OpenSlot → Text × ℕ
told_entry durable entry = told_now durable entry.unavailable entry.reply

-- with this reply
abbrev pub with_reply : Text × ℕ → OpenSlot → OpenSlot
with_reply reply entry = record { is_forgotten = entry.is_forgotten; reply = Some reply; unavailable = entry.unavailable }

-- its reply is not wanted
abbrev pub marked : OpenSlot → OpenSlot
marked entry = record { is_forgotten = true; reply = entry.reply; unavailable = entry.unavailable }
