-- Replies that are given to their slots.
use Rattle.std.specs.Prelude.{ℕ, List, [], ◌∷◌, map, Option, Some, None}
use Rattle.api_core.specs.declared.reply.Reply.{Reply}
use Rattle.api_core.specs.Replies.{Told, Words, reply_in}
use Rattle.hall_plans.specs.Past.{SlotEvent, replied}

-- answers as they are told, each with its slot
abbrev pub replies_told : Words → List (ℕ × Told) → List (ℕ × Reply)
replies_told w told = map (λ (t : ℕ × Told). (t.0, reply_in w t.1)) told

-- they are computed at this point
abbrev pub replied_at : ℕ → List (ℕ × Told) → List SlotEvent
replied_at point told = map (λ (t : ℕ × Told). replied t.0 t.1 point) told

-- the reply to the caller, if there is one now
abbrev pub own_at : ℕ → ℕ → Option Told → List SlotEvent
own_at slot point None = []
own_at slot point (Some told) = replied slot told point ∷ []
