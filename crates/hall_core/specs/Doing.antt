-- What becomes of the slots by a request and by a tick.
use Rattle.std.specs.Prelude.{◌≡◌, ℕ, List, ◌∷◌, [], ◌++◌, Option, option_map}
use Rattle.api_core.specs.declared.call.Call.{Call}
use Rattle.api_core.specs.declared.reply.Reply.{Reply}
use Rattle.api_core.specs.Replies.{Told, Words, reply_in}
use Rattle.hall_plans.specs.declared.preparing.Prepared.{Prepared}
use Rattle.hall_plans.specs.Past.{asked}
use Rattle.hall_core.specs.OpenSlots.{Entries, KeepFor, ForEachKept, unavailable_in}
use Rattle.hall_plans.specs.Settling.{replies_told, replied_at, own_at}

-- these answers are told to polls, and this to the caller
abbrev pub Tells : Words → Prepared → List (ℕ × Told) → Option Told → Type 0
Tells w p told own = (p.replies.items ≡ replies_told w told) × (p.own ≡ option_map (reply_in w) own)

-- the request comes with its slot, then the polls are answered, then the caller
abbrev pub KeepRequest : Entries → Entries → ℕ → Reply → Prepared → ℕ → Type 0
KeepRequest old new slot unavailable p point =
    ForEachKept old (λ w events. unavailable ≡ unavailable_in w → (told : List (ℕ × Told)) (own : Option Told) → Tells w p told own
    → (call : Call) → KeepFor w new (events ++ asked slot call ∷ [] ++ replied_at point told ++ own_at slot point own))

-- the polls are answered
abbrev pub KeepTick : Entries → Entries → Prepared → ℕ → Type 0
KeepTick old new p point =
    ForEachKept old (λ w events. (told : List (ℕ × Told)) →
    p.replies.items ≡ replies_told w told → KeepFor w new (events ++ replied_at point told))
