-- Which slots are open, what is replied to them, and which replies may be told.
use Rattle.std.specs.Prelude.{ℕ, Bool, false, not, ◌&&◌, ◌||◌, ◌==◌, List, [], ◌∷◌, Option, Some, None, is_some, filter_map, option_map, slice_get, if◌then◌else◌, nat_le}
use Rattle.std.specs.List.{list_any, after_last}
use Rattle.api_core.specs.declared.dialect.Audience.TheVariants.{Caller}
use Rattle.api_core.specs.declared.refusal.Refusal.TheVariants as refusal
use Rattle.api_core.specs.Replies.{Told}
use Rattle.api_core.specs.Replies as reply
use Rattle.hall_plans.specs.Past.{SlotEvent, asked, replied, taken, forgotten, Past}

-- ## What became of one slot

abbrev pub asks : ℕ → SlotEvent → Bool
asks slot (asked other call) = slot == other
asks slot event = false

abbrev pub takes : ℕ → SlotEvent → Bool
takes slot (taken other) = slot == other
takes slot event = false

abbrev pub forgets : ℕ → SlotEvent → Bool
forgets slot (forgotten other) = slot == other
forgets slot event = false

-- an answer, and the length of the history that has to be durable before it is told
abbrev pub Reply : Type 0
Reply = Told × ℕ

abbrev pub reply_by : ℕ → SlotEvent → Option Reply
reply_by slot (replied other answer point) = if slot == other then Some (answer, point) else None
reply_by slot event = None

-- what became of a slot since the last request that came with it
abbrev pub since : List SlotEvent → ℕ → List SlotEvent
since events slot = after_last (asks slot) events

unfoldable pub since_asked : Past → ℕ → List SlotEvent
since_asked past slot = since past.slots slot

-- the reply to a slot: the first that was computed since its last request, if one was
abbrev pub reply_in : List SlotEvent → ℕ → Option Reply
reply_in events slot = slice_get (filter_map (reply_by slot) (since events slot)) 0

unfoldable pub reply_of : Past → ℕ → Option Reply
reply_of past slot = reply_in past.slots slot

-- ## Open slots

-- these events close a slot: its reply was taken, or it was forgotten and its reply computed; in a broken hall all are computed
abbrev pub closes : Bool → ℕ → List SlotEvent → Bool
closes broken slot events =
    list_any (takes slot) events || (list_any (forgets slot) events && (broken || list_any (λ event. is_some (reply_by slot event)) events))

-- the slots that are open: a request came with them, and nothing later closes them
abbrev pub open_among : Bool → List SlotEvent → List ℕ
open_among broken [] = []
open_among broken (asked slot call ∷ later) = if closes broken slot later then open_among broken later else slot ∷ open_among broken later
open_among broken (event ∷ later) = open_among broken later

unfoldable pub open_slots : Bool → Past → List ℕ
open_slots broken past = open_among broken past.slots

abbrev pub is_open_in : Bool → List SlotEvent → ℕ → Bool
is_open_in broken events slot = list_any (λ other. slot == other) (open_among broken events)

abbrev pub is_open : Bool → Past → ℕ → Bool
is_open broken past slot = list_any (λ other. slot == other) (open_slots broken past)

-- ## What may be told

-- what a broken hall tells, in the words for callers on each port
abbrev pub unavailable : ℕ → Reply
unavailable durable = (reply.refused Caller refusal.Unavailable, durable)

-- a reply is told once its point is durable. A broken hall tells every other slot that it is not available
abbrev pub tell : Bool → ℕ → Option Reply → Option Reply
tell broken durable None = if broken then Some (unavailable durable) else None
tell broken durable (Some told) =
    if nat_le told.1 durable then Some told
    else if broken then Some (unavailable durable)
    else None

-- a request came with the slot, and since then it was neither taken nor forgotten
abbrev pub is_wanted_in : List SlotEvent → ℕ → Bool
is_wanted_in events slot =
    list_any (asks slot) events
    && not (list_any (takes slot) (since events slot) || list_any (forgets slot) (since events slot))

abbrev pub is_wanted : Past → ℕ → Bool
is_wanted past slot = is_wanted_in past.slots slot

-- how many commands have to be durable before the reply is told, where it is computed and wanted
abbrev pub point_in : List SlotEvent → ℕ → Option ℕ
point_in events slot =
    if is_wanted_in events slot then option_map (λ (reply : Reply). reply.1) (reply_in events slot) else None

unfoldable pub point_of : Past → ℕ → Option ℕ
point_of past slot = point_in past.slots slot

-- what a take gives where so many commands are durable: the answer, and the number of its receipt
abbrev pub released_in : Bool → ℕ → List SlotEvent → ℕ → Option Reply
released_in broken durable events slot =
    if is_wanted_in events slot then tell broken durable (reply_in events slot) else None

unfoldable pub released : Bool → ℕ → Past → ℕ → Option Reply
released broken durable past slot = released_in broken durable past.slots slot
