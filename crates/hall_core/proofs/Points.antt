-- Lemmas: what a reply that is computed and wanted waits for, by what is kept of its slot.
use Rattle.std.proofs.Common.{◌≡◌, ℕ, List, cond, refl, sym, ap, ◌∙◌, Option, Some, None, option_map}
use Rattle.api_core.specs.declared.reply.Reply.{Reply as Text}
use Rattle.api_core.specs.Replies.{Words}
use Rattle.hall_plans.specs.Past.{SlotEvent, Past}
use Rattle.hall_plans.specs.Slots.{Reply, point_in, point_of}
use Rattle.hall_plans.specs.Status.{Status, status_of}
use Rattle.hall_core.specs.OpenSlots.{Entries, entry_at, told_in, kept, KeepFor}
use Rattle.hall_core.specs.SlotSteps.{point_at}
use Rattle.hall_plans.specs.laws.Points.{points, point_by_status, point_in_status}

told_point : (s : Words) (reply : Option Reply) → option_map (λ (r : Text × ℕ). r.1) (option_map (told_in s) reply) ≡ points reply
told_point s None = refl
told_point s (Some reply) = refl

point_kept : (s : Words) (status : Option Status) → point_at (option_map (kept s) status) ≡ point_by_status status
point_kept s None = refl
point_kept s (Some status) = ap (λ p. cond status.is_forgotten None p) (told_point s status.reply)

-- the point of what is kept of a slot is that of the events
pub point_is : (s : Words) (slots : Entries) (events : List SlotEvent) (slot : ℕ) → KeepFor s slots events
    → point_at (entry_at slots slot) ≡ point_in events slot
point_is s slots events slot keeps =
    ap point_at (keeps.each slot) ∙ point_kept s (status_of events slot) ∙ sym (point_in_status events slot)

-- and that of what was done
pub point_of_is : (past : Past) (slot : ℕ) → point_in past.slots slot ≡ point_of past slot
unfolding point_of
point_of_is past slot = refl
