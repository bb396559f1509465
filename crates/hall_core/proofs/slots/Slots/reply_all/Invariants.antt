use Rattle.std.proofs.Common.{◌≡◌, ◌++◌, ℕ, List, length, take}
use Rattle.api_core.specs.Replies.{Told}
use Rattle.broker_core.specs.Issuer.{issued_in}
use Rattle.hall_core.specs.OpenSlots.{KeepFor, ForEachKept}
use Rattle.hall_plans.specs.Settling.{replies_told, replied_at}
use Rattle.hall_core.proofs.slots.Slots.reply_all.Given as goal

-- those that came have their replies
abbrev pub invariant-loop-slot : goal.invariant-loop-slot
invariant-loop-slot g l =
    (l.yielded ++ l.slot-iterator.rest.items ≡ l.fn.replies.items)
    × ForEachKept l.fn.self (λ s events. (told : List (ℕ × Told)) → l.fn.replies.items ≡ replies_told s told
    → KeepFor s l.self (events ++ replied_at (issued_in (g.I.Issuer.view l.issuer)) (take (length l.yielded) told)))
