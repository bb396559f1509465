use Rattle.std.proofs.Common.{◌≡◌, ◌++◌, drop}
use Rattle.async_core.specs.Histories.{ForEachLegalHistory}
use Rattle.hall_plans.specs.Answering.{words_of, polls_told}
use Rattle.hall_plans.proofs.answering.replies_to_polls.Given as goal

-- the replies so far, and those to the rest
abbrev pub invariant-loop-slot : goal.invariant-loop-slot
invariant-loop-slot l =
    ForEachLegalHistory l.table (λ s history.
    polls_told (words_of l.dialect s) history l.answered
    ≡ l.replies.items ++ polls_told (words_of l.dialect s) history (drop l.slot-index l.answered))
