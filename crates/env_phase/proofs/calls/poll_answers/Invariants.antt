use Rattle.std.proofs.Common.{◌≡◌, ◌∷◌, ◌++◌, filter_map, drop}
use Rattle.env_phase.specs.Polls as poll
use Rattle.env_phase.proofs.calls.poll_answers.Given as goal

-- what was answered, and what the rest is answered
abbrev pub invariant-loop-extension : goal.invariant-loop-extension
invariant-loop-extension l =
    filter_map (poll.answered l.call) (l.fn.runtime ∷ l.extensions)
    ≡ l.answers.items ++ filter_map (poll.answered l.call) (drop l.extension-index l.extensions)
