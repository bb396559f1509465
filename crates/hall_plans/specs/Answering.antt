-- The replies to polls, as bytes.
use Rattle.std.specs.Prelude.{ℕ, List, map}
use Rattle.invoke_records.specs.declared.command.Command.{Command}
use Rattle.env_phase.specs.declared.answer.PollAnswer.{PollAnswer}
use Rattle.retry_rules.specs.declared.settings.Settings.{Settings}
use Rattle.api_core.specs.declared.dialect.Dialect.{Dialect}
use Rattle.api_core.specs.declared.reply.Reply.{Reply}
use Rattle.api_core.specs.Replies.{Words, reply_in}
use Rattle.hall_plans.specs.Run.{reply_to_poll}

-- the words of this dialect, of a function with these settings
abbrev pub words_of : Dialect → Settings → Words
words_of dialect s = record { dialect = dialect; settings = s }

-- the reply to one poll, with its slot
abbrev pub poll_told : Words → List Command → ℕ × PollAnswer → ℕ × Reply
poll_told w history poll = (poll.0, reply_in w (reply_to_poll history poll.1))

abbrev pub polls_told : Words → List Command → List (ℕ × PollAnswer) → List (ℕ × Reply)
polls_told w history polls = map (poll_told w history) polls
