-- The life of an event in a list of commands, the oldest first: the commands that name it since it was last collected.
use Rattle.std.specs.Prelude.{ℕ, Bool, true, false, ◌&&◌, List, [], ◌∷◌, filter, count_by}
use Rattle.std.specs.List.{after_last}
use Rattle.std.specs.Str.{bytes_eq}
use Rattle.invoke_records.specs.declared.command.Command.{Command}
use Rattle.invoke_records.specs.declared.command.Kind.{Kind}
use Rattle.invoke_records.specs.declared.command.Kind.TheVariants.{Accept, Start, Succeed, Fail, Throttle, Interrupt, Collect, Configure}
use Rattle.invoke_records.specs.declared.command.Cause.TheVariants.{Reported}
use Rattle.invoke_records.specs.declared.row.Answer.{Answer}
use Rattle.invoke_records.specs.declared.row.Answer.TheVariants as answer

-- ## Kinds

abbrev pub kind_is_accept : Kind → Bool
kind_is_accept Accept = true
kind_is_accept kind = false

abbrev pub kind_is_start : Kind → Bool
kind_is_start Start = true
kind_is_start kind = false

abbrev pub kind_is_failure : Kind → Bool
kind_is_failure (Fail cause) = true
kind_is_failure kind = false

abbrev pub kind_is_push_back : Kind → Bool
kind_is_push_back Throttle = true
kind_is_push_back Interrupt = true
kind_is_push_back kind = false

abbrev pub kind_is_collect : Kind → Bool
kind_is_collect Collect = true
kind_is_collect kind = false

-- all kinds but Configure are of one event, which they name
abbrev pub kind_names : Kind → Bool
kind_names (Configure policy) = false
kind_names kind = true

abbrev pub is_accept : Command → Bool
is_accept c = kind_is_accept c.kind

abbrev pub is_start : Command → Bool
is_start c = kind_is_start c.kind

abbrev pub is_failure : Command → Bool
is_failure c = kind_is_failure c.kind

abbrev pub is_push_back : Command → Bool
is_push_back c = kind_is_push_back c.kind

-- ## Lives

abbrev pub names : List ℕ → Command → Bool
names id c = kind_names c.kind && bytes_eq id c.id

abbrev pub accepts : List ℕ → Command → Bool
accepts id c = is_accept c && names id c

abbrev pub collects : List ℕ → Command → Bool
collects id c = kind_is_collect c.kind && names id c

-- the commands that name the event, since it was last collected
unfoldable pub life : List ℕ → List Command → List Command
life id history = filter (names id) (after_last (collects id) history)

abbrev pub has_begun : List Command → Bool
has_begun [] = false
has_begun (c ∷ commands) = true

-- the event was accepted, and not collected since: its life has begun
abbrev pub is_held : List ℕ → List Command → Bool
is_held id history = has_begun (life id history)

-- ## What a life says of its event

-- when the event was accepted
abbrev pub accepted : List Command → ℕ
accepted [] = 0
accepted (c ∷ commands) = c.time

abbrev pub payload_of : List Command → List ℕ
payload_of [] = []
payload_of (c ∷ commands) = c.bytes

abbrev pub starts : List Command → ℕ
starts commands = count_by is_start commands

abbrev pub failures : List Command → ℕ
failures commands = count_by is_failure commands

-- those since the last failure
abbrev pub push_backs : List Command → ℕ
push_backs commands = count_by is_push_back (after_last is_failure commands)

-- what a runtime answered last: the bytes of a response or of a reported error
abbrev pub answer_by : Answer → Kind → List ℕ → Answer
answer_by before Succeed bytes = answer.Response bytes
answer_by before (Fail Reported) bytes = answer.Error bytes
answer_by before kind bytes = before

abbrev pub answer_after : Answer → List Command → Answer
answer_after before [] = before
answer_after before (c ∷ commands) = answer_after (answer_by before c.kind c.bytes) commands

abbrev pub answer_of : List Command → Answer
answer_of commands = answer_after answer.None commands
