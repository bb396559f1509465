-- What a table says of one event, by its row and by the history that the table stands for.
use Rattle.std.specs.Prelude.{ℕ, List, [], ◌∷◌, Option, Some, None, option_map}
use Rattle.retry_rules.specs.declared.settings.Settings.{Settings}
use Rattle.invoke_records.specs.declared.command.Command.{Command}
use Rattle.invoke_records.specs.declared.row.Outcome.{Outcome}
use Rattle.invoke_records.specs.declared.row.Answer.{Answer}
use Rattle.invoke_records.specs.declared.row.EventRow.{EventRow}
use Rattle.invoke_records.specs.declared.row.Standing.{Standing}
use Rattle.invoke_records.specs.declared.row.Standing.TheVariants as standing
use Rattle.async_core.specs.declared.readers.Ended.{Ended}
use Rattle.async_core.specs.Lives.{life, accepted, starts, failures, push_backs, payload_of, answer_of}
use Rattle.async_core.specs.History.{standing_in}
use Rattle.async_core.specs.Policies.{judged_by, pair_of}

-- this, of an event that is held: of one whose life is not empty
abbrev pub where_held : {A : Type 0} → List Command → A → Option A
where_held [] x = None
where_held (c ∷ commands) x = Some x

-- how an event ended, if it has
abbrev pub outcome_by : Standing → Option Outcome
outcome_by (standing.Ended outcome at) = Some outcome
outcome_by other = None

-- ## By its row, if it has one

abbrev pub accepted_at : Option EventRow → Option ℕ
accepted_at row = option_map (λ (r : EventRow). r.accepted) row

abbrev pub payload_at : Option EventRow → Option (List ℕ)
payload_at row = option_map (λ (r : EventRow). r.payload) row

-- how often it was started, failed, and was pushed back since it failed
abbrev pub counts_of : EventRow → ℕ × ℕ × ℕ
counts_of r = (r.starts, r.failures, r.push_backs)

abbrev pub counts_at : Option EventRow → Option (ℕ × ℕ × ℕ)
counts_at row = option_map counts_of row

-- the retries and the age that it is judged by
abbrev pub judge_at : Option EventRow → Option (ℕ × ℕ)
judge_at row = option_map (λ (r : EventRow). pair_of r.policy) row

-- ## By the history, if it is held

abbrev pub accepted_after : List ℕ → List Command → Option ℕ
accepted_after id history = where_held (life id history) (accepted (life id history))

abbrev pub payload_after : List ℕ → List Command → Option (List ℕ)
payload_after id history = where_held (life id history) (payload_of (life id history))

abbrev pub counts_in : List Command → ℕ × ℕ × ℕ
counts_in commands = (starts commands, failures commands, push_backs commands)

abbrev pub counts_after : List ℕ → List Command → Option (ℕ × ℕ × ℕ)
counts_after id history = where_held (life id history) (counts_in (life id history))

abbrev pub judge_after : Settings → List ℕ → List Command → Option (ℕ × ℕ)
judge_after s id history = where_held (life id history) (pair_of (judged_by s history id))

-- ## What is told of an event that has ended

-- its id, payload and answer, how and when it ended, and its starts
pub record Ending : Type 0 where
  pub id : List ℕ
  pub payload : List ℕ
  pub answer : Answer
  pub outcome : Outcome
  pub at : ℕ
  pub starts : ℕ

abbrev pub ending_by : List ℕ → List ℕ → Answer → ℕ → Standing → Option Ending
ending_by id payload answer starts (standing.Ended outcome at) =
    Some (record { id = id; payload = payload; answer = answer; outcome = outcome; at = at; starts = starts })
ending_by id payload answer starts other = None

-- by the row of the event
abbrev pub ending_at : Option EventRow → Option Ending
ending_at None = None
ending_at (Some r) = ending_by r.id r.payload r.answer r.starts r.standing

-- by its life, and where it stands
abbrev pub ending_in : List ℕ → List Command → Standing → Option Ending
ending_in id commands stands = ending_by id (payload_of commands) (answer_of commands) (starts commands) stands

-- by the history
abbrev pub ending_after : Settings → List ℕ → List Command → Option Ending
ending_after s id history = ending_in id (life id history) (standing_in s history id)

-- what is read through its references
abbrev pub told : Ended → Ending
told e = record { id = e.id.now; payload = e.payload.now; answer = e.answer.now; outcome = e.outcome; at = e.at; starts = e.starts }
