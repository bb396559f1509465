-- An environment as contracts see it: what its calls left, and which lists of calls it stands for.
use Rattle.std.specs.Prelude.{◌≡◌, ℕ, Bool, List, ◌∷◌, [], ◌++◌, map, Option, Some, None}
use Rattle.std.specs.List.{list_any}
use Rattle.env_phase.specs.declared.answer.PollAnswer.{PollAnswer}
use Rattle.env_phase.specs.declared.refusal.EnvError.{EnvError}
use Rattle.env_phase.specs.declared.refusal.EnvError.TheVariants.{Refused, OutOfMemory}
use Rattle.env_phase.specs.declared.call.Waiter.{Waiter}
use Rattle.env_phase.specs.declared.call.EnvCall.{EnvCall}
use Rattle.env_phase.specs.Calls.{is_shutdown, runtime}
use Rattle.env_phase.specs.Environment.{registered, slot_of, unanswered, was_met}
use Rattle.env_phase.specs.Polls.{refusal_of, IsLegal, waiter_of, answered_by}

pub record EnvState : Type 0 where
  pub number : ℕ
  -- for how many extensions it waits in each era
  pub wanted : ℕ
  -- it was shut down
  pub is_shut : Bool
  -- its era was met
  pub has_met : Bool
  -- the event that was given and is not answered
  pub event : Option (List ℕ)
  -- the slot on which the runtime is parked
  pub runtime_slot : Option ℕ
  -- the extensions that are registered, in that order
  pub extensions : List Waiter

-- what these calls leave of the environment of this number, which waits for so many extensions
unfoldable pub state_of : ℕ → ℕ → List EnvCall → EnvState
state_of wanted number calls = record {
  number = number;
  wanted = wanted;
  is_shut = list_any is_shutdown calls;
  has_met = was_met wanted calls;
  event = unanswered calls;
  runtime_slot = slot_of calls runtime;
  extensions = map (waiter_of calls) (registered calls);
}

-- the environment accepted each of these calls, and is what they leave
abbrev pub StandsFor : EnvState → List EnvCall → Type 0
StandsFor e calls = IsLegal e.wanted calls × (e ≡ state_of e.wanted e.number calls)

-- this holds of each list of calls that the environment stands for
abbrev pub ForEachList : EnvState → (List EnvCall → Type 0) → Type 0
ForEachList e holds = (calls : List EnvCall) → StandsFor e calls → holds calls

-- after these calls the call is accepted, and the environment then stands for them and the call; it answers these polls
abbrev pub IsAccepted : List EnvCall → EnvCall → EnvState → List (ℕ × PollAnswer) → Type 0
IsAccepted calls call e polls =
    (refusal_of e.wanted calls call ≡ None) × StandsFor e (calls ++ call ∷ []) × (polls ≡ answered_by calls call)

-- after these calls the call is refused for this reason, or is accepted and memory is wanting
abbrev pub IsRefused : ℕ → List EnvCall → EnvCall → EnvError → Type 0
IsRefused wanted calls call (Refused why) = refusal_of wanted calls call ≡ Some why
IsRefused wanted calls call OutOfMemory = refusal_of wanted calls call ≡ None

-- whichever calls the environment stood for, the call is accepted after them, and it then stands for them and the call
abbrev pub Accepts : EnvState → EnvCall → EnvState → List (ℕ × PollAnswer) → Type 0
Accepts old call new answers =
    ForEachList old (λ calls. IsAccepted calls call new answers) × (new.number ≡ old.number) × (new.wanted ≡ old.wanted)

-- whichever calls the environment stands for, the call is refused after them for this reason, or memory is wanting
abbrev pub Refuses : EnvState → EnvCall → EnvError → Type 0
Refuses e call why = ForEachList e (λ calls. IsRefused e.wanted calls call why)
