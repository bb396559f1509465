-- Worked examples: the calls of an environment.
use Rattle.std.specs.Prelude.{ℕ, true, false, List, [], ◌∷◌, ◌++◌}
use Rattle.env_phase.specs.declared.answer.Reason.{Reason}
use Rattle.env_phase.specs.declared.answer.Reason.TheVariants as reason
use Rattle.env_phase.specs.declared.answer.PollAnswer.{PollAnswer}
use Rattle.env_phase.specs.declared.answer.PollAnswer.TheVariants as told
use Rattle.env_phase.specs.declared.call.EnvCall.{EnvCall}
use Rattle.env_phase.specs.declared.call.EnvCall.TheVariants.{RuntimeNext, Register, ExtensionNext, Give, Answer}

-- an id, of an event or of an extension, by its last byte
abbrev pub id : ℕ → List ℕ
id n = 0 ∷ 0 ∷ 0 ∷ 0 ∷ 0 ∷ 0 ∷ 64 ∷ 0 ∷ 128 ∷ 0 ∷ 0 ∷ 0 ∷ 0 ∷ 0 ∷ 0 ∷ n ∷ []

-- the runtime alone, with an event that runs until 4000
abbrev pub alone : List EnvCall
alone = RuntimeNext 1 ∷ Give (id 1) 4000 ∷ []

-- extension 21 is told of events and of the end, extension 22 of the end alone
abbrev pub two_register : List EnvCall
two_register = Register (id 21) true true ∷ Register (id 22) false true ∷ []

-- the runtime and the first of them have asked
abbrev pub two_asked : List EnvCall
two_asked = two_register ++ RuntimeNext 1 ∷ ExtensionNext (id 21) 2 ∷ []

-- and the second
abbrev pub all_asked : List EnvCall
all_asked = two_asked ++ ExtensionNext (id 22) 3 ∷ []

-- an event runs
abbrev pub given : List EnvCall
given = all_asked ++ Give (id 1) 4000 ∷ []

-- it was answered
abbrev pub answered : List EnvCall
answered = given ++ Answer (id 1) ∷ []

abbrev pub joins : ℕ → EnvCall
joins n = Register (id n) true true

-- an extension and the runtime
abbrev pub first_asked : List EnvCall
first_asked = joins 21 ∷ RuntimeNext 1 ∷ ExtensionNext (id 21) 2 ∷ []

-- ten extensions
abbrev pub ten_register : List EnvCall
ten_register =
    joins 21 ∷ joins 22 ∷ joins 23 ∷ joins 24 ∷ joins 25 ∷ joins 26 ∷ joins 27 ∷ joins 28 ∷ joins 29 ∷ joins 30 ∷ []

-- both have asked again
abbrev pub asked_again : List EnvCall
asked_again = answered ++ RuntimeNext 4 ∷ ExtensionNext (id 21) 5 ∷ []

-- the runtime asks, and then an extension registers and asks
abbrev pub one_came_late : List EnvCall
one_came_late = RuntimeNext 1 ∷ joins 21 ∷ ExtensionNext (id 21) 2 ∷ []

-- an event runs
abbrev pub late_given : List EnvCall
late_given = one_came_late ++ Give (id 1) 4000 ∷ []

-- ## What a slot is answered

abbrev pub event_on : ℕ → List ℕ → ℕ → ℕ × PollAnswer
event_on slot id deadline = (slot, told.RuntimeEvent id deadline)

abbrev pub invoke_on : ℕ → List ℕ → ℕ → ℕ × PollAnswer
invoke_on slot id deadline = (slot, told.Invoke id deadline)

abbrev pub end_on : ℕ → Reason → ℕ → ℕ × PollAnswer
end_on slot why deadline = (slot, told.Shutdown why deadline)

abbrev pub spindown_on : ℕ → ℕ → ℕ × PollAnswer
spindown_on slot deadline = end_on slot reason.Spindown deadline

abbrev pub reset_on : ℕ → ℕ × PollAnswer
reset_on slot = (slot, told.Reset)

abbrev pub replaced_on : ℕ → ℕ × PollAnswer
replaced_on slot = (slot, told.Replaced)
