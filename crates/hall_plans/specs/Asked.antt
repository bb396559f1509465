-- Which commands a request may have, by itself, whatever was done before it.
use Rattle.std.specs.Prelude.{◌≡◌, ◌⊎◌, ℕ, List, Option, Some, None, IfSome}
use Rattle.invoke_records.specs.declared.command.Kind.{Kind}
use Rattle.invoke_records.specs.declared.command.Kind.TheVariants.{Accept, Succeed, Fail, Collect}
use Rattle.invoke_records.specs.declared.command.Cause.TheVariants.{Reported, Timeout, Exited}
use Rattle.invoke_records.specs.declared.command.Command.{Command}
use Rattle.api_core.specs.declared.call.Call.{Call}
use Rattle.api_core.specs.declared.call.Call.TheVariants as calls
use Rattle.hall_plans.specs.declared.issued.Issued.{Issued}

-- an invocation accepts the event whose id was drawn
abbrev pub Accepts : List ℕ → Kind → List ℕ → Type 0
Accepts drawn kind id = (kind ≡ Accept) × (id ≡ drawn)

-- a delete collects the event that it names
abbrev pub Collects : Option (List ℕ) → Kind → List ℕ → Type 0
Collects None kind id = ⊥
Collects (Some named) kind id = (kind ≡ Collect) × (id ≡ named)

-- an answer ends the attempt of the event that it names so, or is the attempt's timeout
abbrev pub EndsBy : Kind → Option (List ℕ) → Kind → List ℕ → Type 0
EndsBy ending None kind id = ⊥
EndsBy ending (Some named) kind id = ((kind ≡ ending) ⊎ (kind ≡ Fail Timeout)) × (id ≡ named)

-- an attempt fails whose environment was left, or its time is over
abbrev pub FailsByExit : Kind → Type 0
FailsByExit kind = (kind ≡ Fail Exited) ⊎ (kind ≡ Fail Timeout)

-- the request, for which this id was drawn, may have a command of this kind for this event
abbrev pub AsksFor : List ℕ → Call → Kind → List ℕ → Type 0
AsksFor drawn (calls.Invoke payload) kind id = Accepts drawn kind id
AsksFor drawn (calls.InvokeAsync payload) kind id = Accepts drawn kind id
AsksFor drawn (calls.Delete named) kind id = Collects named kind id
AsksFor drawn (calls.Response environment named body) kind id = EndsBy Succeed named kind id
AsksFor drawn (calls.RuntimeError environment named body) kind id = EndsBy (Fail Reported) named kind id
AsksFor drawn (calls.ExtensionExitError environment identifier) kind id = FailsByExit kind
AsksFor drawn call kind id = ⊥

-- the command is such a one, if there is one
abbrev pub MayAsk : List ℕ → Call → Option Command → Type 0
MayAsk drawn call command = IfSome command (λ c. AsksFor drawn call c.kind c.id)

-- what is told of it is, if something is
abbrev pub IsAsked : List ℕ → Call → Option Issued → Type 0
IsAsked drawn call issued = IfSome issued (λ i. AsksFor drawn call i.kind i.id)
