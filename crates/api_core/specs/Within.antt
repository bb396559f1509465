-- Which calls keep to the settings.
use Rattle.std.specs.Prelude.{ℕ, ◌≤◌, length}
use Rattle.retry_rules.specs.declared.settings.Settings.{Settings}
use Rattle.api_core.specs.declared.call.Call.{Call}
use Rattle.api_core.specs.declared.call.Call.TheVariants.{Invoke, InvokeAsync, Describe, Oldest, Delete, StopBroker, RuntimeNext, Response, RuntimeError, RuntimeInitError, Register, ExtensionNext, ExtensionInitError, ExtensionExitError, Subscribe}

-- environments are numbered from 1
abbrev pub IsEnvironment : Settings → ℕ → Type 0
IsEnvironment s n = (1 ≤ n) × (n ≤ s.environments)

-- its environment is one of the settings, a payload is not empty, and what it carries is not too long
abbrev pub IsWithin : Settings → Call → Type 0
IsWithin s (Invoke payload) = (1 ≤ length payload) × (length payload ≤ s.payload)
IsWithin s (InvokeAsync payload) = (1 ≤ length payload) × (length payload ≤ s.payload)
IsWithin s (Describe what) = Unit {0}
IsWithin s (Oldest side) = Unit {0}
IsWithin s (Delete id) = Unit {0}
IsWithin s StopBroker = Unit {0}
IsWithin s (RuntimeNext n) = IsEnvironment s n
IsWithin s (Response n id body) = IsEnvironment s n × (length body ≤ s.response)
IsWithin s (RuntimeError n id body) = IsEnvironment s n × (length body ≤ s.response)
IsWithin s (RuntimeInitError n) = IsEnvironment s n
IsWithin s (Register n name invoke shutdown account) = IsEnvironment s n
IsWithin s (ExtensionNext n identifier) = IsEnvironment s n
IsWithin s (ExtensionInitError n identifier) = IsEnvironment s n
IsWithin s (ExtensionExitError n identifier) = IsEnvironment s n
IsWithin s (Subscribe n stream) = IsEnvironment s n
