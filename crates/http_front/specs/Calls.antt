-- Which call a request to a port of the front is, and why it is refused.
use Rattle.std.specs.Prelude.{◌≡◌, ◌⊎◌, ◌==◌, ℕ, List, Result, Ok, Err, if◌then◌else◌}
use Rattle.http.specs.declared.request.Parts.{Parts}
use Rattle.http_port.specs.declared.reading.BodyError.{BodyError}
use Rattle.http_port.specs.declared.reading.BodyError.TheVariants as unread
use Rattle.http_port.specs.Answering.{Message, status_alone}
use Rattle.http_port.specs.Target.{target_in}
use Rattle.retry_rules.specs.declared.settings.Settings.{Settings}
use Rattle.api_core.specs.declared.body.Body.{Body}
use Rattle.api_core.specs.declared.body.Body.TheVariants as came
use Rattle.api_core.specs.declared.call.Call.{Call}
use Rattle.api_core.specs.declared.dialect.Audience.{Audience}
use Rattle.api_core.specs.declared.dialect.Audience.TheVariants.{Caller, Environment}
use Rattle.api_core.specs.declared.dialect.Dialect.{Dialect}
use Rattle.api_core.specs.declared.refusal.Refusal.{Refusal}
use Rattle.api_core.specs.declared.refusal.Refusal.TheVariants.{Unavailable}
use Rattle.api_core.specs.Requests.{call_of}
use Rattle.http_front.specs.Telling.{TellsRefusal}

-- the request with this head and this body is this call, or is refused so, at this port
abbrev pub read_as : Dialect → Settings → ℕ → Parts → Body → Result Call Refusal
read_as dialect settings port head body = call_of dialect settings port head.method (target_in head) head.headers body

abbrev pub IsCallOf : Dialect → Settings → ℕ → Parts → Body → Call → Type 0
IsCallOf dialect settings port head body call = read_as dialect settings port head body ≡ Ok call

-- the body of a request, of the bytes that were read of it
abbrev pub IsBodyOf : Result (List ℕ) BodyError → Body → Type 0
IsBodyOf (Ok bytes) body = body ≡ came.Whole bytes
IsBodyOf (Err unread.TooLarge) body = body ≡ came.TooLarge
IsBodyOf (Err other) body = ⊥

-- the request with this head and the bytes that were read of it is this call
abbrev pub IsCallFor : Dialect → Settings → ℕ → Parts → Result (List ℕ) BodyError → Call → Type 0
IsCallFor dialect settings port head read call = (body : Body) × IsBodyOf read body × IsCallOf dialect settings port head body call

-- whom a port answers
abbrev pub audience_at : ℕ → Audience
audience_at port = if port == 0 then Caller else Environment

-- the first check that fails, or that the broker is not available
abbrev pub IsReason : Dialect → Settings → ℕ → Parts → Result (List ℕ) BodyError → Refusal → Type 0
IsReason dialect settings port head read why =
    (why ≡ Unavailable) ⊎ ((body : Body) × IsBodyOf read body × (read_as dialect settings port head body ≡ Err why))

-- it is refused so: its body was cut off, or for its reason
abbrev pub RefusesRequest : Dialect → Settings → ℕ → Parts → Result (List ℕ) BodyError → Message → Type 0
RefusesRequest dialect settings port head read told =
    ((read ≡ Err unread.CutOff) × (told ≡ status_alone 400))
    ⊎ ((why : Refusal) × IsReason dialect settings port head read why × TellsRefusal dialect settings (audience_at port) why told)
