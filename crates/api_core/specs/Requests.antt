-- Which call a request is, or the first check that refuses it.
use Rattle.std.specs.Prelude.{ℕ, List, [], ◌∷◌, length, Bool, true, false, not, ◌&&◌, ◌||◌, nat_le, nat_lt, is_none, Option, Some, None, unwrap_or, replicate, Result, Ok, Err, if◌then◌else◌, codes, bytes_eq}
use Rattle.std.specs.List.{list_all}
use Rattle.retry_rules.specs.declared.settings.Settings.{Settings}
use Rattle.async_core.specs.declared.choice.Side.TheVariants as side
use Rattle.destination_json.specs.Json.{is_json}
use Rattle.destination_json.specs.Record.{latest}
use Rattle.api_core.specs.declared.dialect.Dialect.{Dialect}
use Rattle.api_core.specs.declared.dialect.Dialect.TheVariants.{Aws}
use Rattle.api_core.specs.declared.dialect.Description.TheVariants as description
use Rattle.api_core.specs.declared.dialect.Stream.TheVariants as stream
use Rattle.api_core.specs.declared.body.Body.{Body}
use Rattle.api_core.specs.declared.body.Body.TheVariants as came
use Rattle.api_core.specs.declared.call.Call.{Call}
use Rattle.api_core.specs.declared.call.Call.TheVariants as call
use Rattle.api_core.specs.declared.route.Route.{Route}
use Rattle.api_core.specs.declared.route.Route.TheVariants.{Invoke, InvokeAsync, InvokeAsyncSlash, GetFunction, GetConfiguration, OldestSuccess, OldestFailure, Delete, StopBroker, RuntimeNext, Response, RuntimeError, RuntimeInitError, Register, ExtensionNext, ExtensionInitError, ExtensionExitError, Telemetry, Logs}
use Rattle.api_core.specs.declared.refusal.Refusal.{Refusal}
use Rattle.api_core.specs.declared.refusal.Refusal.TheVariants.{NotFound, UnsupportedInvocationType, InvalidExtensionHeader, TooLarge, InvalidRequestContent, BadSubscription}
use Rattle.api_core.specs.Ids.{id_of}
use Rattle.api_core.specs.Paths.{query_pairs, segments_of, in_hole, route_of}
use Rattle.api_core.specs.Headers.{RequestHeaders, is_event, is_dry_run, has_extension_name, extension_name, extension_identifier, features}
use Rattle.api_core.specs.Dialect.{is_function, accepts_account}
use Rattle.api_core.specs.Bodies.{or_empty_object, subscription_of}
use Rattle.api_core.specs.Refusals.{response_too_large}

-- ## The checks behind that of the line, each with its refusal

-- a pair that names a qualifier names the only version
abbrev pub is_good_pair : List ℕ × List ℕ → Bool
is_good_pair pair = not (bytes_eq (codes "Qualifier") pair.0) || bytes_eq latest pair.1

abbrev pub names_function : Dialect → Settings → List ℕ → List ℕ → Bool
names_function d s target name = is_function d s name && list_all is_good_pair (query_pairs target)

abbrev pub function_check : Dialect → Settings → List ℕ → List ℕ → Route → Bool × Refusal
function_check d s target name Invoke = (not (names_function d s target name), NotFound)
function_check d s target name InvokeAsync = (not (names_function d s target name), NotFound)
function_check d s target name InvokeAsyncSlash = (not (names_function d s target name), NotFound)
function_check d s target name GetFunction = (not (names_function d s target name), NotFound)
function_check d s target name GetConfiguration = (not (names_function d s target name), NotFound)
function_check d s target name route = (false, NotFound)

abbrev pub header_check : Dialect → RequestHeaders → Route → Bool × Refusal
header_check d headers Invoke = (not (is_event headers || is_dry_run d headers), UnsupportedInvocationType)
header_check d headers Register = (not (has_extension_name headers), InvalidExtensionHeader)
header_check d headers ExtensionNext = (is_none (extension_identifier headers), InvalidExtensionHeader)
header_check d headers ExtensionInitError = (is_none (extension_identifier headers), InvalidExtensionHeader)
header_check d headers ExtensionExitError = (is_none (extension_identifier headers), InvalidExtensionHeader)
header_check d headers route = (false, InvalidExtensionHeader)

-- how many bytes a body may have
abbrev pub most_bytes : Settings → Route → ℕ
most_bytes s Invoke = s.payload
most_bytes s InvokeAsync = s.payload
most_bytes s InvokeAsyncSlash = s.payload
most_bytes s Response = s.response
most_bytes s RuntimeError = s.response
most_bytes s route = 4096

-- what was read of a body: of one that is too large to be read, nothing
abbrev pub bytes_of : Body → List ℕ
bytes_of (came.Whole bytes) = bytes
bytes_of came.TooLarge = []

abbrev pub is_too_large : Settings → Body → Route → Bool
is_too_large s (came.Whole bytes) route = nat_lt (most_bytes s route) (length bytes)
is_too_large s came.TooLarge route = true

-- a response that is too large is the function's error that says so, in a dialect that has that, and where that error is not too
-- large itself
abbrev pub is_told_as_error : Dialect → Settings → Route → Bool
is_told_as_error Aws s Response = nat_le (length (response_too_large s)) s.response
is_told_as_error d s route = false

abbrev pub size_check : Dialect → Settings → Body → Route → Bool × Refusal
size_check d s body route = (is_too_large s body route && not (is_told_as_error d s route), TooLarge)

abbrev pub content_check : List ℕ → Route → Bool × Refusal
content_check bytes Invoke = (not (is_json (or_empty_object bytes)), InvalidRequestContent)
content_check bytes InvokeAsync = (not (is_json (or_empty_object bytes)), InvalidRequestContent)
content_check bytes InvokeAsyncSlash = (not (is_json (or_empty_object bytes)), InvalidRequestContent)
content_check bytes Register = (is_none (subscription_of bytes), BadSubscription)
content_check bytes route = (false, BadSubscription)

-- in their order
abbrev pub checks : Dialect → Settings → List ℕ → RequestHeaders → Body → List ℕ → Route → List (Bool × Refusal)
checks d s target headers body name route =
    function_check d s target name route
    ∷ header_check d headers route
    ∷ size_check d s body route
    ∷ content_check (bytes_of body) route
    ∷ []

-- ## The call

abbrev pub identifier_or_zeros : RequestHeaders → List ℕ
identifier_or_zeros headers = unwrap_or (extension_identifier headers) (replicate 16 0)

abbrev pub name_or_none : RequestHeaders → List ℕ
name_or_none headers = unwrap_or (extension_name headers) []

abbrev pub events_or_none : List ℕ → Bool × Bool
events_or_none body = unwrap_or (subscription_of body) (false, false)

-- the invocation of a request, or the question whether it could be made
abbrev pub invoked_by : Dialect → RequestHeaders → List ℕ → Call
invoked_by d headers bytes = if is_dry_run d headers then call.Describe description.DryRun else call.Invoke (or_empty_object bytes)

-- what a request with these bytes calls, by the segment in its hole
abbrev pub call_with : Dialect → ℕ → RequestHeaders → List ℕ → List ℕ → Route → Call
call_with d port headers bytes hole Invoke = invoked_by d headers bytes
call_with d port headers bytes hole InvokeAsync = call.InvokeAsync (or_empty_object bytes)
call_with d port headers bytes hole InvokeAsyncSlash = call.InvokeAsync (or_empty_object bytes)
call_with d port headers bytes hole GetFunction = call.Describe description.Function
call_with d port headers bytes hole GetConfiguration = call.Describe description.Configuration
call_with d port headers bytes hole OldestSuccess = call.Oldest side.Success
call_with d port headers bytes hole OldestFailure = call.Oldest side.Failure
call_with d port headers bytes hole Delete = call.Delete (id_of hole)
call_with d port headers bytes hole StopBroker = call.StopBroker
call_with d port headers bytes hole RuntimeNext = call.RuntimeNext port
call_with d port headers bytes hole Response = call.Response port (id_of hole) bytes
call_with d port headers bytes hole RuntimeError = call.RuntimeError port (id_of hole) bytes
call_with d port headers bytes hole RuntimeInitError = call.RuntimeInitError port
call_with d port headers bytes hole Register =
    call.Register port (name_or_none headers) (events_or_none bytes).0 (events_or_none bytes).1 (accepts_account d (features headers))
call_with d port headers bytes hole ExtensionNext = call.ExtensionNext port (identifier_or_zeros headers)
call_with d port headers bytes hole ExtensionInitError = call.ExtensionInitError port (identifier_or_zeros headers)
call_with d port headers bytes hole ExtensionExitError = call.ExtensionExitError port (identifier_or_zeros headers)
call_with d port headers bytes hole Telemetry = call.Subscribe port stream.Telemetry
call_with d port headers bytes hole Logs = call.Subscribe port stream.Logs

-- what a request calls that passes the checks: with a body that is too large it passes only as a response told as an error
abbrev pub call_by : Dialect → Settings → ℕ → RequestHeaders → Body → List ℕ → Route → Call
call_by d s port headers body hole route =
    if is_too_large s body route then call.RuntimeError port (id_of hole) (response_too_large s)
    else call_with d port headers (bytes_of body) hole route

-- what a check refuses by
abbrev pub failed : Bool × Refusal → Option Refusal
failed check = if check.0 then Some check.1 else None

-- the first check that fails
abbrev pub or_later : Option Refusal → Option Refusal → Option Refusal
or_later None later = later
or_later (Some why) later = Some why

abbrev pub first_failed : List (Bool × Refusal) → Option Refusal
first_failed [] = None
first_failed (check ∷ later) = or_later (failed check) (first_failed later)

-- the first check behind the line that refuses a request, by the segment in its hole
abbrev pub refusal_of : Dialect → Settings → List ℕ → RequestHeaders → Body → List ℕ → Route → Option Refusal
refusal_of d s target headers body hole route = first_failed (checks d s target headers body hole route)

abbrev pub unless_refused : Option Refusal → Call → Result Call Refusal
unless_refused None c = Ok c
unless_refused (Some why) c = Err why

abbrev pub call_on : Dialect → Settings → ℕ → List ℕ → RequestHeaders → Body → Result Route Refusal → Result Call Refusal
call_on d s port target headers body (Err why) = Err why
call_on d s port target headers body (Ok route) =
    unless_refused (refusal_of d s target headers body (in_hole route (segments_of target)) route)
    (call_by d s port headers body (in_hole route (segments_of target)) route)

-- the call of a request, or the first check that refuses it: path, method, function and qualifier, headers, size, content
abbrev pub call_of : Dialect → Settings → ℕ → List ℕ → List ℕ → RequestHeaders → Body → Result Call Refusal
call_of d s port method target headers body = call_on d s port target headers body (route_of d s port method target)
