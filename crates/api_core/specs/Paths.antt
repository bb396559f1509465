-- Which line of the table of requests a path and a method ask for.
use Rattle.std.specs.Prelude.{ℕ, nat_le, ◌==◌, List, [], ◌∷◌, map, Bool, true, false, not, Option, Some, None, Result, Ok, Err, filter, find, slice_index, if◌then◌else◌, codes, bytes_eq}
use Rattle.std.specs.List.{before_first, after_first, slice_split}
use Rattle.std.specs.Str.{byte}
use Rattle.std.specs.Cmp.Lexicographic.{pointwise}
use Prim.Native.String.{String}
use Rattle.percent_encoding.specs.Percent.{percent_decode}
use Rattle.retry_rules.specs.declared.settings.Settings.{Settings}
use Rattle.api_core.specs.declared.dialect.Dialect.{Dialect}
use Rattle.api_core.specs.declared.dialect.Dialect.TheVariants.{Profile, Aws}
use Rattle.api_core.specs.declared.route.Route.{Route}
use Rattle.api_core.specs.declared.route.Route.TheVariants.{Invoke, InvokeAsync, InvokeAsyncSlash, GetFunction, GetConfiguration, OldestSuccess, OldestFailure, Delete, StopBroker, RuntimeNext, Response, RuntimeError, RuntimeInitError, Register, ExtensionNext, ExtensionInitError, ExtensionExitError, Telemetry, Logs}
use Rattle.api_core.specs.declared.refusal.Refusal.{Refusal}
use Rattle.api_core.specs.declared.refusal.Refusal.TheVariants.{NotFound, MethodNotAllowed}

-- ## The parts of a request's target

-- a target is a path, and behind its first `?` a query
abbrev pub path_of : List ℕ → List ℕ
path_of target = before_first (λ b. b == byte "?") target

abbrev pub query_of : List ℕ → List ℕ
query_of target = after_first (λ b. b == byte "?") target

-- the parts between slashes
abbrev pub between_slashes : List ℕ → List (List ℕ)
between_slashes path = slice_split (λ b. b == byte "/") path

-- the segments of a path, decoded one by one. The first is empty where the path begins with a slash
abbrev pub segments_of : List ℕ → List (List ℕ)
segments_of target = map percent_decode (between_slashes (path_of target))

-- a name and a value, decoded
abbrev pub pair_of : List ℕ → List ℕ × List ℕ
pair_of text =
    (percent_decode (before_first (λ b. b == byte "=") text), percent_decode (after_first (λ b. b == byte "=") text))

abbrev pub between_ands : List ℕ → List (List ℕ)
between_ands query = slice_split (λ b. b == byte "&") query

abbrev pub query_pairs : List ℕ → List (List ℕ × List ℕ)
query_pairs target = map pair_of (between_ands (query_of target))

-- ## The table

-- a method, and a path in which one segment may be a hole as `{id}`
abbrev pub line : String → String → List ℕ × List ℕ
line method path = (codes method, codes path)

-- the line of each route
abbrev pub line_of : Route → List ℕ × List ℕ
line_of Invoke = line "POST" "/2015-03-31/functions/{FunctionName}/invocations"
line_of InvokeAsync = line "POST" "/2014-11-13/functions/{FunctionName}/invoke-async"
line_of InvokeAsyncSlash = line "POST" "/2014-11-13/functions/{FunctionName}/invoke-async/"
line_of GetFunction = line "GET" "/2015-03-31/functions/{FunctionName}"
line_of GetConfiguration = line "GET" "/2015-03-31/functions/{FunctionName}/configuration"
line_of OldestSuccess = line "GET" "/broker/destinations/success"
line_of OldestFailure = line "GET" "/broker/destinations/failure"
line_of Delete = line "DELETE" "/broker/destinations/{id}"
line_of StopBroker = line "POST" "/broker/stop"
line_of RuntimeNext = line "GET" "/2018-06-01/runtime/invocation/next"
line_of Response = line "POST" "/2018-06-01/runtime/invocation/{id}/response"
line_of RuntimeError = line "POST" "/2018-06-01/runtime/invocation/{id}/error"
line_of RuntimeInitError = line "POST" "/2018-06-01/runtime/init/error"
line_of Register = line "POST" "/2020-01-01/extension/register"
line_of ExtensionNext = line "GET" "/2020-01-01/extension/event/next"
line_of ExtensionInitError = line "POST" "/2020-01-01/extension/init/error"
line_of ExtensionExitError = line "POST" "/2020-01-01/extension/exit/error"
line_of Telemetry = line "PUT" "/2022-07-01/telemetry"
line_of Logs = line "PUT" "/2020-08-15/logs"

-- what callers may ask in each dialect
abbrev pub common_callers_routes : List Route
common_callers_routes = Invoke ∷ OldestSuccess ∷ OldestFailure ∷ Delete ∷ StopBroker ∷ []

-- and in this one
abbrev pub callers_routes : Dialect → List Route
callers_routes Profile = common_callers_routes
callers_routes Aws = InvokeAsync ∷ InvokeAsyncSlash ∷ GetFunction ∷ GetConfiguration ∷ common_callers_routes

-- what the runtime and the extensions of an environment may ask in each dialect
abbrev pub common_routes : List Route
common_routes =
    RuntimeNext ∷ Response ∷ RuntimeError ∷ RuntimeInitError
    ∷ Register ∷ ExtensionNext ∷ ExtensionInitError ∷ ExtensionExitError
    ∷ []

-- and in this one
abbrev pub environment_routes : Dialect → List Route
environment_routes Profile = common_routes
environment_routes Aws = Telemetry ∷ Logs ∷ common_routes

-- port 0 is the callers', port n that of environment n. No other port has a route
abbrev pub routes_at : Dialect → Settings → ℕ → List Route
routes_at d s port =
    if port == 0 then callers_routes d
    else if nat_le port s.environments then environment_routes d
    else []

-- ## The route of a request

abbrev pub is_hole : List ℕ → Bool
is_hole piece = slice_index piece 0 == byte "{"

-- a hole takes any segment but the empty one
abbrev pub takes : List ℕ → List ℕ → Bool
takes piece segment = if is_hole piece then not (bytes_eq [] segment) else bytes_eq piece segment

abbrev pub pieces_of : Route → List (List ℕ)
pieces_of r = between_slashes (line_of r).1

-- the route's path has these segments
unfoldable pub fits : List (List ℕ) → Route → Bool
fits segments r = pointwise takes (pieces_of r) segments

-- the segment that stands where the pieces have their hole
abbrev pub at_hole : List (List ℕ) → List (List ℕ) → List ℕ
at_hole [] segments = []
at_hole (piece ∷ pieces) [] = []
at_hole (piece ∷ pieces) (segment ∷ segments) = if is_hole piece then segment else at_hole pieces segments

-- the segment that stands in the hole of a route's path
unfoldable pub in_hole : Route → List (List ℕ) → List ℕ
in_hole r segments = at_hole (pieces_of r) segments

abbrev pub has_method : List ℕ → Route → Bool
has_method method r = bytes_eq (line_of r).0 method

abbrev pub or_not_allowed : Option Route → Result Route Refusal
or_not_allowed None = Err MethodNotAllowed
or_not_allowed (Some r) = Ok r

-- of the routes whose path fits, the first with the method
abbrev pub route_among : List ℕ → List Route → Result Route Refusal
route_among method [] = Err NotFound
route_among method (r ∷ routes) = or_not_allowed (find (has_method method) (r ∷ routes))

-- the same behind routes whose path fits, where there are some
abbrev pub route_after : Bool → List ℕ → List Route → Result Route Refusal
route_after true method routes = or_not_allowed (find (has_method method) routes)
route_after false method routes = route_among method routes

-- the route of a request, or why it has none
abbrev pub route_of : Dialect → Settings → ℕ → List ℕ → List ℕ → Result Route Refusal
route_of d s port method target = route_among method (filter (fits (segments_of target)) (routes_at d s port))
