-- Law: what a request calls keeps to the settings, where a payload may have two bytes.
use Rattle.std.proofs.Common.{◌≡◌, ℕ, ◌≤◌, nat_le, ◌==◌, ◌&&◌, not, Bool, true, false, List, [], ◌∷◌, length, Option, Some, None, Result, Ok, Err, refl, subst, arith, if◌then◌else◌}
use Rattle.std.specs.Prelude.{filter, find}
use Rattle.std.proofs.lemmas.Bool.{eqb-false, leb-true, ltb-false}
use Rattle.retry_rules.specs.declared.settings.Settings.{Settings}
use Rattle.api_core.specs.declared.dialect.Dialect.{Dialect}
use Rattle.api_core.specs.declared.dialect.Dialect.TheVariants.{Profile, Aws}
use Rattle.api_core.specs.declared.body.Body.{Body}
use Rattle.api_core.specs.declared.body.Body.TheVariants.{Whole, TooLarge}
use Rattle.api_core.specs.declared.call.Call.{Call}
use Rattle.api_core.specs.declared.call.Call.TheVariants as call
use Rattle.api_core.specs.Ids.{id_of}
use Rattle.api_core.specs.declared.route.Route.{Route}
use Rattle.api_core.specs.declared.route.Route.TheVariants.{Invoke, InvokeAsync, InvokeAsyncSlash, GetFunction, GetConfiguration, OldestSuccess, OldestFailure, Delete, StopBroker, RuntimeNext, Response, RuntimeError, RuntimeInitError, Register, ExtensionNext, ExtensionInitError, ExtensionExitError, Telemetry, Logs}
use Rattle.api_core.specs.declared.refusal.Refusal.{Refusal}
use Rattle.api_core.specs.Paths.{callers_routes, common_routes, environment_routes, routes_at, fits, has_method, or_not_allowed, route_among, segments_of, in_hole, route_of}
use Rattle.api_core.specs.Headers.{RequestHeaders, is_dry_run}
use Rattle.api_core.specs.Refusals.{response_too_large}
use Rattle.api_core.specs.Bodies.{or_empty_object}
use Rattle.api_core.specs.Requests.{failed, or_later, first_failed, function_check, header_check, size_check, content_check, most_bytes, bytes_of, is_too_large, is_told_as_error, refusal_of, unless_refused, invoked_by, call_with, call_by, call_on, call_of}
use Rattle.api_core.specs.Within.{IsEnvironment, IsWithin}

-- ## The routes of a port

-- where the route is one of an environment, the port is that of an environment
abbrev IsAt : Settings → ℕ → Route → Type 0
IsAt s port Invoke = Unit {0}
IsAt s port InvokeAsync = Unit {0}
IsAt s port InvokeAsyncSlash = Unit {0}
IsAt s port GetFunction = Unit {0}
IsAt s port GetConfiguration = Unit {0}
IsAt s port OldestSuccess = Unit {0}
IsAt s port OldestFailure = Unit {0}
IsAt s port Delete = Unit {0}
IsAt s port StopBroker = Unit {0}
IsAt s port RuntimeNext = IsEnvironment s port
IsAt s port Response = IsEnvironment s port
IsAt s port RuntimeError = IsEnvironment s port
IsAt s port RuntimeInitError = IsEnvironment s port
IsAt s port Register = IsEnvironment s port
IsAt s port ExtensionNext = IsEnvironment s port
IsAt s port ExtensionInitError = IsEnvironment s port
IsAt s port ExtensionExitError = IsEnvironment s port
IsAt s port Telemetry = IsEnvironment s port
IsAt s port Logs = IsEnvironment s port

abbrev Each : Settings → ℕ → List Route → Type 0
Each s port [] = Unit {0}
Each s port (r ∷ routes) = IsAt s port r × (Each s port routes)

common : (s : Settings) (port : ℕ) → IsEnvironment s port → Each s port common_routes
common s port h = (h, (h, (h, (h, (h, (h, (h, (h, tt))))))))

of_environment : (d : Dialect) (s : Settings) (port : ℕ) → IsEnvironment s port → Each s port (environment_routes d)
of_environment Profile s port h = common s port h
of_environment Aws s port h = (h, (h, common s port h))

of_callers : (d : Dialect) (s : Settings) (port : ℕ) → Each s port (callers_routes d)
of_callers Profile s port = (tt, (tt, (tt, (tt, (tt, tt)))))
of_callers Aws s port = (tt, (tt, (tt, (tt, (tt, (tt, (tt, (tt, (tt, tt)))))))))

each_at : (d : Dialect) (s : Settings) (port : ℕ) (b c : Bool) → (port == 0) ≡ b → nat_le port s.environments ≡ c
    → Each s port (if b then callers_routes d else if c then environment_routes d else [])
each_at d s port true c e f = of_callers d s port
each_at d s port false true e f =
    let low : 1 ≤ port = omega (arith, eqb-false port 0 e) in
    of_environment d s port (low, leb-true port s.environments f)
each_at d s port false false e f = tt

keep : (s : Settings) (port : ℕ) (b : Bool) (r : Route) (routes : List Route) → IsAt s port r → Each s port routes
    → Each s port (if b then r ∷ routes else routes)
keep s port true r routes at h = (at, h)
keep s port false r routes at h = h

kept : (s : Settings) (port : ℕ) (p : Route → Bool) (routes : List Route) → Each s port routes → Each s port (filter p routes)
kept s port p [] h = tt
kept s port p (r ∷ routes) h = keep s port (p r) r (filter p routes) h.0 (kept s port p routes h.1)

found_first : (s : Settings) (port : ℕ) (b : Bool) (x : Route) (later : Option Route) (r : Route) → IsAt s port x
    → (later ≡ Some r → IsAt s port r) → (if b then Some x else later) ≡ Some r → IsAt s port r
found_first s port true x later r at h e = let same : x ≡ r = cc in subst (IsAt s port) same at
found_first s port false x later r at h e = h e

first : (s : Settings) (port : ℕ) (q : Route → Bool) (routes : List Route) → Each s port routes
    → (r : Route) → find q routes ≡ Some r → IsAt s port r
first s port q [] h r e = cc
first s port q (x ∷ routes) h r e = found_first s port (q x) x (find q routes) r h.0 (first s port q routes h.1 r) e

allowed : (o : Option Route) (r : Route) → or_not_allowed o ≡ Ok r → o ≡ Some r
allowed None r e = cc
allowed (Some x) r e = cc

among : (s : Settings) (port : ℕ) (method : List ℕ) (routes : List Route) → Each s port routes
    → (r : Route) → route_among method routes ≡ Ok r → IsAt s port r
among s port method [] h r e = cc
among s port method (x ∷ routes) h r e =
    first s port (has_method method) (x ∷ routes) h r (allowed (find (has_method method) (x ∷ routes)) r e)

routed : (d : Dialect) (s : Settings) (port : ℕ) (method target : List ℕ) (r : Route)
    → route_of d s port method target ≡ Ok r → IsAt s port r
routed d s port method target r e =
    among s port method (filter (fits (segments_of target)) (routes_at d s port))
    (kept s port (fits (segments_of target)) (routes_at d s port) (each_at d s port (port == 0) (nat_le port s.environments) refl refl))
    r e

-- ## What passes the checks

none_of : (a b : Option Refusal) → or_later a b ≡ None → (a ≡ None) × (b ≡ None)
none_of None b e = (refl, e)
none_of (Some why) b e = cc

passes : (b : Bool) (why : Refusal) → failed (b, why) ≡ None → b ≡ false
passes true why e = cc
passes false why e = refl

unrefused : (o : Option Refusal) (d c : Call) → unless_refused o d ≡ Ok c → (o ≡ None) × (d ≡ c)
unrefused None d c e = (refl, cc)
unrefused (Some why) d c e = cc

passes_size : (d : Dialect) (s : Settings) (target : List ℕ) (headers : RequestHeaders) (body : Body) (hole : List ℕ) (route : Route)
    → refusal_of d s target headers body hole route ≡ None → (size_check d s body route).0 ≡ false
passes_size d s target headers body hole route e =
    let content = content_check (bytes_of body) route in
    let later = first_failed (size_check d s body route ∷ content ∷ []) in
    let one = none_of (failed (function_check d s target hole route)) (or_later (failed (header_check d headers route)) later) e in
    let two = none_of (failed (header_check d headers route)) later one.1 in
    let three = none_of (failed (size_check d s body route)) (first_failed (content ∷ [])) two.1 in
    passes (size_check d s body route).0 (size_check d s body route).1 three.0

fits_size : (s : Settings) (body : Body) (route : Route) → is_too_large s body route ≡ false → length (bytes_of body) ≤ most_bytes s route
fits_size s (Whole bytes) route e = ltb-false (most_bytes s route) (length bytes) e
fits_size s TooLarge route e = cc

not_empty : (s : Settings) (body : List ℕ) → 2 ≤ s.payload → length body ≤ s.payload
    → (1 ≤ length (or_empty_object body)) × (length (or_empty_object body) ≤ s.payload)
not_empty s [] two small = (omega arith, two)
not_empty s (b ∷ bytes) two small = (omega arith, small)

invokes : (d : Dialect) (s : Settings) (headers : RequestHeaders) (bytes : List ℕ) (dry : Bool) → is_dry_run d headers ≡ dry
    → 2 ≤ s.payload → length bytes ≤ s.payload → IsWithin s (invoked_by d headers bytes)
invokes d s headers bytes true is two small = rw is tt
invokes d s headers bytes false is two small = rw is (not_empty s bytes two small)

keeps : (d : Dialect) (s : Settings) (port : ℕ) (headers : RequestHeaders) (bytes hole : List ℕ) (route : Route) → 2 ≤ s.payload
    → IsAt s port route → length bytes ≤ most_bytes s route → IsWithin s (call_with d port headers bytes hole route)
keeps d s port headers bytes hole Invoke two at small = invokes d s headers bytes (is_dry_run d headers) refl two small
keeps d s port headers bytes hole InvokeAsync two at small = not_empty s bytes two small
keeps d s port headers bytes hole InvokeAsyncSlash two at small = not_empty s bytes two small
keeps d s port headers bytes hole GetFunction two at small = tt
keeps d s port headers bytes hole GetConfiguration two at small = tt
keeps d s port headers bytes hole OldestSuccess two at small = tt
keeps d s port headers bytes hole OldestFailure two at small = tt
keeps d s port headers bytes hole Delete two at small = tt
keeps d s port headers bytes hole StopBroker two at small = tt
keeps d s port headers bytes hole RuntimeNext two at small = at
keeps d s port headers bytes hole Response two at small = (at, small)
keeps d s port headers bytes hole RuntimeError two at small = (at, small)
keeps d s port headers bytes hole RuntimeInitError two at small = at
keeps d s port headers bytes hole Register two at small = at
keeps d s port headers bytes hole ExtensionNext two at small = at
keeps d s port headers bytes hole ExtensionInitError two at small = at
keeps d s port headers bytes hole ExtensionExitError two at small = at
keeps d s port headers bytes hole Telemetry two at small = at
keeps d s port headers bytes hole Logs two at small = at

-- a response that is told as an error
told_as_error : (d : Dialect) (s : Settings) (port : ℕ) (hole : List ℕ) (route : Route) → IsAt s port route
    → is_told_as_error d s route ≡ true → IsWithin s (call.RuntimeError port (id_of hole) (response_too_large s))
told_as_error Aws s port hole Response at e = (at, leb-true (length (response_too_large s)) s.response e)
told_as_error Aws s port hole route at e = cc
told_as_error Profile s port hole route at e = cc

must_be_told : (told : Bool) → (true && not told) ≡ false → told ≡ true
must_be_told true e = refl
must_be_told false e = cc

keeps_by : (d : Dialect) (s : Settings) (port : ℕ) (headers : RequestHeaders) (body : Body) (hole : List ℕ) (route : Route) → 2 ≤ s.payload
    → IsAt s port route → (size_check d s body route).0 ≡ false → (large : Bool) → is_too_large s body route ≡ large
    → IsWithin s (if large then call.RuntimeError port (id_of hole) (response_too_large s) else call_with d port headers (bytes_of body) hole route)
keeps_by d s port headers body hole route two at passes true is =
    told_as_error d s port hole route at (must_be_told (is_told_as_error d s route) (subst (λ large. (large && not (is_told_as_error d s route)) ≡ false) is passes))
keeps_by d s port headers body hole route two at passes false is =
    keeps d s port headers (bytes_of body) hole route two at (fits_size s body route is)

-- ## The law

pub calls_keep_to_settings : (d : Dialect) (s : Settings) (port : ℕ) (method target : List ℕ) (headers : RequestHeaders)
    (body : Body) (c : Call) → call_of d s port method target headers body ≡ Ok c → 2 ≤ s.payload → IsWithin s c
calls_keep_to_settings d s port method target headers body c e two = by (route_of d s port method target) refl e where
  by : (found : Result Route Refusal) → route_of d s port method target ≡ found
      → call_on d s port target headers body found ≡ Ok c → IsWithin s c
  by (Err why) is e = cc
  by (Ok route) is e =
      let hole = in_hole route (segments_of target) in
      let h = unrefused (refusal_of d s target headers body hole route) (call_by d s port headers body hole route) c e in
      subst (IsWithin s) h.1
      (keeps_by d s port headers body hole route two (routed d s port method target route is)
      (passes_size d s target headers body hole route h.0) (is_too_large s body route) refl)
