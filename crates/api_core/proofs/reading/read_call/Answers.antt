use Rattle.std.proofs.Common.{rules, ◌≡◌, ℕ, List, map, filter, None, Some, Result, Ok, Err, Bor, ap, sym, ◌∙◌}
use Rattle.percent_encoding.specs.Percent.{percent_decode}
use Rattle.retry_rules.specs.declared.settings.Settings.{Settings}
use Rattle.api_core.specs.declared.dialect.Dialect.{Dialect}
use Rattle.api_core.specs.declared.body.Body.{Body}
use Rattle.api_core.specs.declared.call.Call.{Call}
use Rattle.api_core.specs.declared.route.Route.{Route}
use Rattle.api_core.specs.declared.refusal.Refusal.{Refusal}
use Rattle.api_core.specs.declared.refusal.RequestError.{RequestError}
use Rattle.api_core.specs.declared.refusal.RequestError.TheVariants.{Refused, OutOfMemory}
use Rattle.api_core.specs.Paths.{fits, routes_at, route_among, route_of, segments_of, in_hole}
use Rattle.api_core.specs.Headers.{RequestHeaders}
use Rattle.api_core.specs.Requests.{refusal_of, unless_refused, call_by, call_on}
use Rattle.api_core.specs.Says.{Says}
use Rattle.api_core.proofs.Parts.{routes_first, in_hole_first}
use Rattle.api_core.proofs.reading.read_call.Goals as goal

-- a request without a route is refused as its route is
unrouted : (d : Dialect) (s : Settings) (port : ℕ) (target : List ℕ) (headers : RequestHeaders) (body : Body) (found route : Result Route Refusal) (e : RequestError)
    → found ≡ route → Says found (Err e) → Says (call_on d s port target headers body route) (Err e)
unrouted d s port target headers body found route (Refused why) same h = ap (call_on d s port target headers body) (sym same ∙ h)
unrouted d s port target headers body found route OutOfMemory same h = tt

pub returns-in-Err : goal.returns-in-Err
returns-in-Err c =
    let s = c.args.settings.now in
    let port = c.args.port in
    let target = c.args.target.now in
    unrouted c.args.dialect s port target c.args.headers.now c.args.body
    (route_among c.as_str.result.now (filter (fits (map percent_decode (map (λ (part : Bor (List ℕ)). part.now) c.deref.result.now))) (routes_at c.args.dialect s port)))
    (route_of c.args.dialect s port c.args.method.now target) c.in-Err.error
    (rw (c.deref.ensures.value, routes_first c.in_ok-parts.parts.items target c.in_ok-parts.ensures (routes_at c.args.dialect s port), c.as_str.ensures.value))
    c.in-Err.ensures

-- a request with a route is refused by the checks behind it, or called
judged : (d : Dialect) (s : Settings) (port : ℕ) (target : List ℕ) (headers : RequestHeaders) (body : Body) (found : Result Route Refusal) (route : Route) (hole : List ℕ)
    → found ≡ Ok route → hole ≡ in_hole route (segments_of target)
    → call_on d s port target headers body found
    ≡ unless_refused (refusal_of d s target headers body hole route) (call_by d s port headers body hole route)
judged d s port target headers body found route hole is at =
    ap (call_on d s port target headers body) is
    ∙ ap (λ h. unless_refused (refusal_of d s target headers body h route) (call_by d s port headers body h route)) (sym at)

refused : (d : Dialect) (s : Settings) (port : ℕ) (target : List ℕ) (headers : RequestHeaders) (body : Body) (found : Result Route Refusal) (route : Route) (hole : List ℕ) (why : Refusal)
    → found ≡ Ok route → hole ≡ in_hole route (segments_of target)
    → refusal_of d s target headers body hole route ≡ Some why
    → call_on d s port target headers body found ≡ Err why
refused d s port target headers body found route hole why is at some =
    judged d s port target headers body found route hole is at
    ∙ ap (λ o. unless_refused o (call_by d s port headers body hole route)) some

pub returns-in-Some : goal.returns-in-Some
returns-in-Some c =
    let d = c.args.dialect in
    let s = c.args.settings.now in
    let target = c.args.target.now in
    let parts = c.in_ok-parts.parts.items in
    let hole = percent_decode c.in_ok-part.part.now in
    let some : refusal_of d s target c.args.headers.now c.args.body hole c.in-Ok.route ≡ Some c.in-Some.why = search rules in
    refused d s c.args.port target c.args.headers.now c.args.body (route_of d s c.args.port c.args.method.now target) c.in-Ok.route hole c.in-Some.why
    (rw (c.deref.ensures.value, routes_first parts target c.in_ok-parts.ensures (routes_at d s c.args.port), c.as_str.ensures.value) at c.in-Ok.ensures)
    (rw (c.deref-2.ensures.value, in_hole_first parts target c.in_ok-parts.ensures c.in-Ok.route) at c.in_ok-part.ensures)
    some

called : (d : Dialect) (s : Settings) (port : ℕ) (target : List ℕ) (headers : RequestHeaders) (body : Body) (found : Result Route Refusal) (route : Route) (hole : List ℕ) (call : Call)
    → found ≡ Ok route → hole ≡ in_hole route (segments_of target)
    → refusal_of d s target headers body hole route ≡ None → call ≡ call_by d s port headers body hole route
    → call_on d s port target headers body found ≡ Ok call
called d s port target headers body found route hole call is at none by =
    judged d s port target headers body found route hole is at
    ∙ ap (λ o. unless_refused o (call_by d s port headers body hole route)) none
    ∙ ap (λ c. Ok c) (sym by)

pub returns : goal.returns
returns c =
    let d = c.args.dialect in
    let s = c.args.settings.now in
    let target = c.args.target.now in
    let parts = c.in_ok-parts.parts.items in
    let hole = percent_decode c.in_ok-part.part.now in
    let none : refusal_of d s target c.args.headers.now c.args.body hole c.in-Ok.route ≡ None = search rules in
    called d s c.args.port target c.args.headers.now c.args.body (route_of d s c.args.port c.args.method.now target) c.in-Ok.route hole c.in_ok-call.call
    (rw (c.deref.ensures.value, routes_first parts target c.in_ok-parts.ensures (routes_at d s c.args.port), c.as_str.ensures.value) at c.in-Ok.ensures)
    (rw (c.deref-2.ensures.value, in_hole_first parts target c.in_ok-parts.ensures c.in-Ok.route) at c.in_ok-part.ensures)
    none c.in_ok-call.ensures
