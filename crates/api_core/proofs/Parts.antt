-- The first parts of a path tell which routes fit it.
use Rattle.std.proofs.Common.{◌≡◌, ◌<◌, ◌≤◌, ℕ, zero, suc, Bool, List, [], ◌∷◌, length, map, take, filter, refl, ap, sym, ◌∙◌, arith, lit<}
use Rattle.std.specs.Prelude.{◌&&◌, if◌then◌else◌}
use Rattle.std.specs.List.{list_all}
use Rattle.std.specs.Cmp.Lexicographic.{pointwise}
use Rattle.std.specs.Borrow.{Bor}
use Rattle.std.proofs.lemmas.List.{take-map}
use Rattle.std.proofs.lemmas.List.Elements.{filter_agree}
use Rattle.percent_encoding.specs.Percent.{percent_decode}
use Rattle.api_core.specs.declared.route.Route.{Route}
use Rattle.api_core.specs.declared.route.Route.TheVariants.{Invoke, InvokeAsync, InvokeAsyncSlash, GetFunction, GetConfiguration, OldestSuccess, OldestFailure, Delete, StopBroker, RuntimeNext, Response, RuntimeError, RuntimeInitError, Register, ExtensionNext, ExtensionInitError, ExtensionExitError, Telemetry, Logs}
use Rattle.api_core.specs.Paths.{takes, is_hole, at_hole, in_hole, fits, pieces_of, path_of, between_slashes, segments_of}
use Rattle.api_core.specs.Steps.{texts, decoded}

-- pieces take so many parts or none, and look at no part behind the first that is one too many
taken : (pieces segments : List (List ℕ)) (n : ℕ) → length pieces < n
    → pointwise takes pieces (take n segments) ≡ pointwise takes pieces segments
taken pieces segments zero h = absurd (omega (arith, h))
taken [] [] (suc n) h = refl
taken [] (segment ∷ segments) (suc n) h = refl
taken (piece ∷ pieces) [] (suc n) h = refl
taken (piece ∷ pieces) (segment ∷ segments) (suc n) h =
    ap (λ b. takes piece segment && b) (taken pieces segments n (omega (arith, h)))

at : (pieces segments : List (List ℕ)) (n : ℕ) → length pieces < n → at_hole pieces (take n segments) ≡ at_hole pieces segments
at pieces segments zero h = absurd (omega (arith, h))
at [] segments (suc n) h = refl
at (piece ∷ pieces) [] (suc n) h = refl
at (piece ∷ pieces) (segment ∷ segments) (suc n) h =
    ap (λ s. if is_hole piece then segment else s) (at pieces segments n (omega (arith, h)))

-- no route has more than six pieces
few : (route : Route) → length (pieces_of route) < 7
few Invoke = lit< tt
few InvokeAsync = lit< tt
few InvokeAsyncSlash = lit< tt
few GetFunction = lit< tt
few GetConfiguration = lit< tt
few OldestSuccess = lit< tt
few OldestFailure = lit< tt
few Delete = lit< tt
few StopBroker = lit< tt
few RuntimeNext = lit< tt
few Response = lit< tt
few RuntimeError = lit< tt
few RuntimeInitError = lit< tt
few Register = lit< tt
few ExtensionNext = lit< tt
few ExtensionInitError = lit< tt
few ExtensionExitError = lit< tt
few Telemetry = lit< tt
few Logs = lit< tt

fits_first : (segments : List (List ℕ)) (route : Route) → fits (take 7 segments) route ≡ fits segments route
unfolding fits
fits_first segments route = taken (pieces_of route) segments 7 (few route)

hole_first : (segments : List (List ℕ)) (route : Route) → in_hole route (take 7 segments) ≡ in_hole route segments
unfolding in_hole
hole_first segments route = at (pieces_of route) segments 7 (few route)

-- the first seven parts of a target
abbrev pub AreFirst : List (Bor (List ℕ)) → List ℕ → Type 0
AreFirst parts target = texts parts ≡ take 7 (between_slashes (path_of target))

decoded_first : (parts : List (Bor (List ℕ))) (target : List ℕ) → AreFirst parts target → decoded parts ≡ take 7 (segments_of target)
decoded_first parts target first =
    ap (λ l. map percent_decode l) first ∙ sym (take-map percent_decode 7 (between_slashes (path_of target)))

-- the routes that fit them are those that fit all its parts
pub routes_first : (parts : List (Bor (List ℕ))) (target : List ℕ) → AreFirst parts target → (routes : List Route)
    → filter (fits (decoded parts)) routes ≡ filter (fits (segments_of target)) routes
routes_first parts target first routes =
    ap (λ l. filter (fits l) routes) (decoded_first parts target first)
    ∙ filter_agree (fits (take 7 (segments_of target))) (fits (segments_of target)) (fits_first (segments_of target)) routes

-- and a route's hole has the same of both
pub in_hole_first : (parts : List (Bor (List ℕ))) (target : List ℕ) → AreFirst parts target → (route : Route)
    → in_hole route (decoded parts) ≡ in_hole route (segments_of target)
in_hole_first parts target first route = ap (in_hole route) (decoded_first parts target first) ∙ hole_first (segments_of target) route

pub list_all-map : {A B : Type 0} (p : B → Bool) (f : A → B) (xs : List A) → list_all (λ x. p (f x)) xs ≡ list_all p (map f xs)
list_all-map p f [] = refl
list_all-map p f (x ∷ xs) = ap (λ b. p (f x) && b) (list_all-map p f xs)
