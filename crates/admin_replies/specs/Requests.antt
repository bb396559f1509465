-- What a request to the operator's port asks for, by its method and its target, or the first check that refuses it.
use Rattle.std.specs.Prelude.{ℕ, ◌+◌, nat_le, ◌==◌, ◌&&◌, ◌||◌, List, [], ◌∷◌, length, drop, Bool, Option, Some, None, Result, Ok, Err, find, count_by, option_map, if◌then◌else◌, codes, bytes_eq, take, is_some}
use Rattle.std.specs.List.{before_first, after_first, slice_split, list_all, list_any}
use Rattle.std.specs.Str.{byte, is_utf8}
use Rattle.uuid.specs.Text.{parsed}
use Rattle.async_core.specs.declared.choice.Side.{Side}
use Rattle.async_core.specs.declared.choice.Side.TheVariants as side
use Rattle.operator_view.specs.declared.standings.Which.{Which}
use Rattle.operator_view.specs.declared.standings.Which.TheVariants as which
use Rattle.operator_view.specs.Limits.{number_of}
use Rattle.admin_replies.specs.declared.admin_request.AdminRequest.{AdminRequest}
use Rattle.admin_replies.specs.declared.admin_request.AdminRequest.TheVariants as request
use Rattle.admin_replies.specs.declared.name.Name.{Name}
use Rattle.admin_replies.specs.declared.name.Name.TheVariants as name
use Rattle.admin_replies.specs.declared.resource.Resource.{Resource}
use Rattle.admin_replies.specs.declared.resource.Resource.TheVariants as resource
use Rattle.admin_replies.specs.declared.admin_refusal.AdminRefusal.{AdminRefusal}
use Rattle.admin_replies.specs.declared.admin_refusal.AdminRefusal.TheVariants as why

-- ## The parts of a target

-- a target is a path, and behind its first `?` a query
abbrev pub path_of : List ℕ → List ℕ
path_of target = before_first (λ b. b == byte "?") target

abbrev pub query_of : List ℕ → List ℕ
query_of target = after_first (λ b. b == byte "?") target

-- the parts of a query, each a name and behind its first `=` a value. Nothing is decoded
abbrev pub parts_of : List ℕ → List (List ℕ)
parts_of query = slice_split (λ b. b == byte "&") query

abbrev pub name_in : List ℕ → List ℕ
name_in part = before_first (λ b. b == byte "=") part

abbrev pub value_in : List ℕ → List ℕ
value_in part = after_first (λ b. b == byte "=") part

abbrev pub is_empty : List ℕ → Bool
is_empty part = length part == 0

-- ## The path

-- the id that a text is
abbrev pub id_of : List ℕ → Option (List ℕ)
id_of bytes = if is_utf8 bytes then parsed bytes else None

-- what a path that begins with `/events/` names
abbrev pub event_at : Option (List ℕ) → Result Resource AdminRefusal
event_at None = Err why.Id
event_at (Some id) = Ok (resource.Event id)

-- what a path names that is no fixed one
unfoldable pub named_by : List ℕ → Result Resource AdminRefusal
named_by path = if bytes_eq (take 8 path) (codes "/events/") then event_at (id_of (drop 8 path)) else Err why.Path

-- what is at a path
abbrev pub resource_of : List ℕ → Result Resource AdminRefusal
resource_of path =
    if bytes_eq path (codes "/") then Ok resource.Page
    else if bytes_eq path (codes "/metrics") then Ok resource.Metrics
    else if bytes_eq path (codes "/history") then Ok resource.History
    else if bytes_eq path (codes "/healthz") then Ok resource.Health
    else if bytes_eq path (codes "/events") then Ok resource.Events
    else if bytes_eq path (codes "/records/success") then Ok (resource.Records side.Success)
    else if bytes_eq path (codes "/records/failure") then Ok (resource.Records side.Failure)
    else named_by path

-- ## The query

abbrev pub text_of : Name → List ℕ
text_of name.Standing = codes "standing"
text_of name.After = codes "after"
text_of name.Limit = codes "limit"
text_of name.Deep = codes "deep"

abbrev pub is_named : Name → List ℕ → Bool
is_named name part = bytes_eq (name_in part) (text_of name)

-- a part says nothing, or gives one of these
abbrev pub is_understood : List Name → List ℕ → Bool
is_understood names part = is_empty part || list_any (λ name. is_named name part) names

abbrev pub is_given_once_at_most : List (List ℕ) → Name → Bool
is_given_once_at_most parts name = nat_le (count_by (is_named name) parts) 1

-- each part is understood, and no name is given twice
unfoldable pub fits : List Name → List (List ℕ) → Bool
fits names parts = list_all (is_understood names) parts && list_all (is_given_once_at_most parts) names

-- what is given under a name
unfoldable pub given : Name → List (List ℕ) → Option (List ℕ)
given name parts = option_map value_in (find (is_named name) parts)

-- ### Its values

abbrev pub standing_of : Option (List ℕ) → Result Which AdminRefusal
standing_of None = Ok which.All
standing_of (Some text) =
    if bytes_eq text (codes "all") then Ok which.All
    else if bytes_eq text (codes "waiting") then Ok which.Waiting
    else if bytes_eq text (codes "running") then Ok which.Running
    else if bytes_eq text (codes "success") then Ok which.Success
    else if bytes_eq text (codes "failure") then Ok which.Failure
    else Err why.Standing

-- an id that was read
abbrev pub behind : Option (List ℕ) → Result (Option (List ℕ)) AdminRefusal
behind None = Err why.After
behind (Some id) = Ok (Some id)

abbrev pub after_of : Option (List ℕ) → Result (Option (List ℕ)) AdminRefusal
after_of None = Ok None
after_of (Some text) = behind (id_of text)

-- a number from 1 on
abbrev pub positive : Option ℕ → Result ℕ AdminRefusal
positive None = Err why.Limit
positive (Some n) = if nat_le 1 n then Ok n else Err why.Limit

abbrev pub limit_of : Option (List ℕ) → Result ℕ AdminRefusal
limit_of None = Ok 100
limit_of (Some text) = if is_empty text then Err why.Limit else positive (number_of 0 text)

-- ## The request

-- the names that a request has
abbrev pub names_at : Resource → List Name
names_at resource.Events = name.Standing ∷ name.After ∷ name.Limit ∷ []
names_at (resource.Records s) = name.After ∷ name.Limit ∷ []
names_at resource.Health = name.Deep ∷ []
names_at other = []

abbrev pub events_asked : Result Which AdminRefusal → Result (Option (List ℕ)) AdminRefusal → Result ℕ AdminRefusal → Result AdminRequest AdminRefusal
events_asked (Err w) after limit = Err w
events_asked (Ok which) (Err w) limit = Err w
events_asked (Ok which) (Ok after) (Err w) = Err w
events_asked (Ok which) (Ok after) (Ok limit) = Ok (request.Events which after limit)

abbrev pub records_asked : Side → Result (Option (List ℕ)) AdminRefusal → Result ℕ AdminRefusal → Result AdminRequest AdminRefusal
records_asked s (Err w) limit = Err w
records_asked s (Ok after) (Err w) = Err w
records_asked s (Ok after) (Ok limit) = Ok (request.Records s after limit)

-- what is asked of a place, by what is given under each name
abbrev pub told_at : Resource → List (List ℕ) → Result AdminRequest AdminRefusal
told_at resource.Page parts = Ok request.Page
told_at resource.Metrics parts = Ok request.Metrics
told_at resource.History parts = Ok request.History
told_at resource.Health parts = Ok (request.Health (is_some (given name.Deep parts)))
told_at (resource.Event id) parts = Ok (request.Event id)
told_at resource.Events parts =
    events_asked (standing_of (given name.Standing parts)) (after_of (given name.After parts)) (limit_of (given name.Limit parts))
told_at (resource.Records s) parts =
    records_asked s (after_of (given name.After parts)) (limit_of (given name.Limit parts))

-- what is asked of a place, with this query
unfoldable pub asked_at : Resource → List ℕ → Result AdminRequest AdminRefusal
asked_at resource query = if fits (names_at resource) (parts_of query) then told_at resource (parts_of query) else Err why.Query

abbrev pub asked_of_resource : Result Resource AdminRefusal → List ℕ → Result AdminRequest AdminRefusal
asked_of_resource (Err w) query = Err w
asked_of_resource (Ok resource) query = asked_at resource query

-- what a request asks for
abbrev pub asked_of : List ℕ → List ℕ → Result AdminRequest AdminRefusal
asked_of method target =
    if bytes_eq method (codes "GET") then asked_of_resource (resource_of (path_of target)) (query_of target) else Err why.Method

-- the status of a refusal
abbrev pub status_of : AdminRefusal → ℕ
status_of why.Method = 405
status_of why.Path = 404
status_of other = 400
