-- The keys of the rows: in which indexes an event stands, and by what each of them is ordered.
use Rattle.std.specs.Prelude.{◌≡◌, ℕ, ◌+◌, ◌*◌, ◌<◌, ◌≤◌, ◌⊎◌, min, Bool, true, false, not, ◌&&◌, ◌||◌, ◌==◌, List, [], ◌∷◌, Option, Some, None, if◌then◌else◌, nat_le, All, Contains}
use Rattle.std.specs.List.{list_any}
use Rattle.std.specs.Ordering.{nat_cmp, ordering_then}
use Rattle.std.specs.declared.cmp.Ordering.{Ordering}
use Rattle.std.specs.BTreeSet.{BTreeSet, contains}
use Rattle.invoke_records.specs.declared.row.EventRow.{EventRow}
use Rattle.invoke_records.specs.declared.row.Standing.{Standing}
use Rattle.invoke_records.specs.declared.row.Standing.TheVariants as standing
use Rattle.async_core.specs.declared.choice.Side.{Side}
use Rattle.async_core.specs.declared.choice.Side.TheVariants as side
use Rattle.async_core.specs.declared.keys.Facts.{Facts}
use Rattle.async_core.specs.declared.keys.Index.{Index}
use Rattle.async_core.specs.declared.keys.Index.TheVariants.{Ripe, Deadline, Running, Environment, Idle, Success, Failure}
use Rattle.async_core.specs.Choice.{is_on, NotBefore}

-- the rank of an index, two numbers by which it is ordered, and the place of a row
abbrev pub Key : Type 0
Key = ℕ × ℕ × ℕ × ℕ

abbrev pub index_rank : Index → ℕ
index_rank Ripe = 0
index_rank Deadline = 1
index_rank Running = 2
index_rank Environment = 3
index_rank Idle = 4
index_rank Success = 5
index_rank Failure = 6

abbrev pub by_key : Key → Key → Ordering
by_key x y =
    ordering_then (ordering_then (ordering_then (nat_cmp x.0 y.0) (nat_cmp x.1 y.1)) (nat_cmp x.2 y.2)) (nat_cmp x.3 y.3)

-- what an event's keys depend on
abbrev pub facts_of : EventRow → Facts
facts_of r = record { accepted = r.accepted; age = r.policy.age; number = r.number; last_number = r.last_number; standing = r.standing }

-- the moment from which the event is too old
abbrev pub expiry : Facts → ℕ
expiry f = f.accepted + 1000 * f.age

-- ## Where an event stands in an index, if it stands there

-- by the moment from which it has something to do, and by its acceptance
abbrev pub ripe_key : Facts → Standing → Option (ℕ × ℕ)
ripe_key f (standing.Waiting due) = Some (min due (expiry f), f.number)
ripe_key f (standing.DueAgain due) = Some (min due (expiry f), f.number)
ripe_key f (standing.Running environment deadline) = Some (deadline, f.number)
ripe_key f other = None

-- where it runs: by its deadline, by its acceptance, by its environment
abbrev pub deadline_key : Facts → Standing → Option (ℕ × ℕ)
deadline_key f (standing.Running environment deadline) = Some (deadline, f.number)
deadline_key f other = None

abbrev pub running_key : Facts → Standing → Option (ℕ × ℕ)
running_key f (standing.Running environment deadline) = Some (f.number, 0)
running_key f other = None

abbrev pub environment_key : Facts → Standing → Option (ℕ × ℕ)
environment_key f (standing.Running environment deadline) = Some (environment, 0)
environment_key f other = None

-- where it waits for an attempt: by the moment from which it is too old
abbrev pub idle_key : Facts → Standing → Option (ℕ × ℕ)
idle_key f (standing.Waiting due) = Some (expiry f, 0)
idle_key f (standing.DueAgain due) = Some (expiry f, 0)
idle_key f other = None

-- where it has ended, on one side or the other: by the number of the command that ended it
abbrev pub ended_key : Side → Facts → Standing → Option (ℕ × ℕ)
ended_key side f (standing.Ended outcome at) = if is_on side outcome then Some (f.last_number, 0) else None
ended_key side f other = None

abbrev pub key_in : Facts → Index → Option (ℕ × ℕ)
key_in f Ripe = ripe_key f f.standing
key_in f Deadline = deadline_key f f.standing
key_in f Running = running_key f f.standing
key_in f Environment = environment_key f f.standing
key_in f Idle = idle_key f f.standing
key_in f Success = ended_key side.Success f f.standing
key_in f Failure = ended_key side.Failure f f.standing

-- ## A set of keys

abbrev pub is_key : Option (ℕ × ℕ) → ℕ → ℕ → Bool
is_key None a b = false
is_key (Some key) a b = (key.0 == a) && (key.1 == b)

-- an event with these facts, if there is one, has this key
abbrev pub has_key : Option Facts → Index → ℕ → ℕ → Bool
has_key None i a b = false
has_key (Some f) i a b = is_key (key_in f i) a b

-- the keys are those of the events, by their places
abbrev pub AreKeys : (ℕ → Option Facts) → BTreeSet Key → Type 0
AreKeys at keys = (i : Index) (a b q : ℕ) → contains by_key keys (index_rank i, a, b, q) ≡ has_key (at q) i a b

abbrev pub put_facts : ℕ → Option Facts → (ℕ → Option Facts) → ℕ → Option Facts
put_facts place facts at q = if place == q then facts else at q

-- where the event at a place had these facts, the keys are those of the events with the new ones there
abbrev pub Switches : ℕ → Option Facts → Option Facts → BTreeSet Key → BTreeSet Key → Type 0
Switches place old new keys changed =
    (at : ℕ → Option Facts) → AreKeys at keys → at place ≡ old → AreKeys (put_facts place new at) changed

-- where the event at a place had these facts, the keys stay those of the events
abbrev pub StaysAt : ℕ → Option Facts → BTreeSet Key → BTreeSet Key → Type 0
StaysAt place old keys changed = (at : ℕ → Option Facts) → AreKeys at keys → at place ≡ old → AreKeys at changed

-- ## The first of some rows

-- a key whose first number is at least this one, and at most that one if one is given
abbrev pub within : ℕ → Option ℕ → ℕ × ℕ → Bool
within low None at = nat_le low at.0
within low (Some last) at = nat_le low at.0 && nat_le at.0 last

abbrev pub key_within : ℕ → Option ℕ → Option (ℕ × ℕ) → Option (ℕ × ℕ)
key_within low last None = None
key_within low last (Some at) = if within low last at then Some at else None

-- where a row stands in an index, within these bounds
abbrev pub row_key : Index → ℕ → Option ℕ → EventRow → Option (ℕ × ℕ)
row_key i low last r = key_within low last (key_in (facts_of r) i)

-- this row has the least rank
pub record IsLeastBy (ranked : EventRow → Option (ℕ × ℕ)) (rows : List EventRow) (row : EventRow) : Type 0 where
  pub is_there : Contains rows row
  pub at : ℕ × ℕ
  pub has : ranked row ≡ Some at
  pub least : All (λ r. NotBefore at (ranked r)) rows

-- the row of least rank, or none where no row has a rank
abbrev pub IsFirstBy : (EventRow → Option (ℕ × ℕ)) → List EventRow → Option EventRow → Type 0
IsFirstBy ranked rows None = All (λ r. ranked r ≡ None) rows
IsFirstBy ranked rows (Some row) = IsLeastBy ranked rows row

-- ## Steps of private functions

abbrev pub is_among : List Index → Index → Bool
is_among indexes i = list_any (λ j. index_rank j == index_rank i) indexes

-- the keys of an event in these indexes come
abbrev pub AddsKeys : ℕ → Option Facts → List Index → BTreeSet Key → BTreeSet Key → Type 0
AddsKeys place facts indexes old new =
    (i : Index) (a b q : ℕ) → contains by_key new (index_rank i, a, b, q)
    ≡ (contains by_key old (index_rank i, a, b, q) || (is_among indexes i && (place == q) && has_key facts i a b))

-- those in some indexes come
abbrev pub AddsSome : ℕ → Option Facts → BTreeSet Key → BTreeSet Key → Type 0
AddsSome place facts old new = (indexes : List Index) × AddsKeys place facts indexes old new

-- the keys of an event in these indexes go, save those that it keeps
abbrev pub DropsKeys : ℕ → Option Facts → Option Facts → List Index → BTreeSet Key → BTreeSet Key → Type 0
DropsKeys place gone kept indexes old new =
    (i : Index) (a b q : ℕ) → contains by_key new (index_rank i, a, b, q)
    ≡ (contains by_key old (index_rank i, a, b, q)
    && not (is_among indexes i && (place == q) && has_key gone i a b && not (has_key kept i a b)))

abbrev pub every_index : List Index
every_index = Ripe ∷ Deadline ∷ Running ∷ Environment ∷ Idle ∷ Success ∷ Failure ∷ []

-- the first key in an index from these two numbers on
abbrev pub IsAtMost : ℕ × ℕ → ℕ × ℕ → Type 0
IsAtMost x y = (x.0 < y.0) ⊎ ((x.0 ≡ y.0) × (x.1 ≤ y.1))

abbrev pub IsFirstKey : BTreeSet Key → Index → ℕ × ℕ → Option (ℕ × ℕ × ℕ) → Type 0
IsFirstKey keys i low None = (a b q : ℕ) → IsAtMost low (a, b) → contains by_key keys (index_rank i, a, b, q) ≡ false
IsFirstKey keys i low (Some first) =
    (contains by_key keys (index_rank i, first.0, first.1, first.2) ≡ true) × IsAtMost low (first.0, first.1)
    × ((a b q : ℕ) → IsAtMost low (a, b) → contains by_key keys (index_rank i, a, b, q) ≡ true → IsAtMost (first.0, first.1) (a, b))
