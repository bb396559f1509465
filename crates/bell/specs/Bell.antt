-- Who waits at a bell, and for what.
use Rattle.std.specs.Prelude.{◌≡◌, ◌⊎◌, ℕ, ◌<◌, true, List, All, Option, Some, IsSomeAnd}
use Rattle.std.specs.Ordering.{nat_cmp, ordering_then}
use Rattle.std.specs.declared.cmp.Ordering.{Ordering}
use Rattle.std.specs.BTreeMap as tree
use Rattle.futures.specs.Task.{Wakes}
use Rattle.futures.specs.declared.task.context.Context.{Context}
use Rattle.futures.specs.declared.task.waker.Waker.{Waker}
use Rattle.bell.specs.declared.bell.Bell.{Bell}
use Rattle.bell.specs.declared.waiters.Waiters.{Waiters}
use Rattle.bell.specs.declared.waiters.Registered.{Registered}
use Rattle.bell.specs.declared.waiters.Parked.{Parked}

-- the source at which the tasks of a bell wait
abbrev pub source_of : Bell → ℕ
source_of bell = bell.source.id

-- the order of those that wait for a number: by it, and then by their slots
abbrev pub by_number : ℕ × ℕ → ℕ × ℕ → Ordering
by_number x y = ordering_then (nat_cmp x.0 y.0) (nat_cmp x.1 y.1)

-- each of them waits for more than this number
unfoldable pub IsAbove : ℕ → ℕ × ℕ → Type 0
IsAbove number key = number < key.0

abbrev pub AreAbove : ℕ → List (ℕ × ℕ) → Type 0
AreAbove number keys = All (IsAbove number) keys

-- ## Registering

-- it was registered for this slot and this number
abbrev pub IsUnder : Registered → ℕ → ℕ → Type 0
IsUnder registered slot number = (registered.slot ≡ slot) × (registered.number ≡ number)

-- it was parked at this slot
abbrev pub IsParkedAt : Parked → ℕ → Type 0
IsParkedAt parked slot = parked.slot ≡ slot

-- a waker of the task that is polled waits for this number, which was not rung
abbrev pub IsLeft : Waiters → ℕ → ℕ → Context → Type 0
IsLeft waiters slot number cx =
    (waiters.rung < number) × IsSomeAnd (tree.get by_number waiters.numbered (number, slot)) (λ waker. Wakes waker cx)

-- the task's waker was left for this number, or the task is polled again
abbrev pub Waits : Waiters → ℕ → ℕ → Context → Context → Type 0
Waits waiters slot number old new = (new.lacks_waker ≡ true) ⊎ ((new.is_woken ≡ true) ⊎ IsLeft waiters slot number old)

-- the task's waker was left for the answer of this slot, or the task is polled again
abbrev pub Stays : Waiters → ℕ → Context → Context → Type 0
Stays waiters slot old new =
    (new.lacks_waker ≡ true) ⊎ ((new.is_woken ≡ true) ⊎ IsSomeAnd (tree.get nat_cmp waiters.parked slot) (λ waker. Wakes waker old))

-- ## Answering

-- whoever waited for the answer of this slot is woken, or waits for this number, which was not rung
abbrev pub GoesOn : Waiters → Waiters → ℕ → ℕ → Option Waker → Type 0
GoesOn old new slot number woken =
    (waker : Waker) → tree.get nat_cmp old.parked slot ≡ Some waker →
    (woken ≡ Some waker) ⊎ ((old.rung < number) × (tree.get by_number new.numbered (number, slot) ≡ Some waker))
