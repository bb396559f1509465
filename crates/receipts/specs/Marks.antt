-- Marks: what an office keeps of the commands that were issued since it was opened.
use Rattle.std.specs.Prelude.{◌≡◌, ◌≢◌, ℕ, ◌+◌, Bool, ◌==◌, List, [], ◌∷◌, length, map, filter, sum_by, slice_get, Option, Some, None}
use Rattle.std.specs.List.{range_with_len}
use Rattle.hall_plans.specs.declared.issued.Issued.{Issued}
use Rattle.receipts.specs.declared.mark.Mark.{Mark}

-- the mark of a command that a call of this desk issued
abbrev pub mark_of : ℕ → Issued → Mark
mark_of desk issued = record { number = issued.number; desk = desk; kind = issued.kind; id = issued.id; time = issued.time }

-- the marks that a call of this desk makes, which issued this or nothing
abbrev pub marks_by : ℕ → Option Issued → List Mark
marks_by desk None = []
marks_by desk (Some issued) = mark_of desk issued ∷ []

abbrev pub is_of : ℕ → Mark → Bool
is_of desk mark = mark.desk == desk

-- the history of a desk: the marks that have its number
abbrev pub history_of_desk : ℕ → List Mark → List Mark
history_of_desk desk marks = filter (is_of desk) marks

-- a call of a desk, from marks and own marks to those afterwards: own marks that were the desk's history still are it, and the
-- histories of the others stay
abbrev pub KeepsHistories : ℕ → List Mark → List Mark → List Mark → List Mark → Type 0
KeepsHistories desk marks own later later_own =
    (own ≡ history_of_desk desk marks → later_own ≡ history_of_desk desk later)
    × ((other : ℕ) → other ≢ desk → history_of_desk other later ≡ history_of_desk other marks)

-- the desk at each place has the number of the place, and its own marks are its history
abbrev pub AreHistories : {X : Type 0} → (X → ℕ) → (X → List Mark) → List Mark → List X → Type 0
AreHistories {X = X} number own marks desks =
    (place : ℕ) (desk : X) → slice_get desks place ≡ Some desk → (number desk ≡ place) × (own desk ≡ history_of_desk place marks)

abbrev pub numbers_of : List Mark → List ℕ
numbers_of marks = map (λ (mark : Mark). mark.number) marks

-- the marks are numbered without a gap, behind so many commands
abbrev pub AreNumbered : ℕ → List Mark → Type 0
AreNumbered before marks = numbers_of marks ≡ range_with_len (before + 1) (length marks)

-- the same, behind however many commands
abbrev pub AreNumberedFromSome : List Mark → Type 0
AreNumberedFromSome marks = (before : ℕ) × AreNumbered before marks

-- how many marks the lists of all desks have together
abbrev pub sum_of_lists : {X : Type 0} → (X → List Mark) → List X → ℕ
sum_of_lists own desks = sum_by (λ desk. length (own desk)) desks
