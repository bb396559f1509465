-- Turns one after another.
use Rattle.std.proofs.Common.{◌≡◌, ℕ, List, [], ◌∷◌, ◌++◌, All, subst, sym}
use Rattle.std.specs.List.{flat_map}
use Rattle.std.proofs.lemmas.List.{flat_map_more}
use Rattle.std.proofs.lemmas.List.Elements.{All-append, All-cons, All-nil}
use Rattle.commit_loop.specs.declared.gate.Turn.{Turn}
use Rattle.commit_loop.specs.declared.gate.Turn.TheVariants as turn
use Rattle.commit_loop.specs.Ticker.{Step, counted, Turned, steps_at, steps_of_deed, IsSaid, Acts, IsTurn, IsEnd, IsRun}

-- steps, and steps after them
abbrev pub GoesOn : {V : Type 0} → (V → List Step → V → Type 0) → Type 0
GoesOn {V} leads = (first second third : V) (before after : List Step) → leads first before second → leads second after third → leads first (before ++ after) third

-- from the first value to the second lead turns that do what the gate said
pub record HaveTurned {V : Type 0} (leads : V → List Step → V → Type 0) (says : ℕ → Turn → Type 0) (old new : V) : Type 0 where
  pub turns : List Turned
  pub said : All (IsSaid says) turns
  pub made : leads old (flat_map steps_at turns) new

-- what is pending is counted, and then what the gate says is done
pub one_turn : {V : Type 0} (leads : V → List Step → V → Type 0) (says : ℕ → Turn → Type 0) → GoesOn leads → (old now new : V) (pending : ℕ) (said : Turn)
    → says pending said → leads old (counted pending ∷ []) now → Acts leads said now new → IsTurn leads says old new
one_turn {V} leads says goes_on old now new pending said may count act =
    let P : Turn → Type 0 = λ t. says pending t in (
      record { pending = pending; deed = act.0 },
      subst P (sym act.1) may,
      goes_on old now new (counted pending ∷ []) (steps_of_deed act.0) count act.2,
    )

-- it is counted, and the gate ends the loop
pub end_of_turns : {V : Type 0} (leads : V → List Step → V → Type 0) (says : ℕ → Turn → Type 0) → GoesOn leads → (old now new : V) (pending : ℕ) (said : Turn)
    → says pending said → leads old (counted pending ∷ []) now → (said ≡ turn.End) × leads now [] new → IsEnd leads says old new
end_of_turns {V} leads says goes_on old now new pending said may count ended =
    let P : Turn → Type 0 = λ t. says pending t in
    (pending, subst P ended.0 may, goes_on old now new (counted pending ∷ []) [] count ended.1)

pub one_more : {V : Type 0} (leads : V → List Step → V → Type 0) (says : ℕ → Turn → Type 0) → GoesOn leads → (old now new : V)
    → HaveTurned leads says old now → IsTurn leads says now new → HaveTurned leads says old new
one_more {V} leads says goes_on old now new before turn = record {
  turns = before.turns ++ turn.0 ∷ [];
  said = All-append (IsSaid says) before.turns (turn.0 ∷ []) before.said (All-cons (IsSaid says) turn.0 [] turn.1 (All-nil (IsSaid says)));
  made =
      let P : List Step → Type 0 = λ steps. leads old steps new in
      subst P (flat_map_more steps_at [] before.turns turn.0) (goes_on old now new _ _ before.made turn.2);
}

pub at_its_end : {V : Type 0} (leads : V → List Step → V → Type 0) (says : ℕ → Turn → Type 0) → GoesOn leads → (old now new : V)
    → HaveTurned leads says old now → IsEnd leads says now new → IsRun leads says old new
at_its_end {V} leads says goes_on old now new before end = record {
  turns = before.turns;
  said = before.said;
  pending = end.0;
  ended = end.1;
  made = goes_on old now new _ _ before.made end.2;
}
