-- Where nothing runs, each event that is held is at rest.
use Rattle.std.proofs.Common.{◌≡◌, ℕ, zero, suc, ◌+◌, ◌<◌, ◌≤◌, List, [], ◌∷◌, length, get_or, Bool, true, false, not, ◌&&◌, cond, if◌then◌else◌, None, refl, ap, ◌∙◌, subst, arith}
use Rattle.std.specs.Prelude.{nat_lt}
use Rattle.std.specs.List.{count_by, list_any}
use Rattle.std.specs.Str.{bytes_eq}
use Rattle.std.proofs.lemmas.Bool.{lt-ltb}
use Rattle.retry_rules.specs.declared.settings.Settings.{Settings}
use Rattle.invoke_records.specs.declared.command.Command.{Command}
use Rattle.invoke_records.specs.declared.row.Standing.{Standing}
use Rattle.invoke_records.specs.declared.row.Standing.TheVariants as standing
use Rattle.async_core.specs.Lives.{is_accept, collects, life}
use Rattle.async_core.specs.Standings.{is_running, is_unknown}
use Rattle.async_core.specs.History.{held, held_from, standing_in, IsLegal}
use Rattle.async_core.specs.laws.Held.{size, is_nil, held_once, unknown-nil, bytes_eq-refl}
use Rattle.async_core.specs.laws.Lives.{count_by-cons}
use Rattle.async_core.specs.Choice.{IsFirstRunning}
use Rattle.broker_core.specs.Resume.{IsAtRest, AllAtRest}

-- one more event in front, or not
longer : (b : Bool) (n : ℕ) (id : List ℕ) (later : List (ℕ × List ℕ)) → ((k : ℕ) (d : ℕ × List ℕ) → k < length later → n + 1 ≤ (get_or later k d).0)
    → (k : ℕ) (d : ℕ × List ℕ) → k < length (if b then (n, id) ∷ later else later) → n ≤ (get_or (if b then (n, id) ∷ later else later) k d).0
longer true n id later below zero d lt = omega arith
longer true n id later below (suc k) d lt = let least = below k d (omega (arith, lt)) in omega (arith, least)
longer false n id later below k d lt = let least = below k d lt in omega (arith, least)

-- commands are numbered from 1
from_number : (n : ℕ) (h : List Command) (k : ℕ) (d : ℕ × List ℕ) → k < length (held_from n h) → n ≤ (get_or (held_from n h) k d).0
from_number n [] k d lt = absurd (omega (arith, lt))
from_number n (c ∷ later) k d lt = longer (is_accept c && not (list_any (collects c.id) later)) n c.id (held_from (n + 1) later) (from_number (n + 1) later) k d lt

-- what is counted is there
counted : {X : Type 0} (p : X → Bool) (xs : List X) (k : ℕ) (d : X) → k < length xs → p (get_or xs k d) ≡ true → 1 ≤ count_by p xs
counted p [] k d lt is = absurd (omega (arith, lt))
counted p (x ∷ xs) zero d lt is = let sum : count_by p (x ∷ xs) ≡ 1 + count_by p xs = count_by-cons p x xs ∙ ap (λ (b : Bool). cond b 1 0 + count_by p xs) is in omega (arith, sum)
counted p (x ∷ xs) (suc k) d lt is =
    let more = counted p xs k d (omega (arith, lt)) is in
    let sum = count_by-cons p x xs in
    omega (arith, sum, more)

not_nil : (l : List Command) → 1 ≤ size l → is_nil l ≡ false
not_nil [] most = absurd (omega (arith, most))
not_nil (c ∷ l) most = refl

-- an event that is held is known
known : (s : Settings) (h : List Command) → IsLegal s h → (k : ℕ) (d : ℕ × List ℕ) → k < length (held h) → is_unknown (standing_in s h (get_or (held h) k d).1) ≡ false
known s h legal k d lt =
    let id = (get_or (held h) k d).1 in
    let once = counted (λ (e : ℕ × List ℕ). bytes_eq id e.1) (held h) k d lt (bytes_eq-refl id) in
    unknown-nil s h id ∙ not_nil (life id h) (subst (λ (n : ℕ). 1 ≤ n) (held_once s h legal id) once)

resting : (stands : Standing) → is_unknown stands ≡ false → is_running stands ≡ false → IsAtRest stands
resting standing.Unknown known runs = absurd cc
resting (standing.Waiting due) known runs = tt
resting (standing.DueAgain due) known runs = tt
resting (standing.Running environment deadline) known runs = absurd cc
resting (standing.Ended outcome at) known runs = tt

not_running : (b c : Bool) → (b && c) ≡ false → c ≡ true → b ≡ false
not_running true true both last = absurd cc
not_running true false both last = absurd cc
not_running false c both last = refl

pub all_at_rest : (s : Settings) (h : List Command) → IsLegal s h → IsFirstRunning s h 0 None → AllAtRest s h
unfolding held
all_at_rest s h legal none = λ k d lt.
    let event = get_or (held h) k d in
    let numbered : 0 < event.0 = let first = from_number 1 h k d lt in omega (arith, first) in
    resting (standing_in s h event.1) (known s h legal k d lt) (not_running (is_running (standing_in s h event.1)) (nat_lt 0 event.0) (none k d lt) (lt-ltb 0 event.0 numbered))
