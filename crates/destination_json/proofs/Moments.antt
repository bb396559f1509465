-- An event that has ended did so at the moment of a command.
use Rattle.std.proofs.Common.{◌≡◌, ℕ, ◌≤◌, Bool, true, false, List, [], ◌∷◌, ◌++◌, Option, None, cond, sym, subst, ◌∙◌, append-nil}
use Rattle.retry_rules.specs.Settings.{bad_field}
use Rattle.retry_rules.specs.declared.settings.Settings.{Settings}
use Rattle.invoke_records.specs.Spelling.{greatest_moment}
use Rattle.invoke_records.specs.declared.command.Command.{Command}
use Rattle.invoke_records.specs.declared.command.Kind.{Kind}
use Rattle.invoke_records.specs.declared.command.Kind.TheVariants.{Accept, Start, Succeed, Fail, Throttle, Interrupt, Expire, Collect, Configure}
use Rattle.invoke_records.specs.declared.row.Outcome.TheVariants.{RetriesExhausted}
use Rattle.invoke_records.specs.declared.row.Standing.{Standing}
use Rattle.invoke_records.specs.declared.row.Standing.TheVariants as standing
use Rattle.async_core.specs.Lives.{life, names, collects, failures, push_backs}
use Rattle.async_core.specs.Standings.{Rules, standing_by}
use Rattle.async_core.specs.History.{IsLegal, rules_of, standing_of, standing_after, standing_in, table_of}
use Rattle.async_core.specs.laws.Lives.{life-nil, life-snoc, last_or-snoc}
use Rattle.async_core.specs.laws.Held.{legally}
use Rattle.async_core.specs.laws.Tables.{refusal-of_table, legal_time}

-- where it has ended, at a moment
abbrev pub IsInTime : Standing → Type 0
IsInTime (standing.Ended outcome at) = at ≤ greatest_moment
IsInTime other = Unit {0}

failed_in_time : (exhausted : Bool) (due time : ℕ) → time ≤ greatest_moment → IsInTime (cond exhausted (standing.Ended RetriesExhausted time) (standing.DueAgain due))
failed_in_time true due time within = within
failed_in_time false due time within = tt

by_kind : (rules : Rules) (failures push_backs : ℕ) (c : Command) (k : Kind) → c.time ≤ greatest_moment → IsInTime (standing_by rules failures push_backs c k)
by_kind rules failures push_backs c Accept within = tt
by_kind rules failures push_backs c Start within = tt
by_kind rules failures push_backs c Succeed within = within
by_kind rules failures push_backs c (Fail cause) within = failed_in_time _ _ c.time within
by_kind rules failures push_backs c Throttle within = tt
by_kind rules failures push_backs c Interrupt within = tt
by_kind rules failures push_backs c Expire within = within
by_kind rules failures push_backs c Collect within = tt
by_kind rules failures push_backs c (Configure policy) within = tt

after_last : (rules : Rules) (l : List Command) (c : Command) → c.time ≤ greatest_moment → IsInTime (standing_of rules (l ++ c ∷ []))
after_last rules l c within =
    subst (λ (last : Option Command). IsInTime (standing_after rules (l ++ c ∷ []) last)) (sym (last_or-snoc None l c))
    (by_kind rules (failures (l ++ c ∷ [])) (push_backs (l ++ c ∷ [])) c c.kind within)

one_more : (rules : Rules) (l : List Command) (c : Command) (collected named : Bool) → c.time ≤ greatest_moment → IsInTime (standing_of rules l)
    → IsInTime (standing_of rules (cond collected [] (l ++ cond named (c ∷ []) [])))
one_more rules l c true named within before = tt
one_more rules l c false true within before = after_last rules l c within
one_more rules l c false false within before = subst (λ x. IsInTime (standing_of rules x)) (sym (append-nil l)) before

pub in_time : (s : Settings) (h : List Command) → bad_field s ≡ None → IsLegal s h → (id : List ℕ) → IsInTime (standing_in s h id)
unfolding standing_in
in_time s h good legal id =
    legally s (λ l. (rules : Rules) (id : List ℕ) → IsInTime (standing_of rules (life id l)))
    (λ rules id. subst (λ l. IsInTime (standing_of rules l)) (sym (life-nil id)) tt)
    (λ l c is_legal passes before rules id. subst (λ x. IsInTime (standing_of rules x)) (sym (life-snoc id l c))
    (one_more rules (life id l) c (collects id c) (names id c) (legal_time s (table_of s l) c (refusal-of_table s l c good is_legal ∙ passes)) (before rules id)))
    h legal (rules_of s h id) id
