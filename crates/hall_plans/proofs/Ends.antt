-- Lemmas: what has ended, ended at a moment that has a text.
use Rattle.std.proofs.Common.{◌≡◌, ◌≤◌, ◌<◌, ℕ, List, Option, None, Some, subst, sym, arith}
use Rattle.std.specs.Prelude.{IfSome}
use Rattle.retry_rules.specs.declared.settings.Settings.{Settings}
use Rattle.retry_rules.specs.Settings.{bad_field}
use Rattle.invoke_records.specs.Spelling.{greatest_moment}
use Rattle.invoke_records.specs.declared.command.Command.{Command}
use Rattle.invoke_records.specs.declared.row.Standing.{Standing}
use Rattle.invoke_records.specs.declared.row.Standing.TheVariants as standing
use Rattle.async_core.specs.Lives.{life}
use Rattle.async_core.specs.History.{standing_in, IsLegal}
use Rattle.async_core.specs.Readers.{Ending, ending_in, ending_after, told}
use Rattle.async_core.specs.declared.readers.Ended.{Ended}
use Rattle.destination_json.proofs.Moments.{IsInTime, in_time}

told_in_time : (id : List ℕ) (l : List Command) (stands : Standing) → IsInTime stands → IfSome (ending_in id l stands) (λ e. e.at ≤ greatest_moment)
told_in_time id l standing.Unknown within = tt
told_in_time id l (standing.Waiting due) within = tt
told_in_time id l (standing.DueAgain due) within = tt
told_in_time id l (standing.Running environment deadline) within = tt
told_in_time id l (standing.Ended outcome at) within = within

-- no event ended later than that
pub never_later : (s : Settings) (h : List Command) (id : List ℕ) (ended : Ended) → bad_field s ≡ None → IsLegal s h → Some (told ended) ≡ ending_after s id h
    → greatest_moment < ended.at → ⊥
never_later s h id ended good legal is later =
    let le : ended.at ≤ greatest_moment = subst (λ (o : Option Ending). IfSome o (λ e. e.at ≤ greatest_moment)) (sym is) (told_in_time id (life id h) (standing_in s h id) (in_time s h good legal id)) in
    omega arith
