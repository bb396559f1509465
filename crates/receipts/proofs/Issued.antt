-- What a call that issued something, or nothing, leaves at its desk and under the lock.
use Rattle.std.proofs.Common.{◌≡◌, ℕ, ◌+◌, ◌≤◌, List, ◌++◌, length, map, Option, Some, None, refl, sym, ap, subst, ◌∙◌, arith}
use Rattle.std.specs.Prelude.{option_map}
use Rattle.invoke_records.specs.declared.command.Command.{Command}
use Rattle.invoke_records.specs.declared.snapshot.Snapshot.{Snapshot}
use Rattle.broker_core.specs.declared.issue_half.IssueHalf.{IssueHalf}
use Rattle.broker_core.specs.IssuerHalf.{has_same_lent}
use Rattle.hall_plans.specs.declared.issued.Issued.{Issued}
use Rattle.hall_plans.specs.Run.{option_list}
use Rattle.hall_core.specs.Hall.{HallView, IsSameHall, IsAsDurable}
use Rattle.hall_core.specs.Issuing.{told_of}
use Rattle.receipts.specs.declared.lives.Lives.{Lives}
use Rattle.receipts.specs.declared.mark.Mark.{Mark}
use Rattle.receipts.specs.Answers.{IsToldMore, IsToldIfAny}
use Rattle.receipts.specs.Lives.{lives_with}
use Rattle.receipts.specs.Locked.{number_of, either_number}
use Rattle.receipts.specs.Marks.{marks_by}

-- its mark came behind those that were there before there was room for it
pub marks_from : {X : Type 0} (mark : X → Mark) (later : List Mark) (mid old : List X) (desk' desk : ℕ) (issued : Option Issued)
    → later ≡ map mark mid ++ marks_by desk' issued → mid ≡ old → desk' ≡ desk → later ≡ map mark old ++ marks_by desk issued
marks_from mark later mid old desk' desk issued added same same_desk =
    added ∙ ap (λ l. map mark l ++ marks_by desk' issued) same ∙ ap (λ n. map mark old ++ marks_by n issued) same_desk

-- ## What the desk is told

pub told_by_request : (old n ticket new : ℕ) (command : Option Command) → old ≤ n → ticket ≡ n + length (option_list command) → new ≡ ticket
    → IsToldMore old new ticket
told_by_request old n ticket new command few more is = (omega (arith, few, more), is)

told_by_command : (old n : ℕ) (command : Option Command) → old ≤ n
    → IsToldIfAny old (either_number old (option_map (told_of n) command)) (option_map number_of (option_map (told_of n) command))
told_by_command old n None few = refl
told_by_command old n (Some command) few = (omega (arith, few), refl)

pub told_by_move : (old n new : ℕ) (command : Option Command) (issued : Option Issued) (told : Option ℕ) → old ≤ n → issued ≡ option_map (told_of n) command
    → told ≡ option_map number_of issued → new ≡ either_number old issued → IsToldIfAny old new told
told_by_move old n new command issued told few is number told_is =
    subst (λ (t : Option ℕ). IsToldIfAny old new t) (sym (number ∙ ap (option_map number_of) is))
    (subst (λ (m : ℕ). IsToldIfAny old m (option_map number_of (option_map (told_of n) command))) (sym (told_is ∙ ap (either_number old) is)) (told_by_command old n command few))

-- ## What the polls that are handed out leave

pub lent_from : (old mid new : IssueHalf) → new ≡ mid → has_same_lent old mid → has_same_lent old new
lent_from old mid new same lent = subst (has_same_lent old) (sym same) lent

pub durable_from : (old mid new : HallView) → IsSameHall mid new → IsAsDurable old mid → IsAsDurable old new
durable_from old mid new same kept = (same.issuer.durable ∙ kept.0, same.issuer.broken ∙ kept.1)

pub lives_from : (table table' : Snapshot) (issued told : Option Issued) (lives lives' : Lives) → lives' ≡ lives_with table issued lives → table' ≡ table → told ≡ issued
    → lives' ≡ lives_with table' told lives
lives_from table table' issued told lives lives' is same same_told =
    is ∙ ap (λ t. lives_with t issued lives) (sym same) ∙ ap (λ i. lives_with table' i lives) (sym same_told)
