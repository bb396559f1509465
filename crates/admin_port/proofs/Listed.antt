-- What is told of a list of records.
use Rattle.std.proofs.Common.{◌≡◌, ℕ, zero, suc, inl, inr, sym, ap, refl, subst, List, [], ◌∷◌, map, Option, Some, None, Result, Ok, Err, IfOk, IfSome, slice_get, slice_set}
use Rattle.std.specs.Result.{result_ok}
use Rattle.admin_replies.specs.declared.admin_reply.AdminReply.{AdminReply}
use Rattle.admin_replies.specs.declared.verdict.ToldLine.{ToldLine}
use Rattle.admin_replies.specs.Collecting.{TellsLines}
use Rattle.admin_port.specs.Collecting.{TellsIds, TellsOfLines}
use Rattle.admin_port.specs.Replying.{TellsOfFault}

-- what is known of an option's value, with less said of it
pub of_some : {A : Type 0} (P Q : A → Type 0) → ((a : A) → P a → Q a) → (o : Option A) → IfSome o P → IfSome o Q
of_some P Q step None p = tt
of_some P Q step (Some a) p = step a p

-- nothing is known of what is not there
pub of_none : {A : Type 0} (P : A → Type 0) (o : Option A) → o ≡ None → IfSome o P
of_none P o is = subst (λ v. IfSome v P) (sym is) tt

-- what is the same of an element and of the one in its place is the same of the list
pub same_map : {X Y : Type 0} (f : X → Y) (xs : List X) (i : ℕ) (old new : X) → slice_get xs i ≡ Some old → f new ≡ f old
    → map f (slice_set xs i new) ≡ map f xs
same_map f [] i old new is same = absurd (cc)
same_map f (x ∷ xs) zero old new is same = cc
same_map f (x ∷ xs) (suc i) old new is same = ap (λ l. f x ∷ l) (same_map f xs i old new is same)

-- what waits for more leads to what that leads to
pub leads_on : {W X : Type 0} (G : W → X → Type 0) (P : X → Type 0) (before : Option W) (old new : W) → before ≡ Some old
    → ((x : X) → G new x → G old x) → IfSome before (λ w. (x : X) → G w x → P x) → (x : X) → G new x → P x
leads_on {X = X} G P before old new is same leads x gives = subst (λ o. IfSome o (λ w. (x : X) → G w x → P x)) is leads x (same x gives)

-- and to what it gives
pub leads_to : {W X : Type 0} (G : W → X → Type 0) (P : X → Type 0) (before : Option W) (old : W) (x : X) → before ≡ Some old
    → G old x → IfSome before (λ w. (y : X) → G w y → P y) → P x
leads_to {X = X} G P before old x is gives leads = subst (λ o. IfSome o (λ w. (y : X) → G w y → P y)) is leads x gives

module _ {E : Type 0} (id : E → Option (List ℕ)) (line : E → Option ToldLine) where
  pub told_list : {F : Type 0} (entries : List E) (lines : List ToldLine) (made : Result AdminReply F) (reply : Option AdminReply)
      → reply ≡ result_ok made → map Some lines ≡ map line entries → IfOk made (TellsLines lines) → IfSome reply (TellsOfLines id line entries)
  told_list entries lines (Ok r) reply is same tells =
      subst (λ (o : Option AdminReply). IfSome o (TellsOfLines id line entries)) (sym is) (inr (entries, lines, refl, same, tells))
  told_list entries lines (Err w) reply is same tells =
      subst (λ (o : Option AdminReply). IfSome o (TellsOfLines id line entries)) (sym is) tt

  pub told_fault : (ids : List (Option (List ℕ))) (reply : Option AdminReply) → TellsOfFault reply → IfSome reply (TellsIds id line ids)
  told_fault ids reply fault = of_some _ (TellsIds id line ids) (λ r is. inl is) reply fault

  pub told_later : (old new : List (Option (List ℕ))) (reply : Option AdminReply) → new ≡ old → IfSome reply (TellsIds id line new)
      → IfSome reply (TellsIds id line old)
  told_later old new reply same tells = subst (λ ids. IfSome reply (TellsIds id line ids)) same tells
