-- Lemmas: replies that are given to their slots one after another.
use Rattle.std.proofs.lemmas.Option.{none-some}
use Rattle.std.specs.Prelude.{Option, Some, None, option_map}
use Rattle.std.proofs.Common.{◌≡◌, ℕ, List, [], ◌∷◌, ◌++◌, length, take, refl, sym, ap, arith, append_assoc}
use Rattle.api_core.specs.declared.reply.Reply.{Reply}
use Rattle.api_core.specs.Replies.{Words, Told, reply_in}
use Rattle.hall_plans.specs.Past.{SlotEvent, replied}
use Rattle.hall_core.specs.OpenSlots.{Entries, KeepFor}
use Rattle.hall_plans.specs.Settling.{replies_told, replied_at, own_at}

nothing_there : {A : Type 0} (x : A) (xs : List A) → x ∷ xs ≡ [] → ⊥
nothing_there x xs h = cc

pub nothing_left : {A : Type 0} (xs : List A) → length xs ≡ 0 → xs ≡ []
nothing_left [] h = refl
nothing_left (x ∷ xs) h = absurd (omega (arith, h))

same_reply : (x y : Reply) → Some x ≡ Some y → x ≡ y
same_reply x y h = cc

same_head : {A : Type 0} (x y : A) (xs ys : List A) → x ∷ xs ≡ y ∷ ys → x ≡ y
same_head x y xs ys h = cc

same_tail : {A : Type 0} (x y : A) (xs ys : List A) → x ∷ xs ≡ y ∷ ys → xs ≡ ys
same_tail x y xs ys h = cc

-- the next reply tells the next answer
pub record IsNext (s : Words) (before : List (ℕ × Reply)) (x : ℕ × Reply) (told : List (ℕ × Told)) : Type 0 where
  pub answer : ℕ × Told
  pub slot : x.0 ≡ answer.0
  pub reply : x.1 ≡ reply_in s answer.1
  pub more : take (length (before ++ x ∷ [])) told ≡ take (length before) told ++ answer ∷ []

pub next_answer : (s : Words) (before : List (ℕ × Reply)) (x : ℕ × Reply) (rest : List (ℕ × Reply)) (told : List (ℕ × Told))
    → before ++ x ∷ rest ≡ replies_told s told → IsNext s before x told
next_answer s [] x rest [] h = absurd (nothing_there x rest h)
next_answer s [] x rest (t ∷ told) h =
    let e = same_head x (t.0, reply_in s t.1) rest (replies_told s told) h in
    record { answer = t; slot = ap (λ y. y.0) e; reply = ap (λ y. y.1) e; more = refl }
next_answer s (y ∷ before) x rest [] h = absurd (nothing_there y (before ++ x ∷ rest) h)
next_answer s (y ∷ before) x rest (t ∷ told) h =
    let later = next_answer s before x rest told (same_tail y (t.0, reply_in s t.1) (before ++ x ∷ rest) (replies_told s told) h) in
    record { answer = later.answer; slot = later.slot; reply = later.reply; more = ap (λ l. t ∷ l) later.more }

-- all that came are all
pub all_answers : (s : Words) (all : List (ℕ × Reply)) (told : List (ℕ × Told)) → all ≡ replies_told s told → take (length all) told ≡ told
all_answers s [] [] h = refl
all_answers s [] (t ∷ told) h = absurd (nothing_there (t.0, reply_in s t.1) (replies_told s told) (sym h))
all_answers s (x ∷ all) [] h = absurd (nothing_there x all h)
all_answers s (x ∷ all) (t ∷ told) h = ap (λ l. t ∷ l) (all_answers s all told (same_tail x (t.0, reply_in s t.1) all (replies_told s told) h))

replied_last : (point : ℕ) (done : List (ℕ × Told)) (t : ℕ × Told) → replied_at point (done ++ t ∷ []) ≡ replied_at point done ++ replied t.0 t.1 point ∷ []
replied_last point [] t = refl
replied_last point (d ∷ done) t = ap (λ l. replied d.0 d.1 point ∷ l) (replied_last point done t)

-- what is kept with the next reply
pub keeps_next : (s : Words) (slots : Entries) (events : List SlotEvent) (point slot : ℕ) (done all : List (ℕ × Told)) (t : ℕ × Told)
    → slot ≡ t.0 → all ≡ done ++ t ∷ [] → KeepFor s slots ((events ++ replied_at point done) ++ replied slot t.1 point ∷ []) → KeepFor s slots (events ++ replied_at point all)
keeps_next s slots events point slot done all t same is keep =
    rw (is, replied_last point done t, ← append_assoc events (replied_at point done) (replied t.0 t.1 point ∷ []), ← same) keep

-- the reply to the caller is that to an answer
pub keeps_own : (s : Words) (slots : Entries) (events : List SlotEvent) (slot point : ℕ) (reply : Reply) (told : Option Told)
    → Some reply ≡ option_map (reply_in s) told
    → ((answer : Told) → reply ≡ reply_in s answer → KeepFor s slots (events ++ replied slot answer point ∷ []))
    → KeepFor s slots (events ++ own_at slot point told)
keeps_own s slots events slot point reply None h keep = absurd (none-some reply (sym h))
keeps_own s slots events slot point reply (Some answer) h keep = keep answer (same_reply reply (reply_in s answer) h)
