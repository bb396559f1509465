-- Laws: an event that has ended stays so, with the same record, until it is collected.
use Rattle.std.proofs.Common.{◌≡◌, ℕ, List, [], ◌∷◌, ◌++◌, take, drop, Bool, true, false, not, ◌&&◌, ◌||◌, cond, refl, sym, subst, ap, ◌∙◌, Some, None, ◌⊎◌, inl, inr}
use Rattle.std.specs.List.{list_any}
use Rattle.std.proofs.lemmas.Bool.{true≢false, or_parts}
use Rattle.std.proofs.lemmas.List.{append_assoc, append-nil}
use Rattle.std.proofs.lemmas.List.Folds.{list_any-append}
use Rattle.retry_rules.specs.declared.settings.Settings.{Settings}
use Rattle.invoke_records.specs.declared.command.Command.{Command}
use Rattle.invoke_records.specs.declared.command.Kind.{Kind}
use Rattle.invoke_records.specs.declared.command.Kind.TheVariants.{Accept, Start, Succeed, Fail, Throttle, Interrupt, Expire, Collect, Configure}
use Rattle.invoke_records.specs.declared.command.Cause.TheVariants.{Reported, Timeout, Exited}
use Rattle.invoke_records.specs.declared.row.Standing.{Standing}
use Rattle.invoke_records.specs.declared.row.Standing.TheVariants as standing
use Rattle.async_core.specs.declared.situation.Situation.{Situation}
use Rattle.async_core.specs.Lives.{kind_is_collect, kind_names, names, collects, life, payload_of, answer_of, starts}
use Rattle.async_core.specs.Standings.{rules_with, is_unknown, is_ended, is_running, is_due}
use Rattle.async_core.specs.Checks.{state_checks}
use Rattle.async_core.specs.History.{standing_in, standing_of, rules_of, situation_of, refusal_of, table_of, IsLegal}
use Rattle.async_core.specs.Rules.{row_at}
use Rattle.async_core.specs.Readers.{Ending, ending_by, ending_in, ending_after, ending_at}
use Rattle.async_core.specs.laws.Refusals.{NoneFails, state_passes}
use Rattle.async_core.specs.laws.Lives.{life-snoc}
use Rattle.async_core.specs.laws.Rows.{judged_kept}
use Rattle.async_core.specs.laws.Held.{by_last, named_id, named_kind, IsLegal-front, IsLegal-last}
use Rattle.async_core.specs.laws.Tables.{ending-by_history}
use Rattle.promises.specs.Promises.{GoesOn}
use Rattle.promises.specs.laws.Histories.{since_front}

-- ## Only a Collect is legal of an event that has ended

record Rests (st : Standing) (now : ℕ) : Type 0 where
  pub known : is_unknown st ≡ false
  pub idle : is_running st ≡ false
  pub undue : is_due now st ≡ false

rests : (st : Standing) (now : ℕ) → is_ended st ≡ true → Rests st now
rests standing.Unknown now h = absurd (true≢false (sym h))
rests (standing.Waiting due) now h = absurd (true≢false (sym h))
rests (standing.DueAgain due) now h = absurd (true≢false (sym h))
rests (standing.Running environment deadline) now h = absurd (true≢false (sym h))
rests (standing.Ended outcome at) now h = record { known = refl; idle = refl; undue = refl }

never : {A : Type 0} (b : Bool) → b ≡ false → not b ≡ false → A
never true e h = absurd (true≢false e)
never false e h = absurd (true≢false h)

of_kind : (s : Settings) (x : Situation) (c : Command) (k : Kind) → kind_names k ≡ true → NoneFails (state_checks s x c k) → is_ended x.standing ≡ true → kind_is_collect k ≡ true
of_kind s x c Accept named h ended = never _ (rests x.standing c.time ended).known h.0
of_kind s x c Start named h ended = never _ (rests x.standing c.time ended).undue h.1.0
of_kind s x c Succeed named h ended = never _ (rests x.standing c.time ended).idle h.1.0
of_kind s x c (Fail Reported) named h ended = never _ (rests x.standing c.time ended).idle h.1.0
of_kind s x c (Fail Timeout) named h ended = never _ (rests x.standing c.time ended).idle h.1.0
of_kind s x c (Fail Exited) named h ended = never _ (rests x.standing c.time ended).idle h.1.0
of_kind s x c Throttle named h ended = never _ (rests x.standing c.time ended).undue h.1.0
of_kind s x c Interrupt named h ended = never _ (rests x.standing c.time ended).idle h.1.0
of_kind s x c Expire named h ended =
    absurd (true≢false (sym ended ∙ (or_parts (is_running x.standing) (is_ended x.standing) (or_parts _ _ h.1.0).0).1))
of_kind s x c Collect named h ended = refl
of_kind s x c (Configure policy) named h ended = absurd (true≢false (sym named))

pub only_collected : (s : Settings) (h : List Command) (c : Command) (id : List ℕ) → refusal_of s h c ≡ None → names id c ≡ true → is_ended (standing_in s h id) ≡ true → kind_is_collect c.kind ≡ true
unfolding refusal_of
only_collected s h c id passes named ended =
    of_kind s (situation_of s h c) c c.kind (named_kind id c named) (state_passes s (situation_of s h c) c passes)
    (subst (λ a. is_ended (standing_in s h a) ≡ true) (named_id id c named) ended)

-- ## Its record stays

kept_life : (collecting named : Bool) (l : List Command) (c : Command) → named ≡ false → cond (collecting && named) [] (l ++ cond named (c ∷ []) []) ≡ l
kept_life true true l c e = absurd (true≢false e)
kept_life true false l c e = append-nil l
kept_life false true l c e = absurd (true≢false e)
kept_life false false l c e = append-nil l

same_life : (id : List ℕ) (h : List Command) (c : Command) → names id c ≡ false → life id (h ++ c ∷ []) ≡ life id h
same_life id h c other = life-snoc id h c ∙ kept_life (kind_is_collect c.kind) (names id c) (life id h) c other

pub same_standing : (s : Settings) (h : List Command) (c : Command) (id : List ℕ) → names id c ≡ false → standing_in s (h ++ c ∷ []) id ≡ standing_in s h id
unfolding standing_in
same_standing s h c id other =
    ap (λ p. standing_of (rules_with s p) (life id (h ++ c ∷ []))) (judged_kept s h c id other)
    ∙ ap (standing_of (rules_of s h id)) (same_life id h c other)

ended_by : (id payload : List ℕ) (answer : _) (n : ℕ) (st : Standing) (e : Ending) → ending_by id payload answer n st ≡ Some e → is_ended st ≡ true
ended_by id payload answer n standing.Unknown e h = absurd (cc)
ended_by id payload answer n (standing.Waiting due) e h = absurd (cc)
ended_by id payload answer n (standing.DueAgain due) e h = absurd (cc)
ended_by id payload answer n (standing.Running environment deadline) e h = absurd (cc)
ended_by id payload answer n (standing.Ended outcome at) e h = refl

module _ (s : Settings) (id : List ℕ) (e : Ending) (front : List Command) (told : ending_after s id front ≡ Some e) where
  one_more : (h : List Command) (c : Command) → IsLegal s (h ++ c ∷ []) → collects id c ≡ false → ending_after s id h ≡ Some e → ending_after s id (h ++ c ∷ []) ≡ Some e
  one_more h c legal kept is = by (names id c) refl
    where
      by : (b : Bool) → names id c ≡ b → ending_after s id (h ++ c ∷ []) ≡ Some e
      by false other = ap (λ st. ending_in id (life id (h ++ c ∷ [])) st) (same_standing s h c id other) ∙ ap (λ l. ending_in id l (standing_in s h id)) (same_life id h c other) ∙ is
      by true named =
          absurd (true≢false (sym (rw (only_collected s h c id (IsLegal-last s h c legal) named (ended_by id (payload_of (life id h)) (answer_of (life id h)) (starts (life id h)) (standing_in s h id) e is), named) refl) ∙ kept))

  pub stays_ended : (since : List Command) → IsLegal s (front ++ since) → list_any (collects id) since ≡ false → ending_after s id (front ++ since) ≡ Some e
  stays_ended since = by_last (λ since. IsLegal s (front ++ since) → list_any (collects id) since ≡ false → ending_after s id (front ++ since) ≡ Some e)
      (λ legal none. subst (λ l. ending_after s id l ≡ Some e) (sym (append-nil front)) told)
      (λ since c before legal none.
      let parts = or_parts (list_any (collects id) since) (collects id c || false) (sym (list_any-append (collects id) since (c ∷ [])) ∙ none) in
      let last = or_parts (collects id c) false parts.1 in
      let whole : IsLegal s ((front ++ since) ++ c ∷ []) = subst (λ l. IsLegal s l) (sym (append_assoc front since (c ∷ []))) legal in
      subst (λ l. ending_after s id l ≡ Some e) (append_assoc front since (c ∷ []))
      (one_more (front ++ since) c whole last.0 (before (IsLegal-front s (front ++ since) (c ∷ []) whole) parts.0)))
      since

-- the record of an event that has ended is that of the table of each later history, until a Collect of it comes
pub told_again : (s : Settings) (point : ℕ) (history later : List Command) (id : List ℕ) (e : Ending) → ending_after s id (take point history) ≡ Some e → GoesOn s point history later
    → (ending_at (row_at (table_of s later) id) ≡ Some e) ⊎ (list_any (collects id) (drop point later) ≡ true)
told_again s point history later id e told goes = by (list_any (collects id) (drop point later)) refl
  where
    by : (b : Bool) → list_any (collects id) (drop point later) ≡ b → (ending_at (row_at (table_of s later) id) ≡ Some e) ⊎ (list_any (collects id) (drop point later) ≡ true)
    by true is = inr is
    by false is =
        let whole = since_front s point history later goes in
        inl (ending-by_history s (table_of s later) later id goes.legal refl
        ∙ subst (λ l. ending_after s id l ≡ Some e) whole
        (stays_ended s id e (take point history) told (drop point later) (subst (λ l. IsLegal s l) (sym whole) goes.legal) is))
