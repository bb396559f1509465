-- Lemmas: environments that hold for calls, and one call more.
use Rattle.std.proofs.Common.{◌≡◌, ℕ, zero, suc, ◌+◌, ◌<◌, ◌≤◌, List, [], ◌∷◌, ◌++◌, length, map, Bool, true, false, refl, sym, subst, ap, ◌∙◌, arith, Option, Some, None, ◌⊎◌, inl, inr, get_or, ◌==◌, length-append}
use Rattle.std.specs.Prelude.{slice_get, slice_set, filter, find, flat_map}
use Rattle.std.specs.List.{range_with_len}
use Rattle.std.proofs.lemmas.Bool.{eqb-true, eqb-false, cases_lt}
use Rattle.std.proofs.lemmas.List.{append-nil, map-append, flat_map_more}
use Rattle.std.proofs.lemmas.List.Elements.{filter-append}
use Rattle.std.proofs.lemmas.Option.{slice_get_within, slice_get_read}
use Rattle.env_phase.specs.declared.answer.PollAnswer.{PollAnswer}
use Rattle.env_phase.specs.declared.call.EnvCall.{EnvCall}
use Rattle.env_phase.specs.declared.call.EnvCall.TheVariants.{Shutdown}
use Rattle.env_phase.specs.Polls.{answered_by}
use Rattle.env_phase.specs.State.{EnvState, StandsFor, ForEachList, IsAccepted, Accepts}
use Rattle.hall_plans.specs.Past.{calls_in}
use Rattle.hall_plans.specs.Environments.{AreNumbered, AreWaiting, HoldFor, ForEachMade, ForCallsOf, StandsForMore, numbers, shutdowns, answered_at_end, AreShutDown}
use Rattle.hall_plans.proofs.Places.{get_of_more, get_of_set, first_behind, first_is_here, first_is_later, first_is_none, first_of_all, range_more}

-- ## The calls of one environment

pub calls_in_both : (n : ℕ) (made later : List (ℕ × EnvCall)) → calls_in n (made ++ later) ≡ calls_in n made ++ calls_in n later
calls_in_both n made later =
    ap (map (λ (m : ℕ × EnvCall). m.1)) (filter-append (λ (m : ℕ × EnvCall). m.0 == n) made later)
    ∙ map-append (λ (m : ℕ × EnvCall). m.1) (filter (λ (m : ℕ × EnvCall). m.0 == n) made) (filter (λ (m : ℕ × EnvCall). m.0 == n) later)

same_number : (n : ℕ) → (n == n) ≡ true
same_number n = go (n == n) refl
  where
    go : (b : Bool) → (n == n) ≡ b → b ≡ true
    go true e = refl
    go false e = absurd (eqb-false n n e refl)

other_number : (m n : ℕ) → (m ≡ n → ⊥) → (m == n) ≡ false
other_number m n apart = go (m == n) refl
  where
    go : (b : Bool) → (m == n) ≡ b → b ≡ false
    go true e = absurd (apart (eqb-true m n e))
    go false e = refl

pub its_own_call : (n : ℕ) (call : EnvCall) (later : List (ℕ × EnvCall)) → calls_in n ((n, call) ∷ later) ≡ call ∷ calls_in n later
its_own_call n call later = rw (same_number n) refl

pub call_of_another : (m n : ℕ) (call : EnvCall) (later : List (ℕ × EnvCall)) → (m ≡ n → ⊥) → calls_in n ((m, call) ∷ later) ≡ calls_in n later
call_of_another m n call later apart = rw (other_number m n apart) refl

pub one_call_more : (n : ℕ) (made : List (ℕ × EnvCall)) (call : EnvCall) → calls_in n (made ++ (n, call) ∷ []) ≡ calls_in n made ++ call ∷ []
one_call_more n made call = calls_in_both n made ((n, call) ∷ []) ∙ ap (λ l. calls_in n made ++ l) (its_own_call n call [])

pub no_call_more : (m n : ℕ) (made : List (ℕ × EnvCall)) (call : EnvCall) → (m ≡ n → ⊥) → calls_in n (made ++ (m, call) ∷ []) ≡ calls_in n made
no_call_more m n made call apart =
    calls_in_both n made ((m, call) ∷ []) ∙ ap (λ l. calls_in n made ++ l) (call_of_another m n call [] apart) ∙ append-nil (calls_in n made)

-- ## So many environments

one_more_numbered : (envs : List EnvState) (place : ℕ) (env : EnvState) → length envs ≡ place → AreNumbered envs → env.number ≡ place + 1 → AreNumbered (envs ++ env ∷ [])
one_more_numbered envs place env long numbered number k e here = elim (get_of_more envs env k e here) [
  | inl old ↦ numbered k e old
  | inr both ↦ ap (λ (s : EnvState). s.number) (sym both.1) ∙ number ∙ ap (λ n. n + 1) (sym long ∙ sym both.0)
]

one_more_waits : (wanted : ℕ) (envs : List EnvState) (env : EnvState) → AreWaiting wanted envs → env.wanted ≡ wanted → AreWaiting wanted (envs ++ env ∷ [])
one_more_waits wanted envs env wait waits k e here = elim (get_of_more envs env k e here) [
  | inl old ↦ wait k e old
  | inr both ↦ ap (λ (s : EnvState). s.wanted) (sym both.1) ∙ waits
]

-- one environment more, in which nobody has asked for anything
pub one_more_holds : (wanted : ℕ) (envs : List EnvState) (place : ℕ) (env : EnvState) → length envs ≡ place → HoldFor wanted envs [] → env.number ≡ place + 1 → env.wanted ≡ wanted
    → StandsFor env [] → HoldFor wanted (envs ++ env ∷ []) []
one_more_holds wanted envs place env long hold number waits stands = record {
  numbered = one_more_numbered envs place env long hold.numbered number;
  waits = one_more_waits wanted envs env hold.waits waits;
  stands = λ k e here. elim (get_of_more envs env k e here) [
    | inl old ↦ hold.stands k e old
    | inr both ↦ subst (λ s. StandsFor s []) both.1 stands
  ];
}

-- ## One call more

pub put_numbered : (envs : List EnvState) (place : ℕ) (env : EnvState) → env.number ≡ place + 1 → AreNumbered envs → AreNumbered (slice_set envs place env)
put_numbered envs place env number numbered k e here = elim (get_of_set envs place env k e here) [
  | inl both ↦ ap (λ (s : EnvState). s.number) (sym both.1) ∙ number ∙ ap (λ n. n + 1) (sym both.0)
  | inr both ↦ numbered k e both.1
]

put_waits : (wanted : ℕ) (envs : List EnvState) (place : ℕ) (env : EnvState) → env.wanted ≡ wanted → AreWaiting wanted envs → AreWaiting wanted (slice_set envs place env)
put_waits wanted envs place env waits wait k e here = elim (get_of_set envs place env k e here) [
  | inl both ↦ ap (λ (s : EnvState). s.wanted) (sym both.1) ∙ waits
  | inr both ↦ wait k e both.1
]

-- this environment is put where its number says
pub put_holds : (wanted : ℕ) (envs : List EnvState) (made : List (ℕ × EnvCall)) (place : ℕ) (env : EnvState) (call : EnvCall) → env.number ≡ place + 1
    → HoldFor wanted envs made → StandsForMore wanted env made call → HoldFor wanted (slice_set envs place env) (made ++ (env.number, call) ∷ [])
put_holds wanted envs made place env call number hold stands = record {
  numbered = put_numbered envs place env number hold.numbered;
  waits = put_waits wanted envs place env stands.0 hold.waits;
  stands = λ k e here. elim (get_of_set envs place env k e here) [
    | inl both ↦
        let is : env.number ≡ k + 1 = number ∙ ap (λ n. n + 1) (sym both.0) in
        let more : calls_in (k + 1) (made ++ (env.number, call) ∷ []) ≡ calls_in env.number made ++ call ∷ [] =
        ap (λ n. calls_in n (made ++ (env.number, call) ∷ [])) (sym is) ∙ one_call_more env.number made call in
        subst (StandsFor e) (sym more) (subst (λ s. StandsFor s (calls_in env.number made ++ call ∷ [])) both.1 stands.1)
    | inr both ↦
        subst (StandsFor e) (sym (no_call_more env.number (k + 1) made call (λ same. both.0 (omega arith)))) (hold.stands k e both.1)
  ];
}

-- ## The environment at a place

pub stands_at : (envs items : List EnvState) (i : ℕ) (env : EnvState) → items ≡ envs → i < length items → env ≡ get_or items i env → slice_get envs i ≡ Some env
stands_at envs items i env same within is = ap (λ l. slice_get l i) (sym same) ∙ slice_get_read items (length items) i env refl within is

-- what is so of each list of calls that it stands for
pub so_of_calls : (envs : List EnvState) (i : ℕ) (env : EnvState) (holds : ℕ → List EnvCall → Type 0) → slice_get envs i ≡ Some env → ForEachList env (holds env.wanted)
    → ForEachMade envs (λ wanted made. holds wanted (calls_in (i + 1) made))
so_of_calls envs i env holds here each wanted made hold =
    subst (λ w. holds w (calls_in (i + 1) made)) (hold.waits i env here) (each (calls_in (i + 1) made) (hold.stands i env here))

-- the first that does, by for how many extensions it waits, is none of so many
abbrev pub NotAmong : List EnvState → (ℕ → List EnvCall → Bool) → ℕ → Type 0
NotAmong envs does k =
    ForEachMade envs (λ wanted made.
    first_behind (λ n. does wanted (calls_in n made)) (length envs) 0 ≡ first_behind (λ n. does wanted (calls_in n made)) (length envs) k)

abbrev pub IsFirst : List EnvState → (ℕ → List EnvCall → Bool) → Option ℕ → Type 0
IsFirst envs does number = ForEachMade envs (λ wanted made. number ≡ find (λ n. does wanted (calls_in n made)) (numbers envs))

pub first_does : (envs : List EnvState) (i : ℕ) (env : EnvState) (does : ℕ → List EnvCall → Bool) → slice_get envs i ≡ Some env
    → NotAmong envs does i → ForEachList env (λ calls. true ≡ does env.wanted calls) → IsFirst envs does (Some env.number)
first_does envs i env does here before each wanted made hold =
    let does_here : does wanted (calls_in (i + 1) made) ≡ true = sym (so_of_calls envs i env (λ wanted calls. true ≡ does wanted calls) here each wanted made hold) in
    ap (λ n. Some n) (hold.numbered i env here)
    ∙ sym (first_is_here (λ n. does wanted (calls_in n made)) (length envs) i (slice_get_within envs i env here) does_here)
    ∙ sym (before wanted made hold)
    ∙ first_of_all (λ n. does wanted (calls_in n made)) (length envs)

pub first_does_later : (envs : List EnvState) (i : ℕ) (env : EnvState) (does : ℕ → List EnvCall → Bool) → slice_get envs i ≡ Some env
    → NotAmong envs does i → ForEachList env (λ calls. false ≡ does env.wanted calls) → NotAmong envs does (i + 1)
first_does_later envs i env does here before each wanted made hold =
    let not_here : does wanted (calls_in (i + 1) made) ≡ false = sym (so_of_calls envs i env (λ wanted calls. false ≡ does wanted calls) here each wanted made hold) in
    before wanted made hold ∙ first_is_later (λ n. does wanted (calls_in n made)) (length envs) i (slice_get_within envs i env here) not_here

pub none_does : (envs : List EnvState) (i : ℕ) (does : ℕ → List EnvCall → Bool) → length envs ≤ i → NotAmong envs does i → IsFirst envs does None
none_does envs i does all before wanted made hold =
    sym (first_is_none (λ n. does wanted (calls_in n made)) (length envs) i all)
    ∙ sym (before wanted made hold)
    ∙ first_of_all (λ n. does wanted (calls_in n made)) (length envs)

-- ## The end of all

other_ends : (m n count : ℕ) (now : ℕ) → n < m → calls_in n (shutdowns (range_with_len m count) now) ≡ []
other_ends m n zero now h = refl
other_ends m n (suc count) now h =
    call_of_another m n (Shutdown now) (shutdowns (range_with_len (m + 1) count) now) (λ same. omega arith)
    ∙ other_ends (m + 1) n count now (omega arith)

ends_at : (m n count now : ℕ) → m ≤ n → n < m + suc count → ((k : ℕ) → m + 1 ≤ n → n < (m + 1) + count → calls_in n (shutdowns (range_with_len (m + 1) count) now) ≡ Shutdown now ∷ [])
    → (m ≡ n) ⊎ (m < n) → calls_in n (shutdowns (range_with_len m (suc count)) now) ≡ Shutdown now ∷ []
ends_at m n count now low high later (inl same) =
    subst (λ k. calls_in k (shutdowns (range_with_len m (suc count)) now) ≡ Shutdown now ∷ []) same
    (its_own_call m (Shutdown now) (shutdowns (range_with_len (m + 1) count) now) ∙ ap (λ l. Shutdown now ∷ l) (other_ends (m + 1) m count now (omega arith)))
ends_at m n count now low high later (inr less) =
    call_of_another m n (Shutdown now) (shutdowns (range_with_len (m + 1) count) now) (λ same. omega arith)
    ∙ later 0 (omega arith) (omega arith)

below_or_same : (m n : ℕ) → m ≤ n → (m ≡ n) ⊎ (m < n)
below_or_same m n h = elim (cases_lt m n) [ inl less ↦ inr less | inr ge ↦ inl (omega arith) ]

-- each of these environments is shut down once
pub its_own_end : (m n count now : ℕ) → m ≤ n → n < m + count → calls_in n (shutdowns (range_with_len m count) now) ≡ Shutdown now ∷ []
its_own_end m n zero now low high = absurd (omega arith)
its_own_end m n (suc count) now low high =
    ends_at m n count now low high (λ _ l h. its_own_end (m + 1) n count now l h) (below_or_same m n low)

-- ended so far: as many as this, each the environment at its place after its shutdown
pub record EndedSoFar (envs : List EnvState) (now : ℕ) (ended : List EnvState) (answers : List (ℕ × PollAnswer)) (so_far : ℕ) : Type 0 where
  pub long : length ended ≡ so_far
  pub numbered : AreNumbered ended
  pub waits : ForEachMade envs (λ wanted made. AreWaiting wanted ended)
  pub stands : (k : ℕ) (env : EnvState) → slice_get ended k ≡ Some env → ForCallsOf envs (k + 1) (λ wanted calls. StandsFor env (calls ++ Shutdown now ∷ []))
  pub answered : ForEachMade envs (λ wanted made. answers ≡ answered_at_end made (range_with_len 1 so_far) now)

-- the next one ends
pub one_more_ended : (envs : List EnvState) (now : ℕ) (ended : List EnvState) (answers : List (ℕ × PollAnswer)) (i : ℕ) (env after : EnvState) (told : List (ℕ × PollAnswer))
    → AreNumbered envs → slice_get envs i ≡ Some env → Accepts env (Shutdown now) after told
    → EndedSoFar envs now ended answers i → EndedSoFar envs now (ended ++ after ∷ []) (answers ++ told) (i + 1)
one_more_ended envs now ended answers i env after told numbered here accepts so_far =
    let accepted : ForCallsOf envs (i + 1) (λ wanted calls. IsAccepted calls (Shutdown now) after told) =
    so_of_calls envs i env (λ wanted calls. IsAccepted calls (Shutdown now) after told) here accepts.0 in
    record {
      long = length-append ended (after ∷ []) ∙ ap (λ n. n + 1) so_far.long;
      numbered = one_more_numbered ended i after so_far.long so_far.numbered (accepts.1 ∙ numbered i env here);
      waits = λ wanted made hold. one_more_waits wanted ended after (so_far.waits wanted made hold) (accepts.2 ∙ hold.waits i env here);
      stands = λ k e at. elim (get_of_more ended after k e at) [
        | inl old ↦ so_far.stands k e old
        | inr both ↦ λ wanted made hold.
            subst (λ n. StandsFor e (calls_in (n + 1) made ++ Shutdown now ∷ [])) (sym (both.0 ∙ so_far.long))
            (subst (λ (s : EnvState). StandsFor s (calls_in (i + 1) made ++ Shutdown now ∷ [])) both.1 (accepted wanted made hold).1)
      ];
      answered = λ wanted made hold.
          ap (λ l. answers ++ l) (accepted wanted made hold).2
          ∙ ap (λ l. l ++ answered_by (calls_in (i + 1) made) (Shutdown now)) (so_far.answered wanted made hold)
          ∙ flat_map_more (λ n. answered_by (calls_in n made) (Shutdown now)) [] (range_with_len 1 i) (i + 1)
          ∙ ap (flat_map (λ n. answered_by (calls_in n made) (Shutdown now))) (sym (range_more 1 i (i + 1) (omega arith)));
    }

-- all have ended
pub all_ended : (envs : List EnvState) (now : ℕ) (ended : List EnvState) (answers : List (ℕ × PollAnswer)) → EndedSoFar envs now ended answers (length envs)
    → AreShutDown envs now ended
all_ended envs now ended answers so_far wanted made hold = record {
  numbered = so_far.numbered;
  waits = so_far.waits wanted made hold;
  stands = λ k env here.
      let within : k < length ended = slice_get_within ended k env here in
      let long : length ended ≡ length envs = so_far.long in
      let whole : calls_in (k + 1) (made ++ shutdowns (numbers envs) now) ≡ calls_in (k + 1) made ++ Shutdown now ∷ [] =
      calls_in_both (k + 1) made (shutdowns (numbers envs) now)
      ∙ ap (λ l. calls_in (k + 1) made ++ l) (its_own_end 1 (k + 1) (length envs) now (omega arith) (omega arith)) in
      subst (StandsFor env) (sym whole) (so_far.stands k env here wanted made hold);
}
