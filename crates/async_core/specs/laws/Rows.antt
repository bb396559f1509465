-- Lemmas: the rows of a legal history after one command more.
use Rattle.std.proofs.Common.{◌≡◌, ℕ, ◌+◌, ◌≤◌, List, [], ◌∷◌, ◌++◌, length, Bool, true, false, not, ◌&&◌, cond, if◌then◌else◌, refl, sym, ap, ◌∙◌, arith, filter, map, add-zero, None, subst}
use Rattle.std.specs.Str.{bytes_eq}
use Rattle.std.proofs.lemmas.Bool.{true≢false, ltb-false, or_parts}
use Rattle.std.proofs.lemmas.List.{map-append, append-nil}
use Rattle.retry_rules.specs.Settings.{bad_field, is_outside, is_bad_policy}
use Rattle.retry_rules.specs.declared.policy.RetryPolicy.{RetryPolicy}
use Rattle.retry_rules.specs.declared.settings.Settings.{Settings}
use Rattle.invoke_records.specs.Reading.{no_policy}
use Rattle.invoke_records.specs.declared.command.Command.{Command}
use Rattle.invoke_records.specs.declared.command.Kind.{Kind}
use Rattle.invoke_records.specs.declared.command.Kind.TheVariants.{Accept, Start, Succeed, Fail, Throttle, Interrupt, Expire, Collect, Configure}
use Rattle.invoke_records.specs.declared.row.Outcome.{Outcome}
use Rattle.invoke_records.specs.declared.row.Outcome.TheVariants.{Success, EventAgeExceeded}
use Rattle.invoke_records.specs.declared.row.Standing.TheVariants as standing
use Rattle.invoke_records.specs.declared.row.EventRow.{EventRow}
use Rattle.async_core.specs.Lives.{kind_is_accept, kind_is_start, kind_is_failure, kind_is_push_back, kind_is_collect, kind_names, is_accept, is_start, is_failure, names, accepts, life, has_begun, accepted, payload_of, starts, failures, push_backs, answer_of}
use Rattle.async_core.specs.Standings.{Rules, rules_with, standing_by}
use Rattle.async_core.specs.Policies.{policy_by, in_force, before_acceptance, judged_by}
use Rattle.async_core.specs.History.{held, standing_in, standing_of, rules_of, row_of, refusal_of, situation_of, last_moment, last_number, IsLegal}
use Rattle.async_core.specs.Rules.{one_more, starts_by, failures_by, push_backs_by, accepted_row, row_after, change_row, remove_row, rows_after}
use Rattle.async_core.specs.laws.Lives.{in_force-snoc, in_force-nil, before_acceptance-snoc, before_acceptance-front, life-snoc, life-nil, last_moment-snoc, last_number-snoc, last_or-snoc, held-snoc, count_by-cons, count_by-snoc, push_backs-snoc, answer_of-snoc}
use Rattle.async_core.specs.laws.Refusals.{NoneFails, shape_passes, clock_passes, state_passes}
use Rattle.async_core.specs.Checks.{shape_checks}
use Rattle.async_core.specs.laws.Shapes.{limits}
use Rattle.async_core.specs.laws.Pace.{Paced, Paced-later, runs_failing, paced_start, paced_throttle, paced_interrupt, paced_failure}
use Rattle.async_core.specs.laws.Held.{times_held, size, is_nil, bytes_eq-refl, bytes_eq-sym, named_id, named_kind, unnamed, named_by, IsLegal-take, held_once, nil_before, legally}

pub times_held-cons : (id : List ℕ) (e : ℕ × List ℕ) (events : List (ℕ × List ℕ)) (b : Bool) → bytes_eq id e.1 ≡ b → times_held id (e ∷ events) ≡ cond b 1 0 + times_held id events
times_held-cons id e events b same = count_by-cons (λ (e : ℕ × List ℕ). bytes_eq id e.1) e events ∙ ap (λ v. cond v 1 0 + times_held id events) same

-- ## The rows after a command

kept_life : (collecting named : Bool) (l : List Command) (c : Command) → named ≡ false → cond (collecting && named) [] (l ++ cond named (c ∷ []) []) ≡ l
kept_life true true l c e = absurd (true≢false e)
kept_life true false l c e = append-nil l
kept_life false true l c e = absurd (true≢false e)
kept_life false false l c e = append-nil l

-- ## By what an event is judged

-- this policy, where the life has begun
abbrev where_begun : List Command → RetryPolicy → RetryPolicy
where_begun l policy = if has_begun l then policy else no_policy

judged_by-snoc : (s : Settings) (h : List Command) (c : Command) (id : List ℕ) → judged_by s (h ++ c ∷ []) id ≡ where_begun (life id (h ++ c ∷ [])) (cond (accepts id c) (in_force s h) (in_force s (before_acceptance id h)))
unfolding judged_by
judged_by-snoc s h c id = ap (λ l. where_begun (life id (h ++ c ∷ [])) (in_force s l)) (before_acceptance-snoc id h c) ∙ ap (where_begun (life id (h ++ c ∷ []))) (by_test (accepts id c))
  where
    by_test : (b : Bool) → in_force s (cond b h (before_acceptance id h)) ≡ cond b (in_force s h) (in_force s (before_acceptance id h))
    by_test true = refl
    by_test false = refl

begun_on : (l more : List Command) (p : RetryPolicy) → is_nil l ≡ false → where_begun (l ++ more) p ≡ where_begun l p
begun_on [] more p h = absurd (true≢false h)
begun_on (x ∷ l) more p h = refl

no_accept : (a named : Bool) → named ≡ false → (a && named) ≡ false
no_accept true named h = h
no_accept false named h = refl

module _ (s : Settings) (h : List Command) (c : Command) (id : List ℕ) where
  -- an event that the command does not name is judged as before
  pub judged_kept : names id c ≡ false → judged_by s (h ++ c ∷ []) id ≡ judged_by s h id
  unfolding judged_by
  judged_kept other =
      judged_by-snoc s h c id
      ∙ rw (no_accept (is_accept c) (names id c) other) refl
      ∙ ap (λ l. where_begun l (in_force s (before_acceptance id h))) (life-snoc id h c ∙ kept_life (kind_is_collect c.kind) (names id c) (life id h) c other)

  -- and so is one that is held, after another command that leaves it held
  judged_named : is_accept c ≡ false → kind_is_collect c.kind ≡ false → names id c ≡ true → is_nil (life id h) ≡ false → judged_by s (h ++ c ∷ []) id ≡ judged_by s h id
  unfolding judged_by
  judged_named known stays named some =
      judged_by-snoc s h c id
      ∙ rw (known) refl
      ∙ ap (λ l. where_begun l (in_force s (before_acceptance id h))) (life-snoc id h c ∙ rw (stays, named) refl)
      ∙ begun_on (life id h) (c ∷ []) (in_force s (before_acceptance id h)) some

  -- one that is accepted is judged by what is in force
  judged_new : is_accept c ≡ true → names id c ≡ true → life id (h ++ c ∷ []) ≡ c ∷ [] → judged_by s (h ++ c ∷ []) id ≡ in_force s h
  judged_new new named grown = judged_by-snoc s h c id ∙ rw (new, named, grown) refl

-- what is in force after a legal history is within its ranges
good_after : (s : Settings) (h : List Command) (c : Command) → refusal_of s h c ≡ None → is_bad_policy (in_force s h) ≡ false → is_bad_policy (policy_by (in_force s h) c.kind) ≡ false
unfolding refusal_of
good_after s h c passes before = by_kind c.kind (shape_passes s (situation_of s h c) c passes)
  where
    by_kind : (k : Kind) → NoneFails (shape_checks s c k) → is_bad_policy (policy_by (in_force s h) k) ≡ false
    by_kind (Configure policy) fits = fits.1.1.1.1.0
    by_kind Accept fits = before
    by_kind Start fits = before
    by_kind Succeed fits = before
    by_kind (Fail cause) fits = before
    by_kind Throttle fits = before
    by_kind Interrupt fits = before
    by_kind Expire fits = before
    by_kind Collect fits = before

pub in_force_good : (s : Settings) (h : List Command) → bad_field s ≡ None → IsLegal s h → is_bad_policy (in_force s h) ≡ false
in_force_good s h good legal =
    legally s (λ h. is_bad_policy (in_force s h) ≡ false) (rw (in_force-nil s) (limits s good).policy) (λ h c _ passes before. rw (in_force-snoc s h c) (good_after s h c passes before)) h legal

young : (policy : RetryPolicy) → is_bad_policy policy ≡ false → policy.age ≤ 21600
young policy good = ltb-false _ _ (or_parts _ _ (or_parts (is_outside 0 2 policy.retries) (is_outside 60 21600 policy.age) good).1).1

young_where_begun : (l : List Command) (policy : RetryPolicy) → policy.age ≤ 21600 → (where_begun l policy).age ≤ 21600
young_where_begun [] policy le = omega arith
young_where_begun (c ∷ l) policy le = le

judged_young : (s : Settings) (h : List Command) → bad_field s ≡ None → IsLegal s h → (id : List ℕ) → (judged_by s h id).age ≤ 21600
unfolding judged_by
judged_young s h good legal id =
    let front = before_acceptance id h in
    let legal_front : IsLegal s front = subst (λ l. IsLegal s l) (sym (before_acceptance-front id h)) (IsLegal-take s h (length front) legal) in
    young_where_begun (life id h) (in_force s front) (young (in_force s front) (in_force_good s front good legal_front))

-- the row of an event, by its life, its last command's number and its policy
row_by : Settings → RetryPolicy → ℕ × List ℕ → List Command → ℕ → EventRow
row_by s policy event l last = record {
  id = event.1;
  accepted = accepted l;
  number = event.0;
  last_number = last;
  standing = standing_of (rules_with s policy) l;
  starts = starts l;
  failures = failures l;
  push_backs = push_backs l;
  policy = policy;
  payload = payload_of l;
  answer = answer_of l;
}

row_of-by : (s : Settings) (h : List Command) (e : ℕ × List ℕ) → row_of s h e ≡ row_by s (judged_by s h e.1) e (life e.1 h) (last_number e.1 h)
unfolding standing_in row_by
row_of-by s h e = refl

not_named : (id : List ℕ) (c : Command) → bytes_eq c.id id ≡ false → names id c ≡ false
not_named id c apart = unnamed id c (bytes_eq-sym id c.id ∙ apart)

is_named : (id : List ℕ) (c : Command) → kind_names c.kind ≡ true → bytes_eq c.id id ≡ true → names id c ≡ true
is_named id c event same = named_by id c event (bytes_eq-sym id c.id ∙ same)

module _ (s : Settings) (h : List Command) (c : Command) where
  -- an event that the command does not name keeps its row
  row_of-kept : (e : ℕ × List ℕ) → names e.1 c ≡ false → row_of s (h ++ c ∷ []) e ≡ row_of s h e
  row_of-kept e other =
      row_of-by s (h ++ c ∷ []) e
      ∙ ap (λ p. row_by s p e (life e.1 (h ++ c ∷ [])) (last_number e.1 (h ++ c ∷ []))) (judged_kept s h c e.1 other)
      ∙ ap (λ l. row_by s (judged_by s h e.1) e l (last_number e.1 (h ++ c ∷ []))) (life-snoc e.1 h c ∙ kept_life (kind_is_collect c.kind) (names e.1 c) (life e.1 h) c other)
      ∙ ap (row_by s (judged_by s h e.1) e (life e.1 h)) (last_number-snoc e.1 h c ∙ ap (λ b. cond b (length h + 1) (last_number e.1 h)) other)
      ∙ sym (row_of-by s h e)

  kept_here : (b : Bool) (e : ℕ × List ℕ) (events : List (ℕ × List ℕ)) → bytes_eq c.id e.1 ≡ b
      → (times_held c.id events ≡ 0 → map (row_of s (h ++ c ∷ [])) events ≡ map (row_of s h) events)
      → times_held c.id (e ∷ events) ≡ 0 → map (row_of s (h ++ c ∷ [])) (e ∷ events) ≡ map (row_of s h) (e ∷ events)
  kept_here true e events same kept never = absurd (omega (arith, times_held-cons c.id e events true same))
  kept_here false e events same kept never =
      rw (row_of-kept e (not_named e.1 c same), kept (omega (arith, times_held-cons c.id e events false same))) refl

  -- a command that names none leaves all rows
  rows_left : kind_names c.kind ≡ false → (events : List (ℕ × List ℕ)) → map (row_of s (h ++ c ∷ [])) events ≡ map (row_of s h) events
  rows_left none [] = refl
  rows_left none (e ∷ events) = rw (row_of-kept e (rw none refl), rows_left none events) refl

  rows_kept : (events : List (ℕ × List ℕ)) → times_held c.id events ≡ 0 → map (row_of s (h ++ c ∷ [])) events ≡ map (row_of s h) events
  rows_kept [] never = refl
  rows_kept (e ∷ events) never = kept_here (bytes_eq c.id e.1) e events refl (rows_kept events) never

-- ## The row of an event that a command names

accepted-snoc : (l : List Command) (c : Command) → is_nil l ≡ false → accepted (l ++ c ∷ []) ≡ accepted l
accepted-snoc [] c h = absurd (true≢false h)
accepted-snoc (x ∷ l) c h = refl

payload_of-snoc : (l : List Command) (c : Command) → is_nil l ≡ false → payload_of (l ++ c ∷ []) ≡ payload_of l
payload_of-snoc [] c h = absurd (true≢false h)
payload_of-snoc (x ∷ l) c h = refl

one_more-below : (n : ℕ) → n ≤ 21600 → one_more n ≡ n + 1
one_more-below n le = omega arith

starts_by-is : (k : Kind) (n : ℕ) → n ≤ 21600 → n + cond (kind_is_start k) 1 0 ≡ starts_by k n
starts_by-is Accept n le = omega arith
starts_by-is Start n le = sym (one_more-below n le)
starts_by-is Succeed n le = omega arith
starts_by-is (Fail cause) n le = omega arith
starts_by-is Throttle n le = omega arith
starts_by-is Interrupt n le = omega arith
starts_by-is Expire n le = omega arith
starts_by-is Collect n le = omega arith
starts_by-is (Configure policy) n le = omega arith

failures_by-is : (k : Kind) (n : ℕ) → n ≤ 21600 → n + cond (kind_is_failure k) 1 0 ≡ failures_by k n
failures_by-is Accept n le = omega arith
failures_by-is Start n le = omega arith
failures_by-is Succeed n le = omega arith
failures_by-is (Fail cause) n le = sym (one_more-below n le)
failures_by-is Throttle n le = omega arith
failures_by-is Interrupt n le = omega arith
failures_by-is Expire n le = omega arith
failures_by-is Collect n le = omega arith
failures_by-is (Configure policy) n le = omega arith

push_backs_by-is : (k : Kind) (n : ℕ) → n ≤ 21600 → cond (kind_is_failure k) 0 (n + cond (kind_is_push_back k) 1 0) ≡ push_backs_by k n
push_backs_by-is Accept n le = omega arith
push_backs_by-is Start n le = omega arith
push_backs_by-is Succeed n le = omega arith
push_backs_by-is (Fail cause) n le = refl
push_backs_by-is Throttle n le = sym (one_more-below n le)
push_backs_by-is Interrupt n le = sym (one_more-below n le)
push_backs_by-is Expire n le = omega arith
push_backs_by-is Collect n le = omega arith
push_backs_by-is (Configure policy) n le = omega arith

-- few of each
record Few (l : List Command) : Type 0 where
  pub few_starts : starts l ≤ 21600
  pub few_failures : failures l ≤ 21600
  pub few_push_backs : push_backs l ≤ 21600

standing_of-snoc : (rules : Rules) (l : List Command) (c : Command) → standing_of rules (l ++ c ∷ []) ≡ standing_by rules (failures (l ++ c ∷ [])) (push_backs (l ++ c ∷ [])) c c.kind
standing_of-snoc rules l c = rw (last_or-snoc None l c) refl

row_by-snoc : (s : Settings) (policy : RetryPolicy) (e : ℕ × List ℕ) (l : List Command) (c : Command) (last n : ℕ) → is_nil l ≡ false → Few l → row_by s policy e (l ++ c ∷ []) n ≡ row_after s n c c.kind (row_by s policy e l last)
unfolding row_by
row_by-snoc s policy e l c last n known few =
    let a : starts (l ++ c ∷ []) ≡ starts_by c.kind (starts l) = count_by-snoc is_start l c ∙ starts_by-is c.kind (starts l) few.few_starts in
    let b : failures (l ++ c ∷ []) ≡ failures_by c.kind (failures l) = count_by-snoc is_failure l c ∙ failures_by-is c.kind (failures l) few.few_failures in
    let d : push_backs (l ++ c ∷ []) ≡ push_backs_by c.kind (push_backs l) = push_backs-snoc l c ∙ push_backs_by-is c.kind (push_backs l) few.few_push_backs in
    rw (standing_of-snoc (rules_with s policy) l c, accepted-snoc l c known, payload_of-snoc l c known, answer_of-snoc l c, a, b, d) refl

-- ## The counters stay small

abbrev PacedLife : Rules → ℕ → List Command → Type 0
PacedLife rules last l = Paced rules last (accepted l) (starts l) (failures l) (push_backs l) (standing_of rules l)

paced_nil : (rules : Rules) (last : ℕ) → PacedLife rules last []
paced_nil rules last = record { starts_bound = omega arith; push_backs_bound = omega arith; failures_bound = omega arith; pace = tt }

paced_accept : (rules : Rules) (c : Command) → c.kind ≡ Accept → PacedLife rules c.time (c ∷ [])
paced_accept rules c is = rw is record { starts_bound = omega arith; push_backs_bound = omega arith; failures_bound = omega arith; pace = (omega arith, omega arith) }

paced_snoc : (rules : Rules) (l : List Command) (c : Command) → is_nil l ≡ false
    → Paced rules c.time (accepted l) (starts l + cond (kind_is_start c.kind) 1 0) (failures l + cond (kind_is_failure c.kind) 1 0) (cond (kind_is_failure c.kind) 0 (push_backs l + cond (kind_is_push_back c.kind) 1 0))
    (standing_by rules (failures l + cond (kind_is_failure c.kind) 1 0) (cond (kind_is_failure c.kind) 0 (push_backs l + cond (kind_is_push_back c.kind) 1 0)) c c.kind)
    → PacedLife rules c.time (l ++ c ∷ [])
paced_snoc rules l c known p = rw (standing_of-snoc rules l c, accepted-snoc l c known, count_by-snoc is_start l c, count_by-snoc is_failure l c, push_backs-snoc l c) p

-- a command by its fields
abbrev pub command : Kind → List ℕ → ℕ → ℕ → List ℕ → Command
command kind id environment time bytes = record { kind = kind; id = id; environment = environment; time = time; bytes = bytes }

nil_is : (l : List Command) → is_nil l ≡ true → l ≡ []
nil_is [] h = refl
nil_is (x ∷ l) h = absurd (true≢false (sym h))

ended_pace : (rules : Rules) (h : List Command) (c : Command) (l : List Command) → PacedLife rules (last_moment h) l → (outcome : Outcome) → Paced rules c.time (accepted l) (starts l) (failures l) (push_backs l) (standing.Ended outcome c.time)
ended_pace rules h c l p outcome = record { starts_bound = p.starts_bound; push_backs_bound = p.push_backs_bound; failures_bound = p.failures_bound; pace = tt }

module _ (s : Settings) (h : List Command) (id : List ℕ) (environment time : ℕ) (bytes : List ℕ) where
  -- by the rules of its life before, where the command accepts no event
  paced_named : (k : Kind) → kind_is_accept k ≡ false → kind_is_collect k ≡ false → kind_names k ≡ true → refusal_of s h (command k id environment time bytes) ≡ None → PacedLife (rules_of s h id) (last_moment h) (life id h)
      → PacedLife (rules_of s h id) time (life id h ++ command k id environment time bytes ∷ [])
  unfolding refusal_of standing_in
  paced_named Collect known stays event passes p = absurd (true≢false stays)
  paced_named Accept known stays event passes p = absurd (true≢false known)
  paced_named (Configure policy) known stays event passes p = absurd (true≢false (sym event))
  paced_named Start known stays event passes p =
      let c = command Start id environment time bytes in
      let l = life id h in
      paced_snoc (rules_of s h id) l c (nil_before s h c passes id (bytes_eq-refl id))
      (rw (add-zero (failures l), add-zero (push_backs l)) (paced_start s (rules_of s h id) (situation_of s h c) c (accepted l) (starts l) (failures l) (push_backs l) refl (clock_passes s (situation_of s h c) c passes) p (state_passes s (situation_of s h c) c passes)))
  paced_named Succeed known stays event passes p =
      let c = command Succeed id environment time bytes in
      let l = life id h in
      paced_snoc (rules_of s h id) l c (nil_before s h c passes id (bytes_eq-refl id))
      (rw (add-zero (starts l), add-zero (failures l), add-zero (push_backs l)) (ended_pace (rules_of s h id) h c l p Success))
  paced_named Expire known stays event passes p =
      let c = command Expire id environment time bytes in
      let l = life id h in
      paced_snoc (rules_of s h id) l c (nil_before s h c passes id (bytes_eq-refl id))
      (rw (add-zero (starts l), add-zero (failures l), add-zero (push_backs l)) (ended_pace (rules_of s h id) h c l p EventAgeExceeded))
  paced_named Throttle known stays event passes p =
      let c = command Throttle id environment time bytes in
      let l = life id h in
      paced_snoc (rules_of s h id) l c (nil_before s h c passes id (bytes_eq-refl id))
      (rw (add-zero (starts l), add-zero (failures l)) (paced_throttle s (rules_of s h id) (situation_of s h c) c (accepted l) (starts l) (failures l) (push_backs l) refl (clock_passes s (situation_of s h c) c passes) p (state_passes s (situation_of s h c) c passes)))
  paced_named Interrupt known stays event passes p =
      let c = command Interrupt id environment time bytes in
      let l = life id h in
      paced_snoc (rules_of s h id) l c (nil_before s h c passes id (bytes_eq-refl id))
      (rw (add-zero (starts l), add-zero (failures l)) (paced_interrupt s (rules_of s h id) (situation_of s h c) c (accepted l) (starts l) (failures l) (push_backs l) refl (clock_passes s (situation_of s h c) c passes) p (state_passes s (situation_of s h c) c passes)))
  paced_named (Fail cause) known stays event passes p =
      let c = command (Fail cause) id environment time bytes in
      let l = life id h in
      paced_snoc (rules_of s h id) l c (nil_before s h c passes id (bytes_eq-refl id))
      (rw (add-zero (starts l)) (paced_failure s (rules_of s h id) (situation_of s h c) c (accepted l) (starts l) (failures l) (push_backs l) refl (clock_passes s (situation_of s h c) c passes) p cause (runs_failing s (situation_of s h c) c cause (state_passes s (situation_of s h c) c passes))))

-- by the rules of its life after any command
module _ (s : Settings) (h : List Command) (c : Command) (id : List ℕ) (passes : refusal_of s h c ≡ None) (p : PacedLife (rules_of s h id) (last_moment h) (life id h)) where
  abbrev after_is : List Command → RetryPolicy → Type 0
  after_is l policy = PacedLife (rules_with s policy) c.time l

  paced_other : names id c ≡ false → PacedLife (rules_of s (h ++ c ∷ []) id) c.time (life id (h ++ c ∷ []))
  unfolding refusal_of
  paced_other other =
      let clock = clock_passes s (situation_of s h c) c passes in
      let l = life id h in
      rw (judged_kept s h c id other, life-snoc id h c ∙ kept_life (kind_is_collect c.kind) (names id c) l c other)
      (Paced-later (rules_of s h id) (last_moment h) c.time (accepted l) (starts l) (failures l) (push_backs l) (standing_of (rules_of s h id) l) clock p)

  paced_collected : kind_is_collect c.kind ≡ true → names id c ≡ true → PacedLife (rules_of s (h ++ c ∷ []) id) c.time (life id (h ++ c ∷ []))
  paced_collected goes named =
      let gone : life id (h ++ c ∷ []) ≡ [] = life-snoc id h c ∙ rw (goes, named) refl in
      rw gone (paced_nil (rules_of s (h ++ c ∷ []) id) c.time)

  paced_new : c.kind ≡ Accept → names id c ≡ true → PacedLife (rules_of s (h ++ c ∷ []) id) c.time (life id (h ++ c ∷ []))
  paced_new is named =
      let none : life id h ≡ [] = nil_is (life id h) (nil_before s h c passes id named ∙ ap kind_is_accept is) in
      let stays : kind_is_collect c.kind ≡ false = ap kind_is_collect is in
      let grown : life id (h ++ c ∷ []) ≡ c ∷ [] = life-snoc id h c ∙ rw (stays, named, none) refl in
      rw grown (paced_accept (rules_of s (h ++ c ∷ []) id) c is)

  paced_more : is_accept c ≡ false → kind_is_collect c.kind ≡ false → names id c ≡ true → PacedLife (rules_of s (h ++ c ∷ []) id) c.time (life id (h ++ c ∷ []))
  paced_more known stays named =
      let same : id ≡ c.id = named_id id c named in
      let some : is_nil (life id h) ≡ false = nil_before s h c passes id named ∙ known in
      let grown : life id (h ++ c ∷ []) ≡ life id h ++ c ∷ [] = life-snoc id h c ∙ rw (stays, named) refl in
      rw (judged_named s h c id known stays named some, grown)
      (subst (λ a. PacedLife (rules_of s h a) c.time (life a h ++ c ∷ [])) (sym same)
      (paced_named s h c.id c.environment c.time c.bytes c.kind known stays (named_kind id c named) passes (subst (λ a. PacedLife (rules_of s h a) (last_moment h) (life a h)) same p)))

  paced_by_kind : (k : Kind) → c.kind ≡ k → names id c ≡ true → PacedLife (rules_of s (h ++ c ∷ []) id) c.time (life id (h ++ c ∷ []))
  paced_by_kind Accept is named = paced_new is named
  paced_by_kind Collect is named = paced_collected (ap kind_is_collect is) named
  paced_by_kind Start is named = paced_more (ap kind_is_accept is) (ap kind_is_collect is) named
  paced_by_kind Succeed is named = paced_more (ap kind_is_accept is) (ap kind_is_collect is) named
  paced_by_kind (Fail cause) is named = paced_more (ap kind_is_accept is) (ap kind_is_collect is) named
  paced_by_kind Throttle is named = paced_more (ap kind_is_accept is) (ap kind_is_collect is) named
  paced_by_kind Interrupt is named = paced_more (ap kind_is_accept is) (ap kind_is_collect is) named
  paced_by_kind Expire is named = paced_more (ap kind_is_accept is) (ap kind_is_collect is) named
  paced_by_kind (Configure policy) is named = absurd (true≢false (sym (named_kind id c named) ∙ ap kind_names is))

  paced_by : (named : Bool) → names id c ≡ named → PacedLife (rules_of s (h ++ c ∷ []) id) c.time (life id (h ++ c ∷ []))
  paced_by true is = paced_by_kind c.kind refl is
  paced_by false is = paced_other is

paced : (s : Settings) (h : List Command) → IsLegal s h → (id : List ℕ) → PacedLife (rules_of s h id) (last_moment h) (life id h)
paced s h legal id = legally s (λ h. PacedLife (rules_of s h id) (last_moment h) (life id h)) (rw life-nil (paced_nil (rules_of s [] id) 0))
    (λ h c _ passes before. rw (last_moment-snoc h c) (paced_by s h c id passes before (names id c) refl)) h legal

few : (s : Settings) (h : List Command) → bad_field s ≡ None → IsLegal s h → (id : List ℕ) → Few (life id h)
few s h good legal id =
    let p = paced s h legal id in
    let most : (judged_by s h id).age ≤ 21600 = judged_young s h good legal id in
    let a : starts (life id h) ≤ (judged_by s h id).age = p.starts_bound in
    let b : failures (life id h) ≤ starts (life id h) = p.failures_bound in
    let d : push_backs (life id h) ≤ (judged_by s h id).age = p.push_backs_bound in
    record { few_starts = omega arith; few_failures = omega arith; few_push_backs = omega arith }

filter_all : {X : Type 0} (xs : List X) → filter (λ x. true) xs ≡ xs
filter_all [] = refl
filter_all (x ∷ xs) = ap (λ ys. x ∷ ys) (filter_all xs)

module _ (s : Settings) (h : List Command) (legal : IsLegal s h) (id : List ℕ) (environment time : ℕ) (bytes : List ℕ) where
  -- the rows after an Accept
  rows_accepted : refusal_of s h (command Accept id environment time bytes) ≡ None
      → map (row_of s h) (held h) ++ accepted_row (in_force s h) (length h + 1) (command Accept id environment time bytes) ∷ [] ≡ map (row_of s (h ++ command Accept id environment time bytes ∷ [])) (held (h ++ command Accept id environment time bytes ∷ []))
  unfolding row_by
  rows_accepted passes =
      let c = command Accept id environment time bytes in
      let none : life id h ≡ [] = nil_is (life id h) (nil_before s h c passes id (bytes_eq-refl id)) in
      let never : times_held id (held h) ≡ 0 = held_once s h legal id ∙ ap size none in
      let grown : life id (h ++ c ∷ []) ≡ c ∷ [] = life-snoc id h c ∙ rw (bytes_eq-refl id, none) refl in
      let last : last_number id (h ++ c ∷ []) ≡ length h + 1 = last_number-snoc id h c ∙ rw (bytes_eq-refl id) refl in
      let row : row_of s (h ++ c ∷ []) (length h + 1, id) ≡ accepted_row (in_force s h) (length h + 1) c = row_of-by s (h ++ c ∷ []) (length h + 1, id) ∙ rw (judged_new s h c id refl (bytes_eq-refl id) grown, grown, last) refl in
      sym (ap (map (row_of s (h ++ c ∷ []))) (held-snoc h c ∙ ap (λ events. events ++ (length h + 1, id) ∷ []) (filter_all (held h)))
      ∙ map-append (row_of s (h ++ c ∷ [])) (held h) ((length h + 1, id) ∷ [])
      ∙ rw (rows_kept s h c (held h) never, row) refl)

-- ## The rows after any command

module _ (s : Settings) (h : List Command) (good : bad_field s ≡ None) (legal : IsLegal s h) (c : Command) (passes : refusal_of s h c ≡ None) (event : kind_names c.kind ≡ true) (known : is_accept c ≡ false) (stays : kind_is_collect c.kind ≡ false) where
  -- the row of an event that the command names
  row_of-named : (e : ℕ × List ℕ) → names e.1 c ≡ true → row_of s (h ++ c ∷ []) e ≡ row_after s (length h + 1) c c.kind (row_of s h e)
  row_of-named e named =
      let grown : life e.1 (h ++ c ∷ []) ≡ life e.1 h ++ c ∷ [] = life-snoc e.1 h c ∙ rw (stays, named) refl in
      let last : last_number e.1 (h ++ c ∷ []) ≡ length h + 1 = last_number-snoc e.1 h c ∙ rw named refl in
      let some : is_nil (life e.1 h) ≡ false = nil_before s h c passes e.1 named ∙ known in
      let policy = judged_by s h e.1 in
      row_of-by s (h ++ c ∷ []) e
      ∙ ap (λ p. row_by s p e (life e.1 (h ++ c ∷ [])) (last_number e.1 (h ++ c ∷ []))) (judged_named s h c e.1 known stays named some)
      ∙ ap (λ l. row_by s policy e l (last_number e.1 (h ++ c ∷ []))) grown
      ∙ ap (row_by s policy e (life e.1 h ++ c ∷ [])) last
      ∙ row_by-snoc s policy e (life e.1 h) c (last_number e.1 h) (length h + 1) (nil_before s h c passes e.1 named ∙ known) (few s h good legal e.1)
      ∙ ap (row_after s (length h + 1) c c.kind) (sym (row_of-by s h e))

  change_here : (b : Bool) (e : ℕ × List ℕ) (events : List (ℕ × List ℕ)) → bytes_eq c.id e.1 ≡ b
      → (times_held c.id events ≤ 1 → change_row c.id (row_after s (length h + 1) c c.kind) (map (row_of s h) events) ≡ map (row_of s (h ++ c ∷ [])) events)
      → times_held c.id (e ∷ events) ≤ 1
      → cond b (row_after s (length h + 1) c c.kind (row_of s h e) ∷ map (row_of s h) events) (row_of s h e ∷ change_row c.id (row_after s (length h + 1) c c.kind) (map (row_of s h) events)) ≡ map (row_of s (h ++ c ∷ [])) (e ∷ events)
  change_here true e events same rest once =
      rw (row_of-named e (is_named e.1 c event same), rows_kept s h c events (omega (arith, times_held-cons c.id e events true same))) refl
  change_here false e events same rest once =
      rw (row_of-kept s h c e (not_named e.1 c same), rest (omega (arith, times_held-cons c.id e events false same))) refl

  rows_changed : (events : List (ℕ × List ℕ)) → times_held c.id events ≤ 1 → change_row c.id (row_after s (length h + 1) c c.kind) (map (row_of s h) events) ≡ map (row_of s (h ++ c ∷ [])) events
  rows_changed [] once = refl
  rows_changed (e ∷ events) once = change_here (bytes_eq c.id e.1) e events refl (rows_changed events) once

module _ (s : Settings) (h : List Command) (c : Command) (event : kind_names c.kind ≡ true) where
  others_here : (b : Bool) (e : ℕ × List ℕ) (events : List (ℕ × List ℕ)) → bytes_eq c.id e.1 ≡ b
      → (times_held c.id events ≡ 0 → filter (λ (e : ℕ × List ℕ). not (names e.1 c)) events ≡ events)
      → times_held c.id (e ∷ events) ≡ 0 → filter (λ (e : ℕ × List ℕ). not (names e.1 c)) (e ∷ events) ≡ e ∷ events
  others_here true e events same rest never = absurd (omega (arith, times_held-cons c.id e events true same))
  others_here false e events same rest never =
      let other : names e.1 c ≡ false = not_named e.1 c same in
      rw (other, rest (omega (arith, times_held-cons c.id e events false same))) refl

  others_kept : (events : List (ℕ × List ℕ)) → times_held c.id events ≡ 0 → filter (λ (e : ℕ × List ℕ). not (names e.1 c)) events ≡ events
  others_kept [] never = refl
  others_kept (e ∷ events) never = others_here (bytes_eq c.id e.1) e events refl (others_kept events) never

  remove_here : (b : Bool) (e : ℕ × List ℕ) (events : List (ℕ × List ℕ)) → bytes_eq c.id e.1 ≡ b
      → (times_held c.id events ≤ 1 → remove_row c.id (map (row_of s h) events) ≡ map (row_of s (h ++ c ∷ [])) (filter (λ (e : ℕ × List ℕ). not (names e.1 c)) events))
      → times_held c.id (e ∷ events) ≤ 1
      → cond b (map (row_of s h) events) (row_of s h e ∷ remove_row c.id (map (row_of s h) events)) ≡ map (row_of s (h ++ c ∷ [])) (filter (λ (e : ℕ × List ℕ). not (names e.1 c)) (e ∷ events))
  remove_here true e events same rest once =
      let named : names e.1 c ≡ true = is_named e.1 c event same in
      let never : times_held c.id events ≡ 0 = omega (arith, times_held-cons c.id e events true same) in
      rw (named, others_kept events never, rows_kept s h c events never) refl
  remove_here false e events same rest once =
      let other : names e.1 c ≡ false = not_named e.1 c same in
      rw (other, row_of-kept s h c e other, rest (omega (arith, times_held-cons c.id e events false same))) refl

  rows_removed : (events : List (ℕ × List ℕ)) → times_held c.id events ≤ 1 → remove_row c.id (map (row_of s h) events) ≡ map (row_of s (h ++ c ∷ [])) (filter (λ (e : ℕ × List ℕ). not (names e.1 c)) events)
  rows_removed [] once = refl
  rows_removed (e ∷ events) once = remove_here (bytes_eq c.id e.1) e events refl (rows_removed events) once

size-le : (l : List Command) → size l ≤ 1
size-le [] = omega arith
size-le (x ∷ l) = omega arith

at_most_once : (s : Settings) (h : List Command) → IsLegal s h → (id : List ℕ) → times_held id (held h) ≤ 1
at_most_once s h legal id = omega (arith, held_once s h legal id, size-le (life id h))

module _ (s : Settings) (h : List Command) (good : bad_field s ≡ None) (legal : IsLegal s h) (id : List ℕ) (environment time : ℕ) (bytes : List ℕ) where
  -- the rows after a command that changes one
  rows_of_change : (k : Kind) → refusal_of s h (command k id environment time bytes) ≡ None → kind_names k ≡ true → kind_is_accept k ≡ false → kind_is_collect k ≡ false
      → change_row id (row_after s (length h + 1) (command k id environment time bytes) k) (map (row_of s h) (held h)) ≡ map (row_of s (h ++ command k id environment time bytes ∷ [])) (held (h ++ command k id environment time bytes ∷ []))
  rows_of_change k passes event known stays =
      let c = command k id environment time bytes in
      let same : held (h ++ c ∷ []) ≡ held h = held-snoc h c ∙ rw (known, stays) (append-nil _ ∙ filter_all (held h)) in
      rows_changed s h good legal c passes event known stays (held h) (at_most_once s h legal id) ∙ ap (map (row_of s (h ++ c ∷ []))) (sym same)

  rows_of_collect : map (row_of s (h ++ command Collect id environment time bytes ∷ [])) (filter (λ (e : ℕ × List ℕ). not (names e.1 (command Collect id environment time bytes))) (held h)) ≡ map (row_of s (h ++ command Collect id environment time bytes ∷ [])) (held (h ++ command Collect id environment time bytes ∷ []))
  rows_of_collect =
      let c = command Collect id environment time bytes in
      ap (map (row_of s (h ++ c ∷ []))) (sym (held-snoc h c ∙ append-nil _))

-- the rows after a command that is not refused
pub rows_by : (s : Settings) (h : List Command) (good : bad_field s ≡ None) (legal : IsLegal s h) (kind : Kind) (id : List ℕ) (environment time : ℕ) (bytes : List ℕ) → refusal_of s h (command kind id environment time bytes) ≡ None
    → rows_after s (in_force s h) (length h + 1) (command kind id environment time bytes) kind (map (row_of s h) (held h)) ≡ map (row_of s (h ++ command kind id environment time bytes ∷ [])) (held (h ++ command kind id environment time bytes ∷ []))
rows_by s h good legal Accept id environment time bytes passes = rows_accepted s h legal id environment time bytes passes
rows_by s h good legal Start id environment time bytes passes = rows_of_change s h good legal id environment time bytes Start passes refl refl refl
rows_by s h good legal Succeed id environment time bytes passes = rows_of_change s h good legal id environment time bytes Succeed passes refl refl refl
rows_by s h good legal (Fail cause) id environment time bytes passes = rows_of_change s h good legal id environment time bytes (Fail cause) passes refl refl refl
rows_by s h good legal Throttle id environment time bytes passes = rows_of_change s h good legal id environment time bytes Throttle passes refl refl refl
rows_by s h good legal Interrupt id environment time bytes passes = rows_of_change s h good legal id environment time bytes Interrupt passes refl refl refl
rows_by s h good legal Expire id environment time bytes passes = rows_of_change s h good legal id environment time bytes Expire passes refl refl refl
rows_by s h good legal Collect id environment time bytes passes =
    rows_removed s h (command Collect id environment time bytes) refl (held h) (at_most_once s h legal id)
    ∙ rows_of_collect s h good legal id environment time bytes
rows_by s h good legal (Configure policy) id environment time bytes passes =
    let c = command (Configure policy) id environment time bytes in
    let same : held (h ++ c ∷ []) ≡ held h = held-snoc h c ∙ append-nil _ ∙ filter_all (held h) in
    sym (ap (map (row_of s (h ++ c ∷ []))) same ∙ rows_left s h c refl (held h))
