-- Laws: a table that stands for a legal history refuses what is not legal after it, and else stands for the longer one.
use Rattle.std.proofs.Common.{◌≡◌, ℕ, ◌+◌, ◌*◌, ◌≤◌, ◌<◌, List, [], ◌∷◌, ◌++◌, length, take, drop, Bool, true, false, cond, refl, sym, ap, ◌∙◌, arith, map, Option, Some, None, length-append, subst, append_assoc, ◌⊎◌, inl, inr}
use Rattle.std.specs.Prelude.{find, slice_get, option_map, if◌then◌else◌}
use Rattle.std.specs.List.{count_by, list_any}
use Rattle.std.specs.Str.{bytes_eq}
use Rattle.std.proofs.lemmas.Bool.{true≢false, cases_lt, ltb-false}
use Rattle.std.proofs.lemmas.List.{length-map, append-nil, take-append-le, take-append-drop}
use Rattle.std.proofs.lemmas.Option.{slice_get_within}
use Rattle.std.proofs.Math.Seq.{take-append_seam}
use Rattle.std.proofs.lemmas.List.Folds.{fold-map}
use Rattle.retry_rules.specs.Settings.{bad_field}
use Rattle.retry_rules.specs.declared.settings.Settings.{Settings}
use Rattle.invoke_records.specs.Spelling.{command_fault, greatest_moment}
use Rattle.invoke_records.specs.Reading.{no_policy}
use Rattle.invoke_records.specs.declared.command.Command.{Command}
use Rattle.invoke_records.specs.declared.command.Kind.{Kind}
use Rattle.invoke_records.specs.declared.command.Kind.TheVariants.{Accept, Start, Succeed, Fail, Throttle, Interrupt, Expire, Collect, Configure}
use Rattle.invoke_records.specs.declared.command.Cause.TheVariants.{Reported, Timeout, Exited}
use Rattle.invoke_records.specs.declared.row.EventRow.{EventRow}
use Rattle.invoke_records.specs.declared.snapshot.Snapshot.{Snapshot}
use Rattle.async_core.specs.Lives.{life, has_begun, accepted, payload_of}
use Rattle.async_core.specs.Standings.{is_running, runs_in}
use Rattle.async_core.specs.Policies.{in_force, judged_by, before_acceptance, pair_of}
use Rattle.async_core.specs.Checks.{refusal_in, shape_checks}
use Rattle.async_core.specs.History.{held, standing_in, standing_of, rules_of, too_old_from, row_of, table_of, refusal_of, situation_of, IsLegal}
use Rattle.async_core.specs.Rules.{has_id, row_at, standing_or_unknown, too_old_or_zero, standing_at, situation_at, refusal_at, table_after, empty_table, replay}
use Rattle.async_core.specs.Readers.{where_held, counts_of, counts_in, judge_at, ending_at, ending_in}
use Rattle.async_core.specs.laws.Lives.{last_moment-snoc, in_force-snoc, in_force-nil, held-nil}
use Rattle.async_core.specs.laws.Rows.{times_held-cons, rows_by}
use Rattle.async_core.specs.laws.Refusals.{NoneFails, shape_passes}
use Rattle.async_core.specs.laws.Shapes.{limits, shaped}
use Rattle.async_core.specs.laws.Held.{times_held, size, is_nil, bytes_eq-true, held_once, IsLegal-front, IsLegal-last, slice_get-before, slice_get-seam}

-- ## The row of an event

module _ (s : Settings) (h : List Command) (id : List ℕ) where
  none_here : (b : Bool) (e : ℕ × List ℕ) (events : List (ℕ × List ℕ)) → bytes_eq id e.1 ≡ b
      → (times_held id events ≡ 0 → find (has_id id) (map (row_of s h) events) ≡ None)
      → times_held id (e ∷ events) ≡ 0 → cond b (Some (row_of s h e)) (find (has_id id) (map (row_of s h) events)) ≡ None
  none_here true e events same none never = absurd (omega (arith, times_held-cons id e events true same))
  none_here false e events same none never = none (omega (arith, times_held-cons id e events false same))

  find_none : (events : List (ℕ × List ℕ)) → times_held id events ≡ 0 → find (has_id id) (map (row_of s h) events) ≡ None
  find_none [] never = refl
  find_none (e ∷ events) never = none_here (bytes_eq id e.1) e events refl (find_none events) never

  some_here : (b : Bool) (e : ℕ × List ℕ) (events : List (ℕ × List ℕ)) → bytes_eq id e.1 ≡ b
      → (0 < times_held id events → (n : ℕ) × (find (has_id id) (map (row_of s h) events) ≡ Some (row_of s h (n, id))))
      → 0 < times_held id (e ∷ events) → (n : ℕ) × (cond b (Some (row_of s h e)) (find (has_id id) (map (row_of s h) events)) ≡ Some (row_of s h (n, id)))
  some_here true e events same some more = (e.0, ap (λ i. Some (row_of s h (e.0, i))) (sym (bytes_eq-true id e.1 same)))
  some_here false e events same some more = some (omega (arith, times_held-cons id e events false same))

  find_some : (events : List (ℕ × List ℕ)) → 0 < times_held id events → (n : ℕ) × (find (has_id id) (map (row_of s h) events) ≡ Some (row_of s h (n, id)))
  find_some [] more = absurd (omega arith)
  find_some (e ∷ events) more = some_here (bytes_eq id e.1) e events refl (find_some events) more

  -- what the row that is found says, where there is one exactly if the life is not empty
  read_row : {X : Type 0} (read : Option EventRow → X) (given : List Command → X) → read None ≡ given [] → ((n : ℕ) → is_nil (life id h) ≡ false → read (Some (row_of s h (n, id))) ≡ given (life id h))
      → times_held id (held h) ≡ size (life id h) → (l : List Command) → life id h ≡ l → read (find (has_id id) (map (row_of s h) (held h))) ≡ given (life id h)
  read_row read given none some once [] is =
      let never : times_held id (held h) ≡ 0 = once ∙ ap size is in
      ap read (find_none (held h) never) ∙ none ∙ ap given (sym is)
  read_row read given none some once (x ∷ l) is =
      let one : times_held id (held h) ≡ 1 = once ∙ ap size is in
      let row = find_some (held h) (omega arith) in
      ap read row.1 ∙ some row.0 (ap is_nil is)

-- ## Judging

pub count_by-map : {X Y : Type 0} (p : Y → Bool) (f : X → Y) (xs : List X) → count_by p (map f xs) ≡ count_by (λ x. p (f x)) xs
count_by-map p f xs = fold-map (λ n y. n + cond (p y) 1 0) f 0 xs

list_any-map : {X Y : Type 0} (p : Y → Bool) (f : X → Y) (xs : List X) → list_any p (map f xs) ≡ list_any (λ x. p (f x)) xs
list_any-map p f [] = refl
list_any-map p f (x ∷ xs) = rw (list_any-map p f xs) refl

module _ (s : Settings) (h : List Command) (legal : IsLegal s h) where
  pub standing_at-table_of : (id : List ℕ) → standing_at (table_of s h) id ≡ standing_in s h id
  unfolding table_of standing_at standing_in
  standing_at-table_of id = read_row s h id standing_or_unknown (λ l. standing_of (rules_of s h id) l) refl (λ n known. refl) (held_once s h legal id) (life id h) refl

  too_old-table_of : (id : List ℕ) → too_old_or_zero (row_at (table_of s h) id) ≡ too_old_from s h id
  unfolding table_of judged_by
  too_old-table_of id =
      read_row s h id too_old_or_zero (λ l. accepted l + 1000 * (if has_begun l then in_force s (before_acceptance id h) else no_policy).age) refl (λ n known. refl) (held_once s h legal id) (life id h) refl

  -- a command meets in the table what it meets after the history
  pub situation-of_table : (c : Command) → situation_at s (table_of s h) c ≡ situation_of s h c
  unfolding table_of
  situation-of_table c =
      rw (standing_at-table_of c.id, too_old-table_of c.id, length-map (held h) (row_of s h), count_by-map (λ (r : EventRow). is_running r.standing) (row_of s h) (held h), list_any-map (λ (r : EventRow). runs_in c.environment r.standing) (row_of s h) (held h)) refl

  refused_alike : (c : Command) → refusal_at s (table_of s h) c ≡ refusal_of s h c
  unfolding refusal_at refusal_of
  refused_alike c = ap (λ x. refusal_in s x c) (situation-of_table c)

-- ## The laws

-- a table that stands for a legal history refuses what is refused after it, for the same reason
pub refusal-of_table : (s : Settings) (h : List Command) (c : Command) → bad_field s ≡ None → IsLegal s h → refusal_at s (table_of s h) c ≡ refusal_of s h c
refusal-of_table s h c good legal = refused_alike s h legal c

-- and after a command that is not refused it stands for the history with that command
pub table_of-more : (s : Settings) (h : List Command) (c : Command) → bad_field s ≡ None → IsLegal s h → refusal_of s h c ≡ None → table_after s (table_of s h) c ≡ table_of s (h ++ c ∷ [])
unfolding table_after table_of
table_of-more s h c good legal passes =
    rw (length-append h (c ∷ []), last_moment-snoc h c, in_force-snoc s h c, rows_by s h good legal c.kind c.id c.environment c.time c.bytes passes) refl

more_at : (s : Settings) (h : List Command) (c : Command) → IsLegal s h → refusal_of s h c ≡ None → (n : ℕ) (d : Command) → slice_get (h ++ c ∷ []) n ≡ Some d → (n < length h) ⊎ (length h ≤ n) → refusal_of s (take n (h ++ c ∷ [])) d ≡ None
more_at s h c legal passes n d found (inl lt) =
    let before : take n (h ++ c ∷ []) ≡ take n h = take-append-le n h (c ∷ []) (omega arith) in
    rw before (legal.each n d (sym (slice_get-before h (c ∷ []) n lt) ∙ found))
more_at s h c legal passes n d found (inr le) =
    let within : n < length (h ++ c ∷ []) = slice_get_within (h ++ c ∷ []) n d found in
    let last : n ≡ length h = omega (arith, length-append h (c ∷ [])) in
    let same : Some c ≡ Some d = sym (slice_get-seam h c) ∙ ap (slice_get (h ++ c ∷ [])) (sym last) ∙ found in
    let is : c ≡ d = cc in
    rw (last, take-append_seam h (c ∷ []), ← is) passes

-- a legal history with a command that is legal after it is legal
pub IsLegal-more : (s : Settings) (h : List Command) (c : Command) → IsLegal s h → refusal_of s h c ≡ None → IsLegal s (h ++ c ∷ [])
IsLegal-more s h c legal passes = record { each = λ n d found. more_at s h c legal passes n d found (cases_lt n (length h)) }

pub IsLegal-nil : (s : Settings) → IsLegal s []
IsLegal-nil s = record { each = λ n d found. absurd (cc) }

replay_from : (s : Settings) (h later : List Command) → bad_field s ≡ None → IsLegal s (h ++ later) → replay s (table_of s h) later ≡ Some (table_of s (h ++ later))
replay_from s h [] good legal = rw append-nil refl
replay_from s h (c ∷ later) good legal =
    let whole : IsLegal s ((h ++ c ∷ []) ++ later) = subst (λ l. IsLegal s l) (sym (append_assoc h (c ∷ []) later)) legal in
    let shorter : IsLegal s (h ++ c ∷ []) = IsLegal-front s (h ++ c ∷ []) later whole in
    let passes : refusal_of s h c ≡ None = IsLegal-last s h c shorter in
    let before : IsLegal s h = IsLegal-front s h (c ∷ []) shorter in
    rw (refusal-of_table s h c good before, passes, table_of-more s h c good before passes)
    (replay_from s (h ++ c ∷ []) later good whole ∙ ap (λ l. Some (table_of s l)) (append_assoc h (c ∷ []) later))

-- each command of a legal history is legal after those before it, and none is refused on the way
pub replay-history : (s : Settings) (h : List Command) (n : ℕ) → bad_field s ≡ None → IsLegal s h → n ≤ length h → replay s (table_of s (take n h)) (drop n h) ≡ Some (table_of s h)
replay-history s h n good legal le =
    replay_from s (take n h) (drop n h) good (subst (λ l. IsLegal s l) (sym (take-append-drop n h)) legal) ∙ ap (λ l. Some (table_of s l)) (take-append-drop n h)

pub table_of-nil : (s : Settings) → table_of s [] ≡ empty_table s
unfolding table_of
table_of-nil s = rw (held-nil, in_force-nil s) refl

pub number-table_of : (s : Settings) (h : List Command) → (table_of s h).number ≡ length h
unfolding table_of
number-table_of s h = refl

-- a command that is legal has a shape that can be written
pub legal_shape : (s : Settings) (table : Snapshot) (c : Command) → refusal_at s table c ≡ None → bad_field s ≡ None → command_fault c ≡ None
unfolding refusal_at
legal_shape s table c passes good = shaped s c (limits s good) c.kind (shape_passes s (situation_at s table c) c passes)

-- both, for a table that is known to stand for a history
pub applied-by_history : (s : Settings) (table : Snapshot) (h : List Command) (c : Command) → bad_field s ≡ None → IsLegal s h → table ≡ table_of s h → refusal_at s table c ≡ None
    → (refusal_of s h c ≡ None) × (table_after s table c ≡ table_of s (h ++ c ∷ []))
applied-by_history s table h c good legal is passes =
    let legal_next : refusal_of s h c ≡ None = sym (refusal-of_table s h c good legal) ∙ ap (λ t. refusal_at s t c) (sym is) ∙ passes in
    (legal_next, ap (λ t. table_after s t c) is ∙ table_of-more s h c good legal legal_next)

-- a command that is legal has a moment
within_time : (s : Settings) (c : Command) (k : Kind) → NoneFails (shape_checks s c k) → c.time ≤ greatest_moment
within_time s c Accept fits = ltb-false _ _ fits.1.0
within_time s c Start fits = ltb-false _ _ fits.1.0
within_time s c Succeed fits = ltb-false _ _ fits.1.0
within_time s c (Fail Reported) fits = ltb-false _ _ fits.1.0
within_time s c (Fail Timeout) fits = ltb-false _ _ fits.1.0
within_time s c (Fail Exited) fits = ltb-false _ _ fits.1.0
within_time s c Throttle fits = ltb-false _ _ fits.1.0
within_time s c Interrupt fits = ltb-false _ _ fits.1.0
within_time s c Expire fits = ltb-false _ _ fits.1.0
within_time s c Collect fits = ltb-false _ _ fits.1.0
within_time s c (Configure policy) fits = ltb-false _ _ fits.1.0

pub legal_time : (s : Settings) (table : Snapshot) (c : Command) → refusal_at s table c ≡ None → c.time ≤ greatest_moment
unfolding refusal_at
legal_time s table c passes = within_time s c c.kind (shape_passes s (situation_at s table c) c passes)

-- ## What a table says of one event, its history says

known_held : {A : Type 0} (x : A) (l : List Command) → is_nil l ≡ false → Some x ≡ where_held l x
known_held x [] h = absurd (true≢false h)
known_held x (c ∷ l) h = refl

module _ (s : Settings) (table : Snapshot) (h : List Command) (id : List ℕ) (legal : IsLegal s h) (is : table ≡ table_of s h) where
  read_by : {X : Type 0} (read : Option EventRow → X) (given : List Command → X) → read None ≡ given [] → ((n : ℕ) → is_nil (life id h) ≡ false → read (Some (row_of s h (n, id))) ≡ given (life id h)) → read (row_at table id) ≡ given (life id h)
  unfolding table_of
  read_by read given none some = ap (λ t. read (row_at t id)) is ∙ read_row s h id read given none some (held_once s h legal id) (life id h) refl

  pub accepted-by_history : option_map (λ (r : EventRow). r.accepted) (row_at table id) ≡ where_held (life id h) (accepted (life id h))
  accepted-by_history = read_by (λ o. option_map (λ (r : EventRow). r.accepted) o) (λ l. where_held l (accepted l)) refl (λ n known. known_held _ (life id h) known)

  pub payload-by_history : option_map (λ (r : EventRow). r.payload) (row_at table id) ≡ where_held (life id h) (payload_of (life id h))
  payload-by_history = read_by (λ o. option_map (λ (r : EventRow). r.payload) o) (λ l. where_held l (payload_of l)) refl (λ n known. known_held _ (life id h) known)

  pub counts-by_history : option_map counts_of (row_at table id) ≡ where_held (life id h) (counts_in (life id h))
  counts-by_history = read_by (λ o. option_map counts_of o) (λ l. where_held l (counts_in l)) refl (λ n known. known_held _ (life id h) known)

  pub judge-by_history : judge_at (row_at table id) ≡ where_held (life id h) (pair_of (judged_by s h id))
  judge-by_history = read_by judge_at (λ l. where_held l (pair_of (judged_by s h id))) refl (λ n known. known_held _ (life id h) known)

  pub ending-by_history : ending_at (row_at table id) ≡ ending_in id (life id h) (standing_in s h id)
  unfolding standing_in
  ending-by_history = read_by ending_at (λ l. ending_in id l (standing_of (rules_of s h id) l)) refl (λ n known. refl)

-- what is in force by the table is in force after the history
pub in_force-by_history : (s : Settings) (table : Snapshot) (h : List Command) → table ≡ table_of s h → table.policy ≡ in_force s h
unfolding table_of
in_force-by_history s table h is = ap (λ (t : Snapshot). t.policy) is
