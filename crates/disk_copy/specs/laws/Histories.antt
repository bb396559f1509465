-- Laws: a history that is legal under settings is legal under those that allow all that they do, and stands for the same table.
use Rattle.std.proofs.Common.{◌≡◌, ℕ, ◌+◌, ◌*◌, ◌<◌, ◌≤◌, List, [], ◌∷◌, length, take, map, Bool, false, not, refl, sym, ap, ◌∙◌, arith, None, nat_lt, if◌then◌else◌}
use Rattle.std.specs.List.{count_by, list_any}
use Rattle.std.proofs.lemmas.Bool.{ltb-false, le-ltb, leb-false, lt-leb, or_parts, or_from}
use Rattle.retry_rules.specs.Settings.{policy_of}
use Rattle.retry_rules.specs.declared.settings.Settings.{Settings}
use Rattle.invoke_records.specs.Reading.{no_policy}
use Rattle.invoke_records.specs.declared.command.Command.{Command}
use Rattle.invoke_records.specs.declared.command.Kind.{Kind}
use Rattle.invoke_records.specs.declared.command.Kind.TheVariants.{Accept, Start, Succeed, Fail, Throttle, Interrupt, Expire, Collect, Configure}
use Rattle.invoke_records.specs.declared.command.Cause.TheVariants.{Reported, Timeout, Exited}
use Rattle.async_core.specs.declared.situation.Situation.{Situation}
use Rattle.async_core.specs.Lives.{life, is_held, accepted}
use Rattle.async_core.specs.Standings.{is_running, runs_in}
use Rattle.async_core.specs.Policies.{in_force, last_policy, judged_by, before_acceptance}
use Rattle.async_core.specs.Checks.{shape_by, has_environment, shape_checks, clock_check, state_checks, refusal_in}
use Rattle.async_core.specs.History.{IsLegal, held, last_moment, rules_of, standing_of, standing_in, row_of, table_of, situation_of, refusal_of}
use Rattle.async_core.specs.laws.Refusals.{NoneFails, first_failed-none, judged_by_state, shape_passes, clock_passes, state_passes}
use Rattle.disk_copy.specs.Limits.{AllowsAll}

-- a check of the shape under a greater length
longer : (is_misplaced : Bool) (least most more : ℕ) (c : Command) → most ≤ more → NoneFails (shape_by is_misplaced least most c) → NoneFails (shape_by is_misplaced least more c)
longer is_misplaced least most more c le passes =
    let short : length c.bytes ≤ most = ltb-false most (length c.bytes) passes.1.1.0 in
    (passes.0, (passes.1.0, (le-ltb more (length c.bytes) (omega arith), passes.1.1.1)))

module _ (old new : Settings) (allows : AllowsAll old new) where
  -- ## What a history says of its events

  first_policy : policy_of new ≡ policy_of old
  first_policy = λ i. record { retries = allows.retries i; age = allows.age i }

  in_force-same : (history : List Command) → in_force new history ≡ in_force old history
  unfolding in_force
  in_force-same history = ap (λ p. last_policy p history) first_policy

  judged_by-same : (history : List Command) (id : List ℕ) → judged_by new history id ≡ judged_by old history id
  unfolding judged_by
  judged_by-same history id = ap (λ policy. if is_held id history then policy else no_policy) (in_force-same (before_acceptance id history))

  rules_of-same : (history : List Command) (id : List ℕ) → rules_of new history id ≡ rules_of old history id
  rules_of-same history id =
      λ i. record { retries = (judged_by-same history id i).retries; age = (judged_by-same history id i).age; timeout = allows.timeout i }

  standing_in-same : (history : List Command) (id : List ℕ) → standing_in new history id ≡ standing_in old history id
  unfolding standing_in
  standing_in-same history id = ap (λ rules. standing_of rules (life id history)) (rules_of-same history id)

  row_of-same : (history : List Command) (event : ℕ × List ℕ) → row_of new history event ≡ row_of old history event
  row_of-same history event = rw (judged_by-same history event.1, standing_in-same history event.1) refl

  -- it stands for the same table
  pub table_of-same : (history : List Command) → table_of new history ≡ table_of old history
  unfolding table_of
  table_of-same history = λ i. record {
    number = length history;
    last_moment = last_moment history;
    policy = in_force-same history i;
    rows = map (λ event. row_of-same history event i) (held history);
  }

  -- and a command meets the same after it
  situation_of-same : (history : List Command) (c : Command) → situation_of new history c ≡ situation_of old history c
  situation_of-same history c = λ i. record {
    last_moment = last_moment history;
    held = length (held history);
    running = count_by (λ (e : ℕ × List ℕ). is_running (standing_in-same history e.1 i)) (held history);
    is_busy = list_any (λ (e : ℕ × List ℕ). runs_in c.environment (standing_in-same history e.1 i)) (held history);
    standing = standing_in-same history c.id i;
    too_old_from = accepted (life c.id history) + 1000 * (rules_of-same history c.id i).age;
  }

  -- ## What is refused

  started : (c : Command) → NoneFails (shape_checks old c Start) → NoneFails (shape_checks new c Start)
  started c passes =
      let parts = or_parts (not (has_environment c)) (nat_lt old.environments c.environment) passes.0 in
      let below : c.environment ≤ old.environments = ltb-false old.environments c.environment parts.1 in
      let within : nat_lt new.environments c.environment ≡ false = le-ltb new.environments c.environment (omega arith) in
      (or_from (not (has_environment c)) (nat_lt new.environments c.environment) parts.0 within, passes.1)

  -- a command keeps its shape
  shape_checks-kept : (c : Command) (k : Kind) → NoneFails (shape_checks old c k) → NoneFails (shape_checks new c k)
  shape_checks-kept c Accept passes = longer (has_environment c) 1 old.payload new.payload c allows.payload passes
  shape_checks-kept c Start passes = started c passes
  shape_checks-kept c Succeed passes = longer (has_environment c) 0 old.response new.response c allows.response passes
  shape_checks-kept c (Fail Reported) passes = longer (has_environment c) 0 old.response new.response c allows.response passes
  shape_checks-kept c (Fail Timeout) passes = passes
  shape_checks-kept c (Fail Exited) passes = passes
  shape_checks-kept c Throttle passes = passes
  shape_checks-kept c Interrupt passes = passes
  shape_checks-kept c Expire passes = passes
  shape_checks-kept c Collect passes = passes
  shape_checks-kept c (Configure policy) passes = passes

  -- the events allow it still
  state_checks-kept : (x : Situation) (c : Command) (k : Kind) → NoneFails (state_checks old x c k) → NoneFails (state_checks new x c k)
  state_checks-kept x c Accept passes =
      let room : x.held < old.events = leb-false old.events x.held passes.1.0 in
      (passes.0, (lt-leb new.events x.held (omega arith), tt))
  state_checks-kept x c Start passes = rw allows.concurrency passes
  state_checks-kept x c Succeed passes = passes
  state_checks-kept x c (Fail cause) passes = passes
  state_checks-kept x c Throttle passes = rw allows.concurrency passes
  state_checks-kept x c Interrupt passes = passes
  state_checks-kept x c Expire passes = passes
  state_checks-kept x c Collect passes = passes
  state_checks-kept x c (Configure policy) passes = passes

  refusal_in-kept : (x : Situation) (c : Command) → refusal_in old x c ≡ None → refusal_in new x c ≡ None
  refusal_in-kept x c passes =
      let shape = first_failed-none (shape_checks new c c.kind) (shape_checks-kept c c.kind (shape_passes old x c passes)) in
      let clock = first_failed-none (clock_check x c ∷ []) (le-ltb c.time x.last_moment (clock_passes old x c passes), tt) in
      let state = first_failed-none (state_checks new x c c.kind) (state_checks-kept x c c.kind (state_passes old x c passes)) in
      sym (judged_by_state new x c None (sym shape) (sym clock) (sym state))

  -- what is legal after a history stays legal
  pub refusal_of-kept : (history : List Command) (c : Command) → refusal_of old history c ≡ None → refusal_of new history c ≡ None
  unfolding refusal_of
  refusal_of-kept history c passes =
      ap (λ x. refusal_in new x c) (situation_of-same history c) ∙ refusal_in-kept (situation_of old history c) c passes

  -- and so does each legal history
  pub IsLegal-kept : (history : List Command) → IsLegal old history → IsLegal new history
  IsLegal-kept history legal = record { each = λ n c is. refusal_of-kept (take n history) c (legal.each n c is) }
