-- Lemmas: how fast a legal history goes. An attempt and a push-back take at least a second each, and an event that is too
-- old makes neither, so that its counters stay below its greatest age in seconds.
use Rattle.std.proofs.Common.{◌≡◌, ℕ, ◌+◌, ◌-◌, ◌*◌, ◌^◌, ◌≤◌, ◌<◌, Bool, true, false, sym, arith, nat_lt, if◌then◌else◌}
use Rattle.std.proofs.lemmas.Bool.{true≢false, leb-true, leb-false, not-false}
use Rattle.std.proofs.Math.Pow.{pow_pos}
use Rattle.retry_rules.specs.declared.settings.Settings.{Settings}
use Rattle.invoke_records.specs.declared.command.Command.{Command}
use Rattle.invoke_records.specs.declared.command.Kind.TheVariants.{Start, Fail, Throttle, Interrupt}
use Rattle.invoke_records.specs.declared.command.Cause.{Cause}
use Rattle.invoke_records.specs.declared.command.Cause.TheVariants.{Reported, Timeout, Exited}
use Rattle.invoke_records.specs.declared.row.Outcome.TheVariants.{RetriesExhausted}
use Rattle.invoke_records.specs.declared.row.Standing.{Standing}
use Rattle.invoke_records.specs.declared.row.Standing.TheVariants as standing
use Rattle.async_core.specs.declared.situation.Situation.{Situation}
use Rattle.async_core.specs.Standings.{Rules, standing_by, after_failure, after_pushback, is_due, is_running}
use Rattle.async_core.specs.Checks.{state_checks}
use Rattle.async_core.specs.laws.Refusals.{NoneFails}

-- how the moments of an event bound its counters
abbrev pub Pace : Rules → ℕ → ℕ → ℕ → ℕ → ℕ → Standing → Type 0
Pace rules last accepted starts failures push_backs standing.Unknown = Unit {0}
Pace rules last accepted starts failures push_backs (standing.Waiting due) =
    (accepted + 1000 * starts ≤ due) × (accepted + 1000 * push_backs ≤ due)
Pace rules last accepted starts failures push_backs (standing.DueAgain due) =
    (accepted + 1000 * starts ≤ due) × (accepted + 1000 * push_backs ≤ due)
Pace rules last accepted starts failures push_backs (standing.Running environment deadline) =
    (accepted + 1000 * starts + 1000 * rules.timeout ≤ deadline + 1000)
    × (accepted + 1000 * push_backs + 1000 * rules.timeout ≤ deadline)
    × (deadline < accepted + 1000 * rules.age + 1000 * rules.timeout)
    × (deadline ≤ last + 1000 * rules.timeout)
    × (failures + 1 ≤ starts)
Pace rules last accepted starts failures push_backs (standing.Ended outcome at) = Unit {0}

-- the counters of an event, by its greatest age
pub record Paced (rules : Rules) (last accepted starts failures push_backs : ℕ) (x : Standing) : Type 0 where
  pub starts_bound : starts ≤ rules.age
  pub push_backs_bound : push_backs ≤ rules.age
  pub failures_bound : failures ≤ starts
  pub pace : Pace rules last accepted starts failures push_backs x

-- time goes on
later_pace : (rules : Rules) (last now accepted starts failures push_backs : ℕ) (x : Standing) → last ≤ now → Pace rules last accepted starts failures push_backs x → Pace rules now accepted starts failures push_backs x
later_pace rules last now accepted starts failures push_backs standing.Unknown le p = tt
later_pace rules last now accepted starts failures push_backs (standing.Waiting due) le p = p
later_pace rules last now accepted starts failures push_backs (standing.DueAgain due) le p = p
later_pace rules last now accepted starts failures push_backs (standing.Running environment deadline) le p = (p.0, p.1, p.2, omega arith, p.4)
later_pace rules last now accepted starts failures push_backs (standing.Ended outcome at) le p = tt

pub Paced-later : (rules : Rules) (last now accepted starts failures push_backs : ℕ) (x : Standing) → last ≤ now → Paced rules last accepted starts failures push_backs x → Paced rules now accepted starts failures push_backs x
Paced-later rules last now accepted starts failures push_backs x le p = record {
  starts_bound = p.starts_bound;
  push_backs_bound = p.push_backs_bound;
  failures_bound = p.failures_bound;
  pace = later_pace rules last now accepted starts failures push_backs x le p.pace;
}

-- what is due, and what runs
due_pace : (rules : Rules) (last accepted starts failures push_backs now : ℕ) (x : Standing) → is_due now x ≡ true → Pace rules last accepted starts failures push_backs x → (accepted + 1000 * starts ≤ now) × (accepted + 1000 * push_backs ≤ now)
due_pace rules last accepted starts failures push_backs now standing.Unknown due p = absurd (true≢false (sym due))
due_pace rules last accepted starts failures push_backs now (standing.Waiting at) due p = let le = leb-true at now due in (omega arith, omega arith)
due_pace rules last accepted starts failures push_backs now (standing.DueAgain at) due p = let le = leb-true at now due in (omega arith, omega arith)
due_pace rules last accepted starts failures push_backs now (standing.Running environment deadline) due p = absurd (true≢false (sym due))
due_pace rules last accepted starts failures push_backs now (standing.Ended outcome at) due p = absurd (true≢false (sym due))

running_pace : (rules : Rules) (last accepted starts failures push_backs : ℕ) (x : Standing) → is_running x ≡ true → Pace rules last accepted starts failures push_backs x
    → (accepted + 1000 * starts ≤ last + 1000) × (accepted + 1000 * push_backs ≤ last) × (push_backs < rules.age) × (failures + 1 ≤ starts)
running_pace rules last accepted starts failures push_backs standing.Unknown runs p = absurd (true≢false (sym runs))
running_pace rules last accepted starts failures push_backs (standing.Waiting at) runs p = absurd (true≢false (sym runs))
running_pace rules last accepted starts failures push_backs (standing.DueAgain at) runs p = absurd (true≢false (sym runs))
running_pace rules last accepted starts failures push_backs (standing.Running environment deadline) runs p = (omega arith, omega arith, omega arith, p.4)
running_pace rules last accepted starts failures push_backs (standing.Ended outcome at) runs p = absurd (true≢false (sym runs))

pushback_wait : (k : ℕ) → 1000 ≤ after_pushback k
pushback_wait k = let some : 0 < 2 ^ (k - 1) = pow_pos (k - 1) in omega arith

failed_pace : (rules : Rules) (accepted starts failures time : ℕ) (ends : Bool) → accepted + 1000 * starts ≤ time + 1000 → accepted ≤ time
    → Pace rules time accepted starts (failures + 1) 0 (if ends then standing.Ended RetriesExhausted time else standing.DueAgain (time + after_failure (failures + 1)))
failed_pace rules accepted starts failures time true a b = tt
failed_pace rules accepted starts failures time false a b = (omega arith, omega arith)

module _ (s : Settings) (rules : Rules) (x : Situation) (c : Command) (accepted starts failures push_backs : ℕ) (old : x.too_old_from ≡ accepted + 1000 * rules.age) (clock : x.last_moment ≤ c.time) (p : Paced rules x.last_moment accepted starts failures push_backs x.standing) where
  pub paced_start : NoneFails (state_checks s x c Start) → Paced rules c.time accepted (starts + 1) failures push_backs (standing_by rules failures push_backs c Start)
  paced_start h =
      let due = due_pace rules x.last_moment accepted starts failures push_backs c.time x.standing (not-false _ h.1.0) p.pace in
      let young : c.time < x.too_old_from = leb-false _ _ h.1.1.0 in
      let bound : failures ≤ starts = p.failures_bound in
      record { starts_bound = omega arith; push_backs_bound = p.push_backs_bound; failures_bound = omega arith; pace = (omega arith, omega arith, omega arith, omega arith, omega arith) }

  pub paced_throttle : NoneFails (state_checks s x c Throttle) → Paced rules c.time accepted starts failures (push_backs + 1) (standing_by rules failures (push_backs + 1) c Throttle)
  paced_throttle h =
      let due = due_pace rules x.last_moment accepted starts failures push_backs c.time x.standing (not-false _ h.1.0) p.pace in
      let young : c.time < x.too_old_from = leb-false _ _ h.1.1.0 in
      let wait = pushback_wait (push_backs + 1) in
      record { starts_bound = p.starts_bound; push_backs_bound = omega arith; failures_bound = p.failures_bound; pace = (omega arith, omega arith) }

  pub paced_interrupt : NoneFails (state_checks s x c Interrupt) → Paced rules c.time accepted starts failures (push_backs + 1) (standing_by rules failures (push_backs + 1) c Interrupt)
  paced_interrupt h =
      let runs = running_pace rules x.last_moment accepted starts failures push_backs x.standing (not-false _ h.1.0) p.pace in
      let wait = pushback_wait (push_backs + 1) in
      record { starts_bound = p.starts_bound; push_backs_bound = omega arith; failures_bound = p.failures_bound; pace = (omega arith, omega arith) }

  pub paced_failure : (cause : Cause) → is_running x.standing ≡ true → Paced rules c.time accepted starts (failures + 1) 0 (standing_by rules (failures + 1) 0 c (Fail cause))
  paced_failure cause running =
      let runs = running_pace rules x.last_moment accepted starts failures push_backs x.standing running p.pace in
      record { starts_bound = p.starts_bound; push_backs_bound = omega arith; failures_bound = omega arith; pace = failed_pace rules accepted starts failures c.time (nat_lt rules.retries (failures + 1)) (omega arith) (omega arith) }

-- an attempt that fails runs
pub runs_failing : (s : Settings) (x : Situation) (c : Command) (cause : Cause) → NoneFails (state_checks s x c (Fail cause)) → is_running x.standing ≡ true
runs_failing s x c Reported h = not-false _ h.1.0
runs_failing s x c Timeout h = not-false _ h.1.0
runs_failing s x c Exited h = not-false _ h.1.0
