-- That the attempt which runs may be marked as interrupted.
use Rattle.std.proofs.Common.{◌≡◌, ℕ, ◌≤◌, ◌++◌, ◌∷◌, List, true, false, not, None, Some, refl, sym, ap, ◌∙◌, subst, arith, max}
use Rattle.std.specs.Prelude.{nat_lt}
use Rattle.std.proofs.lemmas.Bool.{le-ltb, and_parts}
use Rattle.retry_rules.specs.declared.settings.Settings.{Settings}
use Rattle.invoke_records.specs.declared.command.Command.{Command}
use Rattle.invoke_records.specs.declared.row.Standing.{Standing}
use Rattle.invoke_records.specs.declared.row.Standing.TheVariants as standing
use Rattle.invoke_records.specs.Spelling.{greatest_moment}
use Rattle.async_core.specs.Standings.{is_running, is_unknown}
use Rattle.async_core.specs.Checks.{refusal_in, shape_checks, clock_check, state_checks}
use Rattle.async_core.specs.History.{refusal_of, situation_of, standing_in, last_moment, IsLegal, table_of}
use Rattle.async_core.specs.laws.Tables.{refusal-of_table, legal_time}
use Rattle.async_core.specs.laws.Lives.{last_moment-snoc}
use Rattle.async_core.specs.laws.Held.{legally}
use Rattle.async_core.specs.laws.Refusals.{first_failed-none}
use Rattle.broker_core.specs.History.{AreGood}
use Rattle.async_core.specs.Rules.{refusal_at}
use Rattle.async_core.specs.Choice.{IsFirstRunning}
use Rattle.sector_disk.specs.declared.disk.Disk.{Ghosts}
use Rattle.broker_core.specs.declared.broker.Broker.{Broker}
use Rattle.broker_core.specs.declared.error.IssueError.{IssueError}
use Rattle.broker_core.specs.declared.error.IssueError.TheVariants as issue_error
use Rattle.broker_core.specs.Broker.{settings_of, table_in, IsReason}
use Rattle.broker_core.specs.Resume.{interrupt_of, IsOwn}

-- each legal command has a moment
moment_of_legal : (s : Settings) (h : List Command) (c : Command) → AreGood s → IsLegal s h → refusal_of s h c ≡ None → c.time ≤ 253402300799999
moment_of_legal s h c good legal is = legal_time s (table_of s h) c (refusal-of_table s h c good.check legal ∙ is)

-- and so has a legal history
pub last_moment_bound : (s : Settings) (h : List Command) → AreGood s → IsLegal s h → last_moment h ≤ 253402300799999
last_moment_bound s h good =
    legally s (λ (l : List Command). last_moment l ≤ 253402300799999) (omega arith)
    (λ l c legal is before. subst (λ (n : ℕ). n ≤ 253402300799999) (sym (last_moment-snoc l c)) (moment_of_legal s l c good legal is)) h

known : (stands : Standing) → is_running stands ≡ true → is_unknown stands ≡ false
known standing.Unknown runs = absurd cc
known (standing.Waiting due) runs = refl
known (standing.DueAgain due) runs = refl
known (standing.Running environment deadline) runs = refl
known (standing.Ended outcome at) runs = refl

-- an Interrupt of an event that runs is legal
pub interrupt_legal : (s : Settings) (h : List Command) (now : ℕ) (event : ℕ × List ℕ) → AreGood s → IsLegal s h → now ≤ 253402300799999 → is_running (standing_in s h event.1) ≡ true
    → refusal_of s h (interrupt_of h now event) ≡ None
unfolding refusal_of refusal_in
interrupt_legal s h now event good legal within runs =
    let bound = last_moment_bound s h good legal in
    let moment : nat_lt greatest_moment (max now (last_moment h)) ≡ false = le-ltb greatest_moment (max now (last_moment h)) (omega (arith, bound)) in
    let later : nat_lt (max now (last_moment h)) (last_moment h) ≡ false = le-ltb (max now (last_moment h)) (last_moment h) (omega arith) in
    let c = interrupt_of h now event in
    let x = situation_of s h c in
    first_failed-none (shape_checks s c c.kind ++ clock_check x c ∷ state_checks s x c c.kind) (refl, (moment, (refl, (refl, (later, (known _ runs, (ap not runs, tt)))))))

-- the last moment of the table that stands for a history
pub moment-table_of : (s : Settings) (h : List Command) → (table_of s h).last_moment ≡ last_moment h
unfolding table_of
moment-table_of s h = refl

-- the first running event runs
pub first_runs : (s : Settings) (h : List Command) (event : ℕ × List ℕ) → IsFirstRunning s h 0 (Some event) → is_running (standing_in s h event.1) ≡ true
first_runs s h event first =
    let runs : is_running (standing_in s h first.0.1) ≡ true = (and_parts (is_running (standing_in s h first.0.1)) (nat_lt 0 first.0.0) first.3).0 in
    subst (λ (e : ℕ × List ℕ). is_running (standing_in s h e.1) ≡ true) (sym first.1) runs

-- a command that is legal is refused for a reason of the broker's own
pub own_reason : {D : Type 0} {g : Ghosts D} (broker : Broker D g) (command : Command) (why : IssueError) → refusal_at (settings_of broker) (table_in broker) command ≡ None → IsReason broker command why → IsOwn why
own_reason broker command issue_error.Broken legal is = tt
own_reason broker command issue_error.WornOut legal is = tt
own_reason broker command (issue_error.Illegal why) legal is = absurd cc
own_reason broker command issue_error.Backlog legal is = tt
own_reason broker command issue_error.OutOfMemory legal is = tt
