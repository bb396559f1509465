-- The command that configures, behind a history.
use Rattle.std.proofs.Common.{◌≡◌, ◌≤◌, ℕ, List, [], ◌∷◌, ◌++◌, length, take, length-drop, arith, Option, Some, None, Result, Ok, Err, IfOk, refl, sym, ap, subst, ◌∙◌}
use Rattle.sector_disk.specs.Disk.{DiskView}
use Rattle.sector_disk.specs.declared.disk.Disk.{Ghosts}
use Rattle.retry_rules.specs.declared.policy.RetryPolicy.{RetryPolicy}
use Rattle.retry_rules.specs.declared.settings.Settings.{Settings}
use Rattle.invoke_records.specs.declared.command.Command.{Command}
use Rattle.invoke_records.specs.declared.snapshot.Snapshot.{Snapshot}
use Rattle.async_core.specs.History.{table_of}
use Rattle.async_core.specs.Policies.{pair_of, policy_by}
use Rattle.async_core.specs.Rules.{table_after}
use Rattle.broker_core.specs.declared.broker.Broker.{Broker}
use Rattle.broker_core.specs.declared.error.IssueError.{IssueError}
use Rattle.broker_core.specs.History.{IsLegalStop}
use Rattle.broker_core.specs.Broker.{disk_of, settings_of, table_in, pending_of, durable_of, Stands, Issues, IsReason}
use Rattle.broker_commands.specs.declared.configuring.ConfiguringError.{ConfiguringError}
use Rattle.broker_commands.specs.declared.configuring.NewPolicy.{NewPolicy}
use Rattle.broker_commands.specs.Configuring.{told_or, policy_for, configure_after, configure_at, with_configure, IsConfigured, HoldsConfigured, IsAsked}

-- where the table's command was issued, the history's was
pub configured : {D : Type 0} {g : Ghosts D} (view : D → DiskView) (old new : Broker D g) (wanted : NewPolicy) (now : ℕ)
    (history : List Command) (command : Command) → command ≡ configure_at (table_in old) wanted now → settings_of new ≡ settings_of old
    → Stands view old history → Stands view new (history ++ command ∷ []) → IsConfigured view wanted now history new
unfolding table_of
configured view old new wanted now history command is same stands after =
    subst (λ (c : Command). Stands view new (history ++ c ∷ []))
    (is ∙ ap (λ (t : Snapshot). configure_at t wanted now) stands.table_is ∙ ap (λ (s : Settings). configure_after s history wanted now) (sym same))
    after

-- a disk on which all is durable holds it in each image
pub held : {D : Type 0} {g : Ghosts D} (view : D → DiskView) (broker : Broker D g) (s : Settings) (history : List Command) (durable size : ℕ) (wanted : NewPolicy) (now : ℕ)
    → (view (disk_of broker)).honest → durable ≤ size → size ≤ length history → settings_of broker ≡ s → pending_of broker ≡ []
    → IsConfigured view wanted now (take size history) broker → HoldsConfigured s history durable wanted now (view (disk_of broker))
held view broker s history durable size wanted now honest least most same none stands = (
  size,
  least,
  most,
  λ image left.
      let next : List Command = with_configure (settings_of broker) (take size history) wanted now in
      let all : durable_of broker ≡ length next =
      omega (arith, stands.durable_is, ap length (sym none ∙ stands.pending_is), length-drop (durable_of broker) next) in
      subst (λ (x : Settings). IsLegalStop x (with_configure x (take size history) wanted now) (length (with_configure x (take size history) wanted now)) image) same
      (subst (λ (d : ℕ). IsLegalStop (settings_of broker) next d image) all (stands.stops honest image left)),
)

-- where the command is the table's, so is what it is refused for
pub refused_at : {D : Type 0} {g : Ghosts D} (broker : Broker D g) (wanted : NewPolicy) (now : ℕ) (command : Command) (why : IssueError)
    → command ≡ configure_at (table_in broker) wanted now → IsReason broker command why → IsReason broker (configure_at (table_in broker) wanted now) why
refused_at broker wanted now command why is = subst (λ (c : Command). IsReason broker c why) is

-- what is in force behind it
pub in_force_behind : {D : Type 0} {g : Ghosts D} (old new : Broker D g) (wanted : NewPolicy) (now : ℕ) (command : Command) (ticket : ℕ)
    → command ≡ configure_at (table_in old) wanted now → Issues old new command ticket
    → (table_in new).policy ≡ policy_for (table_in old).policy wanted
unfolding table_after
in_force_behind old new wanted now command ticket is issued =
    ap (λ (t : Snapshot). t.policy) issued.table ∙ ap (λ (c : Command). policy_by (table_in old).policy c.kind) is

asked_once : (option : Option ℕ) (before : ℕ) → told_or option before ≡ told_or option (told_or option before)
asked_once (Some n) before = refl
asked_once None before = refl

-- what is told then is what was asked for
pub asked : (wanted : NewPolicy) (before : RetryPolicy) (pair : ℕ × ℕ) → pair ≡ pair_of (policy_for before wanted) → IsAsked wanted pair
asked wanted before pair is =
    subst (IsAsked wanted) (sym is) (asked_once wanted.retries before.retries, asked_once wanted.age before.age)
