-- The retry policy: which one is in force after a list of commands, and by which one each event is judged.
use Rattle.std.specs.Prelude.{ℕ, List, [], ◌∷◌, if◌then◌else◌}
use Rattle.std.specs.List.{list_any}
use Rattle.retry_rules.specs.declared.policy.RetryPolicy.{RetryPolicy}
use Rattle.retry_rules.specs.declared.settings.Settings.{Settings}
use Rattle.retry_rules.specs.Settings.{policy_of}
use Rattle.invoke_records.specs.declared.command.Command.{Command}
use Rattle.invoke_records.specs.declared.command.Kind.{Kind}
use Rattle.invoke_records.specs.declared.command.Kind.TheVariants.{Configure}
use Rattle.invoke_records.specs.Reading.{no_policy}
use Rattle.async_core.specs.Lives.{accepts, is_held}

-- what is in force after a command of this kind
abbrev pub policy_by : RetryPolicy → Kind → RetryPolicy
policy_by before (Configure policy) = policy
policy_by before kind = before

abbrev pub last_policy : RetryPolicy → List Command → RetryPolicy
last_policy before [] = before
last_policy before (c ∷ later) = last_policy (policy_by before c.kind) later

-- what is in force after a history: the policy of its last Configure, or that of the settings where there is none
unfoldable pub in_force : Settings → List Command → RetryPolicy
in_force s history = last_policy (policy_of s) history

-- the commands before the event's last acceptance: those behind which an acceptance of it is still to come
abbrev pub before_acceptance : List ℕ → List Command → List Command
before_acceptance id [] = []
before_acceptance id (c ∷ later) = if list_any (accepts id) later then c ∷ before_acceptance id later else []

-- what an event is judged by for all of its life: what was in force just before it was accepted; no policy where it is not held
unfoldable pub judged_by : Settings → List Command → List ℕ → RetryPolicy
judged_by s history id = if is_held id history then in_force s (before_acceptance id history) else no_policy

-- the two numbers of a policy
abbrev pub pair_of : RetryPolicy → ℕ × ℕ
pair_of policy = (policy.retries, policy.age)
