-- When settings allow all that others allow.
use Rattle.std.specs.Prelude.{◌≡◌, ◌≤◌}
use Rattle.retry_rules.specs.declared.settings.Settings.{Settings}

-- each limit of the new settings is at least the old one, and the timeout, the concurrency and the first retry policy are the same;
-- the name, the handler and the ARN, which no rule reads, may be any
pub record AllowsAll (old new : Settings) : Type 0 where
  pub environments : old.environments ≤ new.environments
  pub events : old.events ≤ new.events
  pub payload : old.payload ≤ new.payload
  pub response : old.response ≤ new.response
  pub timeout : new.timeout ≡ old.timeout
  pub concurrency : new.concurrency ≡ old.concurrency
  pub retries : new.retries ≡ old.retries
  pub age : new.age ≡ old.age
