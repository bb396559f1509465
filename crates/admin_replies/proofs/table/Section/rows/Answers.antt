-- Each table computes to the one that is meant.
use Rattle.std.proofs.Common.{refl}
use Rattle.admin_replies.specs.Table.{lines_of}
use Rattle.admin_replies.proofs.table.Section.rows.Goals as goal

pub returns-in-Held : goal.returns-in-Held
unfolding lines_of
returns-in-Held c = rw c.in-Held.is refl

pub returns-in-Waits : goal.returns-in-Waits
unfolding lines_of
returns-in-Waits c = rw c.in-Waits.is refl

pub returns-in-Environments : goal.returns-in-Environments
unfolding lines_of
returns-in-Environments c = rw c.in-Environments.is refl

pub returns-in-Lives : goal.returns-in-Lives
unfolding lines_of
returns-in-Lives c = rw c.in-Lives.is refl

pub returns-in-Durations : goal.returns-in-Durations
unfolding lines_of
returns-in-Durations c = rw c.in-Durations.is refl

pub returns-in-Refusals : goal.returns-in-Refusals
unfolding lines_of
returns-in-Refusals c = rw c.in-Refusals.is refl

pub returns-in-Ports : goal.returns-in-Ports
unfolding lines_of
returns-in-Ports c = rw c.in-Ports.is refl

pub returns-in-Commits : goal.returns-in-Commits
unfolding lines_of
returns-in-Commits c = rw c.in-Commits.is refl

pub returns-in-Disk : goal.returns-in-Disk
unfolding lines_of
returns-in-Disk c = rw c.in-Disk.is refl

pub returns-in-Problems : goal.returns-in-Problems
unfolding lines_of
returns-in-Problems c = rw c.in-Problems.is refl

pub returns-in-Stalled : goal.returns-in-Stalled
unfolding lines_of
returns-in-Stalled c = rw c.in-Stalled.is refl

pub returns-in-Stopping : goal.returns-in-Stopping
unfolding lines_of
returns-in-Stopping c = rw c.in-Stopping.is refl

pub returns-in-Premises : goal.returns-in-Premises
unfolding lines_of
returns-in-Premises c = rw c.in-Premises.is refl

pub returns-in-Limits : goal.returns-in-Limits
unfolding lines_of
returns-in-Limits c = rw c.in-Limits.is refl
