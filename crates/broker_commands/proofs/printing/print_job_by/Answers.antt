use Rattle.std.proofs.Common.{ℕ, ◌≤◌}
use Rattle.broker_trial.specs.Trial as trial
use Rattle.broker_commands.specs.Formatting as formatting
use Rattle.broker_commands.specs.Configuring as configuring
use Rattle.broker_commands.specs.Migrating as migrating
use Rattle.broker_commands.specs.Copying as copying
use Rattle.disk_probe.specs.Faults as probing
use Rattle.broker_commands.specs.Status.{IsJobStatus}
use Rattle.broker_commands.specs.laws.Statuses.{is_status, if_status, at_most, of_job, of_audit}
use Rattle.broker_commands.proofs.printing.print_job_by.Goals as goal

pub returns-in-Trial : goal.returns-in-Trial
returns-in-Trial g c =
    let job = is_status IsJobStatus c.print_trial.result _ (of_job trial.is_device_fault c.run_trial.result) c.print_trial.ensures in
    record { job = job; small = if_status IsJobStatus (λ (s : ℕ). s ≤ 3) c.print_trial.result at_most job }

pub returns-in-Format : goal.returns-in-Format
returns-in-Format g c =
    let job = is_status IsJobStatus c.print_format.result _ (of_job formatting.is_device_fault c.ended-made.result) c.print_format.ensures in
    record { job = job; small = if_status IsJobStatus (λ (s : ℕ). s ≤ 3) c.print_format.result at_most job }

pub returns-in-Audit : goal.returns-in-Audit
returns-in-Audit g c =
    let job = is_status IsJobStatus c.print_audit.result _ (of_audit c.ended.result) c.print_audit.ensures in
    record { job = job; small = if_status IsJobStatus (λ (s : ℕ). s ≤ 3) c.print_audit.result at_most job }

pub returns-in-Configure : goal.returns-in-Configure
returns-in-Configure g c =
    let job = is_status IsJobStatus c.print_configure.result _ (of_job configuring.is_device_fault c.ended-in-Configure.result) c.print_configure.ensures in
    record { job = job; small = if_status IsJobStatus (λ (s : ℕ). s ≤ 3) c.print_configure.result at_most job }

pub returns-in-Migrate : goal.returns-in-Migrate
returns-in-Migrate g c =
    let job = is_status IsJobStatus c.print_migrate.result _ (of_job migrating.is_device_fault c.ended-in-Migrate.result) c.print_migrate.ensures in
    record { job = job; small = if_status IsJobStatus (λ (s : ℕ). s ≤ 3) c.print_migrate.result at_most job }

pub returns-in-Copy : goal.returns-in-Copy
returns-in-Copy g c =
    let job = is_status IsJobStatus c.print_copy.result _ (of_job copying.is_device_fault c.ended-in-Copy.result) c.print_copy.ensures in
    record { job = job; small = if_status IsJobStatus (λ (s : ℕ). s ≤ 3) c.print_copy.result at_most job }

pub returns-in-Probe : goal.returns-in-Probe
returns-in-Probe g c =
    let job = is_status IsJobStatus c.print_probe.result _ (of_job probing.is_device_fault c.probe_volume.result) c.print_probe.ensures in
    record { job = job; small = if_status IsJobStatus (λ (s : ℕ). s ≤ 3) c.print_probe.result at_most job }
