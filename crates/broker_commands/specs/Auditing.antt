-- What the command `audit` tells, which of its faults are the device's, and the program's status for what it tells.
use Rattle.std.specs.Prelude.{◌≡◌, ℕ, List, [], ◌++◌, Bool, true, false, Option, Some, None, codes, string_bytes}
use Rattle.checkpoint.specs.declared.error.OpenError.TheVariants as open_error
use Rattle.async_core.specs.State.{State}
use Rattle.async_core.specs.Rules.{row_at, standing_at}
use Rattle.async_core.specs.Readers.{accepted_at, counts_at}
use Rattle.audit_report.specs.declared.numbers.Figures.{Figures}
use Rattle.audit_report.specs.declared.report.Older.{Older}
use Rattle.audit_report.specs.declared.report.Older.TheVariants as older
use Rattle.audit_report.specs.declared.report.Report.{Report}
use Rattle.audit_report.specs.Explanation.{explanation}
use Rattle.audit_report.specs.Figures.{AreFigures, figures_text}
use Rattle.audit_report.specs.Records.{AreRecords}
use Rattle.audit_report.specs.Report.{IsAudit, in_force_text}
use Rattle.broker_commands.specs.declared.auditing.AuditRequest.{AuditRequest}
use Rattle.broker_commands.specs.declared.auditing.AuditRequest.TheVariants as asked
use Rattle.broker_commands.specs.declared.auditing.Audit.{Audit}
use Rattle.broker_commands.specs.declared.auditing.AuditError.{AuditError}
use Rattle.broker_commands.specs.declared.auditing.AuditError.TheVariants.{Disk, Open}
use Rattle.broker_commands.specs.Opening.{is_disk_fault}
use Rattle.broker_commands.specs.declared.auditing.More.{More}
use Rattle.broker_commands.specs.declared.auditing.AuditOutput.{AuditOutput}
use Rattle.broker_commands.specs.declared.auditing.AuditOutput.TheVariants as told

-- the line of an event of this table
abbrev pub line_of : State → List ℕ → List ℕ
line_of state id =
    let row = row_at state.table id in
    explanation id (standing_at state.table id) (accepted_at row) (counts_at row)

-- ## The lines behind a report, each with its end

abbrev pub lines_of_policy : Report → Bool → List ℕ
lines_of_policy report true = in_force_text report ++ codes "\n"
lines_of_policy report false = []

abbrev pub lines_of_event : State → Option (List ℕ) → List ℕ
lines_of_event state (Some id) = line_of state id ++ codes "\n"
lines_of_event state None = []

-- what is in force, and behind it the event
abbrev pub lines_of : State → Report → More → List ℕ
lines_of state report more = lines_of_policy report more.in_force ++ lines_of_event state more.event

-- ## What is told

-- the line of the numbers of this table's events, with this report
pub record IsFiguresLine (state : State) (report : Report) (line : List ℕ) : Type 0 where
  pub figures : Figures
  pub are : AreFigures state.table.rows report figures
  pub text : line ≡ figures_text figures

-- what is told of a table and of the report on its disk where this is asked for
abbrev pub IsTold : State → Report → AuditRequest → AuditOutput → Type 0
IsTold state report (asked.Report more) (told.Report lines) = string_bytes lines ≡ lines_of state report more
IsTold state report asked.Figures (told.Figures line) = IsFiguresLine state report (string_bytes line)
IsTold state report asked.Records (told.Records lines) = AreRecords state.settings state.table.rows lines.items
IsTold state report asking telling = ⊥

-- what is told of the disk with these bytes
pub record Answers (bytes : List ℕ) (asking : AuditRequest) (audit : Audit) : Type 0 where
  pub table : State
  pub is_audit : IsAudit bytes table audit.report
  pub is_told : IsTold table audit.report asking audit.told

abbrev pub is_device_fault : AuditError → Bool
is_device_fault (Disk why) = is_disk_fault why
is_device_fault (Open open_error.Fault) = true
is_device_fault refusal = false

-- 1 where the two segments do not tell one story, else 0
abbrev pub status_for : Older → ℕ
status_for older.Differs = 1
status_for other = 0
