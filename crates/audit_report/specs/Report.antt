-- What a report tells of an image: what its live segment holds, and what the older one folds to.
use Rattle.std.specs.Prelude.{◌≡◌, ℕ, List, ◌++◌, length, count_by, option_map, Some, Ok, codes, decimal}
use Rattle.sector_disk.specs.Disk.{DiskView, IsSameDisk, HasRisen}
use Rattle.invoke_records.specs.declared.command.Command.{Command}
use Rattle.invoke_records.specs.declared.snapshot.Snapshot.{Snapshot}
use Rattle.async_core.specs.State.{State}
use Rattle.async_core.specs.Standings.{is_running}
use Rattle.async_core.specs.Policies.{pair_of}
use Rattle.async_core.specs.Rules.{replay}
use Rattle.checkpoint.specs.declared.opened.Opened.{Opened}
use Rattle.checkpoint.specs.Image.{DiskImage, parts_of, read_image}
use Rattle.checkpoint.specs.Live.{IsLive, settings_of}
use Rattle.checkpoint.specs.Opening.{AreLiveParts}
use Rattle.audit_report.specs.declared.counting.Counts.{Counts}
use Rattle.audit_report.specs.Counts.{is_waiting, is_success, is_failure, stands}
use Rattle.audit_report.specs.Comparison.{TellsOlder}
use Rattle.audit_report.specs.declared.report.Report.{Report}
use Rattle.audit_report.specs.declared.report.Older.{Older}
use Rattle.audit_report.specs.declared.report.Older.TheVariants as older

-- the settings of an image and the table of its live snapshot
abbrev pub live_snapshot : DiskImage → State
live_snapshot image = record { settings = image.live.settings; table = image.live.snapshot }

-- the settings of an image and the table that it recovers to
abbrev pub live_table : DiskImage → State
live_table image = record { settings = image.live.settings; table = image.live.table }

-- what is told of an image: its generation, how many commands it recovers to, how its events stand, the older segment, and the
-- retries and the age that are in force
pub record Tells (image : DiskImage) (report : Report) : Type 0 where
  pub generation : report.generation ≡ image.live.generation
  pub number : report.number ≡ image.live.table.number
  pub held : report.held ≡ length image.live.table.rows
  pub waiting : report.waiting ≡ count_by (stands is_waiting) image.live.table.rows
  pub running : report.running ≡ count_by (stands is_running) image.live.table.rows
  pub success : report.success ≡ count_by (stands is_success) image.live.table.rows
  pub failure : report.failure ≡ count_by (stands is_failure) image.live.table.rows
  pub older : TellsOlder (live_snapshot image) (option_map parts_of image.older) report.older
  pub in_force : (report.retries, report.age) ≡ pair_of image.live.table.policy

-- the bytes are read as an image, of which this is told, and this is its table
pub record IsAudit (bytes : List ℕ) (table : State) (report : Report) : Type 0 where
  pub image : DiskImage
  pub reads : read_image bytes ≡ Ok image
  pub table_is : table ≡ live_table image
  pub tells : Tells image report

-- the bytes are read as an image, of which this is told
pub record IsReportOn (bytes : List ℕ) (report : Report) : Type 0 where
  pub image : DiskImage
  pub reads : read_image bytes ≡ Ok image
  pub tells : Tells image report

-- the disk was given up, and it failed before: there it is the same disk, and its count of faults has risen
pub record HasFailed {D : Type 0} (view : D → DiskView) (fault_count : D → ℕ) (disk : D) : Type 0 where
  pub after : D
  pub same : IsSameDisk (view disk) (view after)
  pub risen : HasRisen (fault_count disk) (fault_count after)

-- ## Its steps

-- the counts that a report tells
abbrev pub counts_in : Report → Counts
counts_in report = record {
  held = report.held;
  waiting = report.waiting;
  running = report.running;
  success = report.success;
  failure = report.failure;
}

-- the disk holds these bytes, whose live segment was opened: it has this table as its snapshot, and these commands lead on from there
pub record LeadsFrom (first : State) (commands : List Command) (opened : Opened) (disk : DiskView) (bytes : List ℕ) : Type 0 where
  pub table : Snapshot
  pub live : IsLive disk opened table
  pub content : disk.content ≡ bytes
  pub parts : AreLiveParts bytes first.table commands
  pub settings : first.settings ≡ settings_of opened
  pub replayed : replay (settings_of opened) first.table commands ≡ Some table

-- ## Its lines

abbrev pub older_text : Older → List ℕ
older_text older.None = codes "older none"
older_text older.Agrees = codes "older agrees"
older_text (older.Ahead more) = codes "older ahead " ++ decimal more
older_text older.Differs = codes "older differs"

abbrev pub number_line : Report → List ℕ
number_line report = codes "generation " ++ (decimal report.generation ++ (codes " number " ++ (decimal report.number ++ codes "\n")))

abbrev pub standing_text : Report → List ℕ
standing_text report =
    codes "held "
    ++ (decimal report.held
    ++ (codes " waiting " ++ (decimal report.waiting ++ (codes " running " ++ decimal report.running))))

abbrev pub ended_line : Report → List ℕ
ended_line report = codes " success " ++ (decimal report.success ++ (codes " failure " ++ (decimal report.failure ++ codes "\n")))

-- three lines, of which the last has no end
abbrev pub report_text : Report → List ℕ
report_text report = number_line report ++ (standing_text report ++ (ended_line report ++ older_text report.older))

-- the line that tells what is in force, without an end
abbrev pub in_force_text : Report → List ℕ
in_force_text report = codes "in force retries " ++ (decimal report.retries ++ (codes " age " ++ decimal report.age))
