-- The numbers of a disk at rest, and their line, as JSON without spaces:
-- `{"generation":N,"number":N,"held":N,"waiting":N,"due_again":N,"running":N,"success":N,"retries_exhausted":N,
-- "event_age_exceeded":N,"oldest_waiting":N,"oldest_record":N,"older":"S","retries":N,"age":N}`, on one line. A moment is `null`
-- where there is none.
use Rattle.std.specs.Prelude.{◌≡◌, ℕ, List, ◌++◌, Option, None, Some, codes, decimal}
use Rattle.invoke_records.specs.declared.row.EventRow.{EventRow}
use Rattle.operator_view.specs.Census.{IsCensus, oldest_waiting, ends, least}
use Rattle.operator_view.specs.declared.numbers.Census.{Census}
use Rattle.audit_report.specs.declared.report.Report.{Report}
use Rattle.audit_report.specs.declared.report.Older.{Older}
use Rattle.audit_report.specs.declared.report.Older.TheVariants as older
use Rattle.audit_report.specs.declared.numbers.Figures.{Figures}

-- the numbers of these events, with what a report tells of their disk
pub record AreFigures (rows : List EventRow) (report : Report) (figures : Figures) : Type 0 where
  pub generation : figures.generation ≡ report.generation
  pub number : figures.number ≡ report.number
  pub census : IsCensus rows figures.census
  pub oldest_waiting : figures.oldest_waiting ≡ oldest_waiting rows
  pub oldest_record : figures.oldest_record ≡ least (ends rows)
  pub older : figures.older ≡ report.older
  pub retries : figures.retries ≡ report.retries
  pub age : figures.age ≡ report.age

-- ## Their line, piece by piece

abbrev pub number_members : ℕ → ℕ → List ℕ
number_members generation number = codes "\"generation\":" ++ (decimal generation ++ (codes ",\"number\":" ++ decimal number))

abbrev pub standing_members : Census → List ℕ
standing_members census =
    codes ",\"held\":"
    ++ (decimal census.held
    ++ (codes ",\"waiting\":"
    ++ (decimal census.waiting ++ (codes ",\"due_again\":" ++ (decimal census.due_again ++ (codes ",\"running\":" ++ decimal census.running))))))

abbrev pub ended_members : Census → List ℕ
ended_members census =
    codes ",\"success\":"
    ++ (decimal census.success
    ++ (codes ",\"retries_exhausted\":"
    ++ (decimal census.retries_exhausted ++ (codes ",\"event_age_exceeded\":" ++ decimal census.event_age_exceeded))))

abbrev pub moment_text : Option ℕ → List ℕ
moment_text None = codes "null"
moment_text (Some moment) = decimal moment

abbrev pub moment_members : Option ℕ → Option ℕ → List ℕ
moment_members waiting ended =
    codes ",\"oldest_waiting\":" ++ (moment_text waiting ++ (codes ",\"oldest_record\":" ++ moment_text ended))

abbrev pub older_word : Older → List ℕ
older_word older.None = codes "none"
older_word older.Agrees = codes "agrees"
older_word (older.Ahead more) = codes "ahead " ++ decimal more
older_word older.Differs = codes "differs"

abbrev pub older_member : Older → List ℕ
older_member told = codes ",\"older\":\"" ++ (older_word told ++ codes "\"")

abbrev pub policy_members : ℕ → ℕ → List ℕ
policy_members retries age = codes ",\"retries\":" ++ (decimal retries ++ (codes ",\"age\":" ++ decimal age))

-- the line, without an end
unfoldable pub figures_text : Figures → List ℕ
figures_text figures =
    codes "{"
    ++ (number_members figures.generation figures.number
    ++ (standing_members figures.census
    ++ (ended_members figures.census
    ++ (moment_members figures.oldest_waiting figures.oldest_record
    ++ (older_member figures.older ++ (policy_members figures.retries figures.age ++ codes "}"))))))
