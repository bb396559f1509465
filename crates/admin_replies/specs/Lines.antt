-- One number in Prometheus' text form: its name and labels, a space, and the number; two lines before it where a family begins.
use Rattle.std.specs.Prelude.{ℕ, zero, suc, true, false, ◌/◌, ◌%◌, List, [], ◌++◌, codes, decimal}
use Rattle.admin_replies.specs.declared.metric.Metric.{Metric}
use Rattle.admin_replies.specs.declared.metrics.Metrics.{Metrics}
use Rattle.admin_replies.specs.declared.table.Row.{Row}
use Rattle.admin_replies.specs.declared.value.Value.{Value}
use Rattle.admin_replies.specs.declared.value.Value.TheVariants.{Whole, Milliseconds, Microseconds, Signed}
use Rattle.admin_replies.specs.Values.{value_of}

-- the last so many digits of a number
unfoldable pub last_digits : ℕ → ℕ → List ℕ
last_digits zero n = []
last_digits (suc k) n = last_digits k (n / 10) ++ decimal (n % 10)

-- so many milliseconds, in seconds
abbrev pub seconds_text : ℕ → List ℕ
seconds_text n = decimal (n / 1000) ++ (codes "." ++ last_digits 3 n)

-- the number, in seconds where it is a time
abbrev pub value_text : Value → List ℕ
value_text (Whole n) = decimal n
value_text (Milliseconds n) = seconds_text n
value_text (Signed false n) = seconds_text n
value_text (Signed true n) = codes "-" ++ seconds_text n
value_text (Microseconds n) = decimal (n / 1000000) ++ (codes "." ++ last_digits 6 n)

pub record Line : Type 0 where
  -- the lines that begin its family, if it is the first of one
  pub head : List ℕ
  -- its name and its labels
  pub name : List ℕ
  pub metric : Metric

unfoldable pub line_text : Metrics → Line → List ℕ
line_text f line = line.head ++ (line.name ++ (codes " " ++ (value_text (value_of f line.metric) ++ codes "\n")))

-- the line that a row of the program's table is
abbrev pub line_of : Row → Line
line_of r = record { head = r.head.now; name = r.name.now; metric = r.metric }
