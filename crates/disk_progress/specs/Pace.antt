-- When it is told how far a work is.
use Rattle.std.specs.Prelude.{ℕ, ◌-◌, Bool, nat_le}
use Rattle.disk_progress.specs.declared.pace.Pace.{Pace}
use Rattle.disk_progress.specs.declared.pace.Pace.TheVariants.{WrittenOver, LineByLine}

-- between two lines: a fifth of a second where one is written over the other, ten seconds where each stays
abbrev pub millis_between : Pace → ℕ
millis_between WrittenOver = 200
millis_between LineByLine = 10000

-- so long has passed since the last one
abbrev pub is_due : Pace → ℕ → ℕ → Bool
is_due pace told now = nat_le (millis_between pace) (now - told)
