-- A file of the system as contracts see it. Nothing says what stands in it: no clause of the system's calls speaks of
-- bytes, and a file's value stays the same whatever is written. So it is never honest, and no clause on bytes has its premise.
use Rattle.std.specs.Prelude.{[]}
use Rattle.std.specs.declared.fs.File.{File}
use Rattle.sector_disk.specs.RandomAccess.{FileView}
use Rattle.sector_disk.specs.declared.logged_file.LoggedFile.{LoggedFile}

-- a file of which nothing is claimed
abbrev pub unclaimed : FileView
unclaimed = record {
  content = [];
  may_leave = λ image. Unit {0};
  moment = 0;
  left_since = λ t image. Unit {0};
  honest = ⊥;
}

-- the file at a moment
abbrev pub std_view : File → FileView
std_view file = unclaimed

-- the same of one whose faults are told
abbrev pub logged_view : {L : Type 0} → LoggedFile L → FileView
logged_view file = unclaimed
