-- A file in memory as contracts see it.
use Rattle.std.specs.Prelude.{ℕ, ◌-◌, min, length, refl}
use Rattle.std.proofs.Common.{sym, subst}
use Rattle.sector_disk.specs.Replay.{IsImage, LeftSince}
use Rattle.sector_disk.specs.RandomAccess.{FileView, IsFile}
use Rattle.sector_disk.specs.laws.Images.{reads_an_image, counts_now, only_now}
use Rattle.sector_disk.specs.declared.memory_file.MemFile.{MemFile}

-- the file at a moment: its clock is how many calls it has recorded
abbrev pub memory_view : MemFile → FileView
memory_view file = record {
  content = file.bytes.items;
  may_leave = IsImage file.first.items file.calls.items;
  moment = length file.calls.items;
  left_since = LeftSince file.first.items file.calls.items;
  honest = Unit {0};
}

-- how many of so many bytes from a place on a call reads or writes: those within the file, 1000 at most
abbrev pub count_at_once : FileView → ℕ → ℕ → ℕ
count_at_once file at size = min (min size (length file.content - at)) 1000

-- a file in memory is as a file has to be
pub memory_laws : (file : MemFile) → IsFile (memory_view file)
memory_laws file = record {
  reads_an_image =
      subst (IsImage file.first.items file.calls.items) (sym file.replayed)
      (reads_an_image file.calls.items file.first.items _ refl);
  counts_now = counts_now file.first.items file.calls.items;
  only_now = only_now file.first.items file.calls.items;
}
