-- What became of a disk that is served, by what its file is known by (stat of POSIX).
use Rattle.std.specs.Prelude.{Bool, ◌==◌, ◌&&◌, not, nat_lt, if◌then◌else◌}
use Rattle.disk_guard.specs.declared.identity.Identity.{Identity}
use Rattle.disk_guard.specs.declared.identity.AtPath.{AtPath}
use Rattle.disk_guard.specs.declared.identity.AtPath.TheVariants.{Is, Nothing, Unknown}
use Rattle.disk_guard.specs.declared.identity.DiskSight.{DiskSight}
use Rattle.disk_guard.specs.declared.identity.DiskSight.TheVariants.{There, Gone, Replaced, Cut}

-- two devices by what they are, files by the file system and their number there
abbrev pub is_same_file : Identity → Identity → Bool
is_same_file one other =
    if one.is_device && other.is_device
    then one.device == other.device
    else (one.system == other.system) && (one.number == other.number)

-- a file that had a name and has none any more; a mount of that file alone shows it still
abbrev pub has_lost_its_name : (opened now : Identity) → Bool
has_lost_its_name opened now = not opened.is_device && (nat_lt 0 opened.links && (now.links == 0))

abbrev pub sight_by_name : (opened now : Identity) → DiskSight
sight_by_name opened now = if has_lost_its_name opened now then Gone else There

-- where nothing can be told of the path, it is gone by its names
abbrev pub sight_by_path : (opened now : Identity) → AtPath → DiskSight
sight_by_path opened now (Is found) = if is_same_file opened found then sight_by_name opened now else Replaced
sight_by_path opened now Nothing = Gone
sight_by_path opened now Unknown = sight_by_name opened now

-- a file that has fewer bytes is cut, whatever its path names
abbrev pub sight_of : (opened now : Identity) → AtPath → DiskSight
sight_of opened now at_path = if nat_lt now.size opened.size then Cut else sight_by_path opened now at_path
