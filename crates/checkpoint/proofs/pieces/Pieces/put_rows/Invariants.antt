use Rattle.std.proofs.Common.{◌≡◌, Ok, None, length, take, drop}
use Rattle.std.specs.List.{flat_map}
use Rattle.sector_disk.specs.Disk.{HasCause}
use Rattle.invoke_records.specs.Spelling.{row_text, rows_fault}
use Rattle.checkpoint.specs.Pieces.{HasSpace, Puts}
use Rattle.checkpoint.proofs.pieces.Pieces.put_rows.Given as goal

abbrev pub invariant-loop-row : goal.invariant-loop-row
invariant-loop-row g l = record {
  spelled : rows_fault (drop l.row-index l.rows) ≡ None;
  room : HasSpace (g.D.Disk.view l.disk) l.self (length (flat_map row_text (drop l.row-index l.rows)));
  puts : Puts (g.D.Disk.view l.fn.disk) (g.D.Disk.view l.disk) l.fn.self l.self (flat_map row_text (take l.row-index l.rows)) (Ok (tt {0}));
  cause : HasCause (g.D.Disk.fault_count l.fn.disk) (g.D.Disk.fault_count l.disk) (Ok (tt {0}));
}
