use Rattle.invoke_records.specs.Spelling.{snapshot_text}
use Rattle.invoke_records.proofs.Written.{snapshot_written, ended}
use Rattle.invoke_records.proofs.snapshot_writing.encode_snapshot.Goals as goal

pub returns-clause-ok : goal.returns-clause-ok
returns-clause-ok c =
    ended c.end.result (snapshot_text c.args.s.now) c.new-out.result c.add_rows.new.out c.new-out.ensures
    (snapshot_written c.args.s.now c.snapshot_head.result c.snapshot_head.ensures c.new-out.result c.add.new.self c.add_rows.new.out
    c.add.ensures
    (rw c.as_slice.ensures at c.add_rows.ensures))
    c.end.ensures
