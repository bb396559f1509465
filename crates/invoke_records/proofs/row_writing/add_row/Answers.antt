use Rattle.invoke_records.proofs.Written.{row_written}
use Rattle.invoke_records.proofs.row_writing.add_row.Goals as goal

pub returns : goal.returns
returns c =
    row_written c.args.row.now c.args.out.now c.add.new.self c.add-2.new.self c.add-3.new.self
    (rw c.row_head.ensures at c.add.ensures)
    (rw c.as_slice.ensures at c.add-2.ensures)
    (rw c.answer_bytes_of.ensures at c.add-3.ensures)
