use Rattle.invoke_records.proofs.Written.{limits_written}
use Rattle.invoke_records.proofs.settings_writing.add_limits.Goals as goal

pub returns : goal.returns
returns c =
    limits_written c.args.s.now c.args.out.now c.add.new.self c.add-2.new.self c.add-3.new.self c.add-4.new.self c.add-5.new.self c.add-6.new.self c.add-7.new.self
    c.add.ensures
    (rw c.to_be_bytes.ensures at c.add-2.ensures)
    (rw c.to_be_bytes-2.ensures at c.add-3.ensures)
    c.add-4.ensures
    (rw c.to_be_bytes-3.ensures at c.add-5.ensures)
    (rw c.to_be_bytes-4.ensures at c.add-6.ensures)
    (rw c.to_be_bytes-5.ensures at c.add-7.ensures)
