use Rattle.invoke_records.specs.Spelling.{row_text}
use Rattle.invoke_records.proofs.Written.{ended}
use Rattle.invoke_records.proofs.row.EventRow.encode.Goals as goal

pub returns-clause-ok : goal.returns-clause-ok
returns-clause-ok c = ended c.end.result (row_text c.args.self.now) c.new-out.result c.add_row.new.out c.new-out.ensures c.add_row.ensures c.end.ensures
