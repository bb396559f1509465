use Rattle.std.proofs.Common.{sym, subst}
use Rattle.std.proofs.lemmas.Result.{err_from_is_err_and}
use Rattle.invoke_records.specs.Reading.{Misses}
use Rattle.invoke_records.proofs.Steps.{stopped, row_read}
use Rattle.invoke_records.proofs.row_reading.read_row.Goals as goal

pub returns-in_err-rest : goal.returns-in_err-rest
returns-in_err-rest c =
    let p = err_from_is_err_and c.from_residual.result c.from_residual.ensures.1 in
    let read = row_read c.args.version c.args.bytes.now c.new-reader.result c.read_life-life.new.reader c.read_counts-counts.new.reader c.slice-payload.new.self c.slice-text.new.self c.read_life-life.result c.read_counts-counts.result c.slice-payload.result.now c.slice-text.result.now c.new-reader.ensures c.read_life-life.ensures c.read_counts-counts.ensures c.slice-payload.ensures c.slice-text.ensures in
    rw (p.1, p.2) (subst (Misses c.in_err-rest.field-0.0) (sym read) (stopped c.in_err-rest.field-0.0 c.slice-text.new.self _ c.in_err-rest.ensures))

pub returns : goal.returns
returns c =
    let read = row_read c.args.version c.args.bytes.now c.new-reader.result c.read_life-life.new.reader c.read_counts-counts.new.reader c.slice-payload.new.self c.slice-text.new.self c.read_life-life.result c.read_counts-counts.result c.slice-payload.result.now c.slice-text.result.now c.new-reader.ensures c.read_life-life.ensures c.read_counts-counts.ensures c.slice-payload.ensures c.slice-text.ensures in
    rw (read, c.in_ok-rest.ensures) c.row_of.ensures
