use Rattle.std.proofs.Common.{sym, subst}
use Rattle.std.proofs.lemmas.Result.{err_from_is_err_and}
use Rattle.invoke_records.specs.Reading.{Misses}
use Rattle.invoke_records.proofs.Steps.{stopped, command_read}
use Rattle.invoke_records.proofs.command_reading.read_command.Goals as goal

pub returns-in_err-rest : goal.returns-in_err-rest
returns-in_err-rest c =
    let p = err_from_is_err_and c.from_residual.result c.from_residual.ensures.1 in
    let read = command_read c.args.bytes.now c.new-reader.result c.refuse.new.self c.read_head-head.new.reader c.check_head.new.reader c.slice-body.new.self c.read_head-head.result c.slice-body.result.now c.new-reader.ensures c.refuse.ensures c.read_head-head.ensures c.check_head.ensures c.slice-body.ensures in
    rw (p.1, p.2) (subst (Misses c.in_err-rest.field-0.0) (sym read) (stopped c.in_err-rest.field-0.0 c.slice-body.new.self _ c.in_err-rest.ensures))

pub returns : goal.returns
returns c =
    let read = command_read c.args.bytes.now c.new-reader.result c.refuse.new.self c.read_head-head.new.reader c.check_head.new.reader c.slice-body.new.self c.read_head-head.result c.slice-body.result.now c.new-reader.ensures c.refuse.ensures c.read_head-head.ensures c.check_head.ensures c.slice-body.ensures in
    rw (read, c.in_ok-rest.ensures) c.command_of.ensures
