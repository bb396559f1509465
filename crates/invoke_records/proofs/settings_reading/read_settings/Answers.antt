use Rattle.std.proofs.Common.{sym, subst}
use Rattle.std.proofs.lemmas.Result.{err_from_is_err_and}
use Rattle.invoke_records.specs.Reading.{Misses}
use Rattle.invoke_records.proofs.Steps.{stopped, settings_read}
use Rattle.invoke_records.proofs.settings_reading.read_settings.Goals as goal

pub returns-in_err-rest : goal.returns-in_err-rest
returns-in_err-rest c =
    let p = err_from_is_err_and c.from_residual.result c.from_residual.ensures.1 in
    let read = settings_read c.args.bytes.now c.new-reader.result c.read_limits-limits.new.reader c.read_name-name.new.reader c.read_plain-handler.new.reader c.read_plain-arn.new.reader c.read_limits-limits.result c.read_name-name.result.now c.read_plain-handler.result.now c.read_plain-arn.result.now c.new-reader.ensures c.read_limits-limits.ensures c.read_name-name.ensures c.read_plain-handler.ensures c.read_plain-arn.ensures in
    rw (p.1, p.2) (subst (Misses c.in_err-rest.field-0.0) (sym read) (stopped c.in_err-rest.field-0.0 c.read_plain-arn.new.reader _ c.in_err-rest.ensures))

pub returns : goal.returns
returns c =
    let read = settings_read c.args.bytes.now c.new-reader.result c.read_limits-limits.new.reader c.read_name-name.new.reader c.read_plain-handler.new.reader c.read_plain-arn.new.reader c.read_limits-limits.result c.read_name-name.result.now c.read_plain-handler.result.now c.read_plain-arn.result.now c.new-reader.ensures c.read_limits-limits.ensures c.read_name-name.ensures c.read_plain-handler.ensures c.read_plain-arn.ensures in
    rw (read, c.in_ok-rest.ensures) c.settings_of.ensures
