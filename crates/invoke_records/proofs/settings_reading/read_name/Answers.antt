use Rattle.retry_rules.specs.Settings.{is_name_byte}
use Rattle.invoke_records.proofs.Steps.{text_read}
use Rattle.invoke_records.proofs.settings_reading.read_name.Goals as goal

pub returns : goal.returns
returns c =
    rw (c.refuse-3.ensures, c.has_name_bytes.ensures)
    (text_read 64 is_name_byte c.args.reader.now c.byte-size.result c.byte-size.new.self c.slice-text.result.now c.slice-text.new.self c.byte-size.ensures
    (rw (← c.refuse.ensures, ← c.refuse-2.ensures) c.slice-text.ensures))
