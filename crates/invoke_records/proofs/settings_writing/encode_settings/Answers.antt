use Rattle.std.proofs.Common.{arith}
use Rattle.retry_rules.specs.Settings.{is_name_byte, is_plain_byte}
use Rattle.invoke_records.specs.Spelling.{settings_text}
use Rattle.invoke_records.specs.laws.Settings.{are_good, text_most}
use Rattle.invoke_records.proofs.Written.{settings_written, ended}
use Rattle.invoke_records.proofs.settings_writing.encode_settings.Goals as goal

pub returns-clause-ok : goal.returns-clause-ok
returns-clause-ok c =
    ended c.end.result (settings_text c.args.s.now) c.new-out.result c.add_text-3.new.out c.new-out.ensures
    (settings_written c.args.s.now c.new-out.result c.add_limits.new.out c.add_text.new.out c.add_text-2.new.out c.add_text-3.new.out
    c.add_limits.ensures
    (rw c.as_bytes.ensures at c.add_text.ensures)
    (rw c.as_bytes-2.ensures at c.add_text-2.ensures)
    (rw c.as_bytes-3.ensures at c.add_text-3.ensures))
    c.end.ensures

pub add_text-requires : goal.add_text-requires
add_text-requires c =
    let s = c.args.s.now in
    rw c.as_bytes.ensures (omega (arith, text_most 64 is_name_byte s.name (are_good s c.in_ok-check.ensures.good).name))

pub add_text-requires-2 : goal.add_text-requires-2
add_text-requires-2 c =
    let s = c.args.s.now in
    rw c.as_bytes-2.ensures (omega (arith, text_most 128 is_plain_byte s.handler (are_good s c.in_ok-check.ensures.good).handler))

pub add_text-requires-3 : goal.add_text-requires-3
add_text-requires-3 c =
    let s = c.args.s.now in
    rw c.as_bytes-3.ensures (omega (arith, text_most 200 is_plain_byte s.arn (are_good s c.in_ok-check.ensures.good).arn))
