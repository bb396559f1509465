use Rattle.std.proofs.Common.{sym}
use Rattle.invoke_records.specs.Spelling.{command_fault}
use Rattle.invoke_records.specs.laws.Fields.{sound_ok}
use Rattle.invoke_records.proofs.command.Command.encode_into.Goals as goal

pub returns-clause-spelled : goal.returns-clause-spelled
returns-clause-spelled c =
    record {
      id = c.id_has_16.ensures.len;
      id_bytes = c.id_has_16.ensures.bytes;
      bytes = rw (sym c.as_slice-bytes.ensures) c.are_bytes.ensures;
      fault = (sound_ok (command_fault c.args.self.now) tt tt (sym c.in_ok-check.ensures)).0;
    }
