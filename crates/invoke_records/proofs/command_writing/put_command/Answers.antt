use Rattle.invoke_records.specs.laws.Commands.{command_put}
use Rattle.invoke_records.proofs.command_writing.put_command.Goals as goal

pub returns : goal.returns
returns c =
    rw (
      c.put-6.ensures.items,
      c.put_detail.ensures.items,
      c.put-5.ensures.items,
      c.put-4.ensures.items,
      c.put-3.ensures.items,
      c.put-2.ensures.items,
      c.put.ensures.items,
      c.as_slice.ensures,
      c.to_be_bytes-3.ensures,
      c.to_be_bytes-2.ensures,
      c.to_be_bytes.ensures,
      c.byte_of.ensures,
    )
    (command_put c.args.out.now.items c.args.command.now c.args.size c.requires.size)
