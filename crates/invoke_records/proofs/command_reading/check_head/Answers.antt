use Rattle.invoke_records.proofs.Steps.{head_checked}
use Rattle.invoke_records.proofs.command_reading.check_head.Goals as goal

pub returns : goal.returns
returns c =
    rw (c.refuse-5.ensures, c.refuse-4.ensures, c.refuse-3.ensures, c.refuse-2.ensures, c.refuse.ensures, c.least_length_of.ensures, c.most_length_of.ensures, c.has_bad_id-is_of_event.ensures, c.has_bad_environment-is_bad.ensures)
    (head_checked c.args.head.now c.args.reader.now)
