use Rattle.std.proofs.Common.{refl}
use Rattle.std.proofs.lemmas.Option.{slice_get_read}
use Rattle.admin_port.proofs.Listed.{same_map}
use Rattle.admin_port.proofs.collecting.poll_at.Goals as goal

pub returns-in-Some-clause-ids : goal.returns-in-Some-clause-ids
returns-in-Some-clause-ids g c =
    let old = c.in-Some.entry.now in
    let item = c.in-Some.ensures.item in
    same_map (λ entry. entry.id) _ _ old c.poll.new.self (slice_get_read _ _ _ old refl item.3.0 item.1) c.poll.ensures.id
