use Rattle.std.proofs.Common.{refl}
use Rattle.std.proofs.lemmas.Option.{slice_get_read}
use Rattle.admin_port.proofs.Listed.{same_map}
use Rattle.admin_port.proofs.collecting.judge_at.Goals as goal

pub returns-in-Some : goal.returns-in-Some
returns-in-Some g c =
    let old = c.in-Some.entry.now in
    let item = c.in-Some.ensures.item in
    same_map (λ entry. entry.id) _ _ old c.judge.new.self (slice_get_read _ _ _ old refl item.3.0 item.1) c.judge.ensures
