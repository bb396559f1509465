use Rattle.std.proofs.Common.{refl, sym, subst}
use Rattle.std.proofs.lemmas.Result.{err_from_is_err_and}
use Rattle.invoke_records.specs.Reading.{Fails}
use Rattle.invoke_records.proofs.Steps.{fails_then, fails_by, stopped, snapshot_read}
use Rattle.invoke_records.proofs.snapshot_record.read_snapshot.Goals as goal

pub returns-in_err-rest : goal.returns-in_err-rest
returns-in_err-rest c =
    let p = err_from_is_err_and c.from_residual.result c.from_residual.ensures.1 in
    let read = snapshot_read c.args.version c.args.bytes.now c.new-reader.result c.limit64-number.new.self c.limit64-last_moment.new.self c.policy_in-policy.new.self c.sized-count.new.self c.limit64-number.result c.limit64-last_moment.result c.policy_in-policy.result c.sized-count.result c.new-reader.ensures c.limit64-number.ensures c.limit64-last_moment.ensures c.policy_in-policy.ensures c.sized-count.ensures in
    rw (p.1, p.2) (subst (Fails c.in_err-rest.field-0.0) (sym read) (fails_by c.in_err-rest.field-0.0 _ (stopped c.in_err-rest.field-0.0 c.sized-count.new.self _ c.in_err-rest.ensures)))

pub returns-in_err-rows : goal.returns-in_err-rows
returns-in_err-rows c =
    let p = err_from_is_err_and c.from_residual-in_err-rows.result c.from_residual-in_err-rows.ensures.1 in
    let read = snapshot_read c.args.version c.args.bytes.now c.new-reader.result c.limit64-number.new.self c.limit64-last_moment.new.self c.policy_in-policy.new.self c.sized-count.new.self c.limit64-number.result c.limit64-last_moment.result c.policy_in-policy.result c.sized-count.result c.new-reader.ensures c.limit64-number.ensures c.limit64-last_moment.ensures c.policy_in-policy.ensures c.sized-count.ensures in
    rw (p.1, p.2, read, c.in_ok-rest.ensures) (fails_then c.in_err-rows.field-0.0 _ _ c.in_err-rows.ensures)

pub returns-then-not-are_ordered : goal.returns-then-not-are_ordered
returns-then-not-are_ordered c =
    let read = snapshot_read c.args.version c.args.bytes.now c.new-reader.result c.limit64-number.new.self c.limit64-last_moment.new.self c.policy_in-policy.new.self c.sized-count.new.self c.limit64-number.result c.limit64-last_moment.result c.policy_in-policy.result c.sized-count.result c.new-reader.ensures c.limit64-number.ensures c.limit64-last_moment.ensures c.policy_in-policy.ensures c.sized-count.ensures in
    rw (read, c.in_ok-rest.ensures, c.in_ok-rows.ensures, ← c.deref.ensures.value, ← c.in_ok-are_ordered.ensures, c.if-not-are_ordered.true) refl

pub returns : goal.returns
returns c =
    let read = snapshot_read c.args.version c.args.bytes.now c.new-reader.result c.limit64-number.new.self c.limit64-last_moment.new.self c.policy_in-policy.new.self c.sized-count.new.self c.limit64-number.result c.limit64-last_moment.result c.policy_in-policy.result c.sized-count.result c.new-reader.ensures c.limit64-number.ensures c.limit64-last_moment.ensures c.policy_in-policy.ensures c.sized-count.ensures in
    rw (read, c.in_ok-rest.ensures, c.in_ok-rows.ensures, c.from_vec-rows.ensures, ← c.deref.ensures.value, ← c.in_ok-are_ordered.ensures, c.if-not-are_ordered.false) refl
