use Rattle.std.proofs.Common.{[], ◌∷◌, codes, decimal}
use Rattle.destination_json.specs.Json.{in_quotes, member}
use Rattle.api_core.specs.Replies.{reason_text}
use Rattle.api_core.proofs.Objects.{three, ended}
use Rattle.api_core.proofs.texts.shutdown_text.Goals as goal

pub returns : goal.returns
returns c =
    let kind = member "eventType" (in_quotes (codes "SHUTDOWN")) in
    let reason = member "shutdownReason" (in_quotes (reason_text c.args.dialect c.args.reason)) in
    let deadline = member "deadlineMs" (decimal c.args.deadline) in
    ended (kind ∷ reason ∷ deadline ∷ []) c.add_member.new.self c.end.result
    (three kind reason c.of_text-object.result c.add_text.new.self c.of_text-object.ensures
    (rw (c.as_bytes.ensures.value, c.reason_text.ensures) at c.add_text.ensures)
    deadline c.add_member.new.self (rw (c.as_bytes-2.ensures.value, c.in_ok-deadline.ensures) at c.add_member.ensures))
    c.end.ensures
