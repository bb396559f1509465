use Rattle.std.proofs.Common.{[], ◌∷◌, codes, decimal}
use Rattle.destination_json.specs.Json.{in_quotes, member}
use Rattle.destination_json.specs.Record.{id_text}
use Rattle.api_core.specs.Replies.{tracing}
use Rattle.api_core.proofs.Objects.{three, more, ended}
use Rattle.api_core.proofs.texts.invoke_text.Goals as goal

pub returns : goal.returns
returns c =
    let s = c.args.settings.now in
    let kind = member "eventType" (in_quotes (codes "INVOKE")) in
    let deadline = member "deadlineMs" (decimal c.args.deadline) in
    let id = member "requestId" (in_quotes (id_text c.args.id.now)) in
    let arn = member "invokedFunctionArn" (in_quotes s.arn) in
    let traced = member "tracing" tracing in
    ended (kind ∷ deadline ∷ id ∷ arn ∷ traced ∷ []) c.add_member-2.new.self c.end.result
    (more kind (deadline ∷ id ∷ arn ∷ []) traced c.add_text-2.new.self c.add_member-2.new.self
    (more kind (deadline ∷ id ∷ []) arn c.add_text.new.self c.add_text-2.new.self
    (three kind deadline c.of_text-object.result c.add_member.new.self c.of_text-object.ensures
    (rw (c.as_bytes.ensures.value, c.in_ok-deadline.ensures) at c.add_member.ensures)
    id c.add_text.new.self (rw (c.as_bytes-2.ensures.value, c.in_ok-id.ensures) at c.add_text.ensures))
    (rw c.as_bytes-3.ensures at c.add_text-2.ensures))
    c.add_member-2.ensures)
    c.end.ensures
