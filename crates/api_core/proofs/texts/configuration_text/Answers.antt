use Rattle.std.proofs.Common.{[], ◌∷◌, codes, decimal}
use Rattle.destination_json.specs.Json.{in_quotes, member}
use Rattle.destination_json.specs.Record.{latest}
use Rattle.api_core.proofs.Objects.{three, more, ended}
use Rattle.api_core.proofs.texts.configuration_text.Goals as goal

pub returns : goal.returns
returns c =
    let s = c.args.settings.now in
    let name = member "FunctionName" (in_quotes s.name) in
    let arn = member "FunctionArn" (in_quotes s.arn) in
    let handler = member "Handler" (in_quotes s.handler) in
    let timeout = member "Timeout" (decimal s.timeout) in
    let version = member "Version" (in_quotes latest) in
    let state = member "State" (in_quotes (codes "Active")) in
    let updated = member "LastUpdateStatus" (in_quotes (codes "Successful")) in
    ended (name ∷ arn ∷ handler ∷ timeout ∷ version ∷ state ∷ updated ∷ []) c.add_text-5.new.self c.end.result
    (more name (arn ∷ handler ∷ timeout ∷ version ∷ state ∷ []) updated c.add_text-4.new.self c.add_text-5.new.self
    (more name (arn ∷ handler ∷ timeout ∷ version ∷ []) state c.add_text-3.new.self c.add_text-4.new.self
    (more name (arn ∷ handler ∷ timeout ∷ []) version c.add_member.new.self c.add_text-3.new.self
    (more name (arn ∷ handler ∷ []) timeout c.add_text-2.new.self c.add_member.new.self
    (three name arn c.of_text-object.result c.add_text.new.self
    (rw c.as_bytes.ensures at c.of_text-object.ensures) (rw c.as_bytes-2.ensures at c.add_text.ensures)
    handler c.add_text-2.new.self (rw c.as_bytes-3.ensures at c.add_text-2.ensures))
    (rw (c.as_bytes-4.ensures.value, c.in_ok-timeout.ensures) at c.add_member.ensures))
    c.add_text-3.ensures)
    c.add_text-4.ensures)
    c.add_text-5.ensures)
    c.end.ensures
