use Rattle.destination_json.specs.Json.{in_quotes, member}
use Rattle.destination_json.specs.Record.{latest}
use Rattle.api_core.proofs.Objects.{three}
use Rattle.api_core.proofs.texts.function_object.Goals as goal

pub returns : goal.returns
returns c =
    let s = c.args.settings.now in
    let name = member "functionName" (in_quotes s.name) in
    let version = member "functionVersion" (in_quotes latest) in
    let handler = member "handler" (in_quotes s.handler) in
    three name version c.of_text-object.result c.add_text.new.self
    (rw c.as_bytes.ensures at c.of_text-object.ensures) c.add_text.ensures
    handler c.add_text-2.new.self (rw c.as_bytes-2.ensures at c.add_text-2.ensures)
