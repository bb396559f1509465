use Rattle.std.proofs.Common.{[], ◌∷◌}
use Rattle.destination_json.specs.Json.{in_quotes, member}
use Rattle.api_core.proofs.Objects.{two, ended}
use Rattle.api_core.proofs.texts.error_object.Goals as goal

pub returns : goal.returns
returns c =
    let message = member "errorMessage" (in_quotes c.args.message.now) in
    let error_type = member "errorType" (in_quotes c.args.error_type.now) in
    ended (message ∷ error_type ∷ []) c.add_text.new.self c.end.result
    (two message error_type c.of_text-object.result c.add_text.new.self
    (rw c.as_bytes.ensures.value at c.of_text-object.ensures)
    (rw c.as_bytes-2.ensures.value at c.add_text.ensures))
    c.end.ensures
