use Rattle.std.proofs.Common.{[], ◌∷◌}
use Rattle.destination_json.specs.Json.{in_quotes, member}
use Rattle.api_core.specs.Refusals.{fault_of, blamed}
use Rattle.api_core.proofs.Objects.{three, ended}
use Rattle.api_core.proofs.texts.service_object.Goals as goal

pub returns : goal.returns
returns c =
    let kind = member "Type" (in_quotes (blamed (fault_of c.args.why).status)) in
    let lower = member "message" (in_quotes c.args.message.now) in
    let upper = member "Message" (in_quotes c.args.message.now) in
    ended (kind ∷ lower ∷ upper ∷ []) c.add_text-2.new.self c.end.result
    (three kind lower c.of_text-object.result c.add_text.new.self
    (rw (c.as_bytes.ensures.value, c.blamed.ensures) at c.of_text-object.ensures)
    c.add_text.ensures
    upper c.add_text-2.new.self c.add_text-2.ensures)
    c.end.ensures
