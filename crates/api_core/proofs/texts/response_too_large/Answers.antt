use Rattle.std.proofs.Common.{[], ◌∷◌, ◌++◌, codes, decimal}
use Rattle.destination_json.specs.Json.{in_quotes, member}
use Rattle.api_core.proofs.Objects.{two, ended}
use Rattle.api_core.proofs.texts.response_too_large.Goals as goal

pub returns : goal.returns
returns c =
    let s = c.args.settings.now in
    let kind = member "errorType" (in_quotes (codes "Function.ResponseSizeTooLarge")) in
    let why = member "errorMessage" (in_quotes (
    codes "Response payload size exceeded maximum allowed payload size (" ++ (decimal s.response ++ codes " bytes).")
    )) in
    ended (kind ∷ why ∷ []) c.add_text.new.self c.end.result
    (two kind why c.of_text-object.result c.add_text.new.self c.of_text-object.ensures
    (rw (c.deref.ensures.value, c.in_ok-message.ensures, c.as_bytes.ensures.value, c.in_ok-most.ensures) at c.add_text.ensures))
    c.end.ensures
