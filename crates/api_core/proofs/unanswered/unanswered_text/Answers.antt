use Rattle.std.proofs.Common.{[], ◌∷◌}
use Rattle.async_core.specs.Readers.{told}
use Rattle.destination_json.specs.Json.{in_quotes, member}
use Rattle.api_core.specs.Unanswered.{unanswered_message}
use Rattle.api_core.proofs.Objects.{ended}
use Rattle.api_core.proofs.unanswered.unanswered_text.Goals as goal

pub returns : goal.returns
returns c =
    let why = member "errorMessage" (in_quotes (unanswered_message c.args.settings.now (told c.args.ended.now))) in
    ended (why ∷ []) c.of_text.result c.end.result
    (rw (c.deref.ensures.value, c.in_ok-message.ensures) at c.of_text.ensures)
    c.end.ensures
