use Rattle.std.proofs.Common.{[], ◌∷◌, decimal}
use Rattle.destination_json.specs.Json.{member}
use Rattle.api_core.proofs.Objects.{ended}
use Rattle.api_core.proofs.texts.concurrency_text.Goals as goal

pub returns : goal.returns
returns c =
    let most = member "ReservedConcurrentExecutions" (decimal c.args.settings.now.concurrency) in
    ended (most ∷ []) c.of_member.result c.end.result
    (rw (c.as_bytes.ensures.value, c.in_ok-most.ensures) at c.of_member.ensures)
    c.end.ensures
