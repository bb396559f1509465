use Rattle.std.proofs.Common.{[], ◌∷◌}
use Rattle.destination_json.specs.Json.{member}
use Rattle.api_core.specs.Replies.{configuration_text, concurrency_text}
use Rattle.api_core.proofs.Objects.{two, ended}
use Rattle.api_core.proofs.texts.described_text.Goals as goal

pub returns : goal.returns
returns c =
    let s = c.args.settings.now in
    let configuration = member "Configuration" (configuration_text s) in
    let concurrency = member "Concurrency" (concurrency_text s) in
    ended (configuration ∷ concurrency ∷ []) c.add_member.new.self c.end.result
    (two configuration concurrency c.of_member-object.result c.add_member.new.self
    (rw (c.deref.ensures.value, c.in_ok-configuration.ensures) at c.of_member-object.ensures)
    (rw (c.deref-2.ensures.value, c.in_ok-concurrency.ensures) at c.add_member.ensures))
    c.end.ensures
