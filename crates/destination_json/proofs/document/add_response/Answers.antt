use Rattle.std.proofs.Common.{[], ◌∷◌, codes}
use Rattle.destination_json.specs.Json.{in_quotes, member}
use Rattle.destination_json.specs.Steps.{after_commas}
use Rattle.destination_json.specs.Record.{latest, function_error, answer_json}
use Rattle.destination_json.proofs.Members.{joined}
use Rattle.destination_json.proofs.Pieces.{answered}
use Rattle.destination_json.proofs.document.add_response.Goals as goal

pub returns : goal.returns
returns c =
    rw (
      c.in_ok-add_answer_json.ensures,
      c.in_ok-extend_from_slice-3.ensures.items,
      c.in_ok-extend_from_slice-2.ensures.items,
      c.in_ok-extend_from_slice.ensures.items,
      c.as_bytes.ensures.value,
      c.error_member.ensures,
      joined (member "executedVersion" (in_quotes latest)) (function_error c.args.outcome),
    )
    (answered (123 ∷ []) (125 ∷ []) (44 ∷ []) (58 ∷ []) (34 ∷ []) c.args.out.now.items (codes "responseContext") (codes "responsePayload") (codes "statusCode") (codes "200") (codes "executedVersion") (codes "$LATEST")
    (after_commas (function_error c.args.outcome)) (answer_json c.args.answer.now))
