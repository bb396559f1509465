use Rattle.std.proofs.Common.{[], ◌∷◌, codes}
use Rattle.async_core.specs.Readers.{told}
use Rattle.destination_json.specs.Json.{member}
use Rattle.destination_json.specs.Steps.{after_commas}
use Rattle.destination_json.specs.Stamp.{stamp_text}
use Rattle.destination_json.specs.Record.{request_context, record_text, answer_members}
use Rattle.destination_json.proofs.Members.{joined}
use Rattle.destination_json.proofs.Pieces.{whole}
use Rattle.destination_json.proofs.document.add_record.Goals as goal

pub returns : goal.returns
unfolding record_text
returns c =
    let e = c.args.ended.now in
    rw (
      c.in_ok-extend_from_slice-5.ensures.items,
      c.in_ok-add_answer.ensures,
      c.in_ok-extend_from_slice-4.ensures.items,
      c.in_ok-extend_from_slice-3.ensures.items,
      c.in_ok-add_context.ensures,
      c.in_ok-extend_from_slice-2.ensures.items,
      c.in_ok-add_stamp.ensures,
      c.in_ok-extend_from_slice.ensures.items,
      joined (member "requestPayload" e.payload.now) (answer_members e.outcome e.answer.now),
    )
    (whole (123 ∷ []) (125 ∷ []) (44 ∷ []) (58 ∷ []) (34 ∷ []) c.args.out.now.items (codes "version") (codes "timestamp") (codes "requestContext") (codes "requestPayload") (codes "1.0")
    (stamp_text e.at) (request_context c.args.settings.now (told e)) e.payload.now (after_commas (answer_members e.outcome e.answer.now)))
