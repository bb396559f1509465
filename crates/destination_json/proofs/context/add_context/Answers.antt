use Rattle.std.proofs.Common.{[], ◌∷◌, codes}
use Rattle.std.specs.Fmt.{decimal}
use Rattle.destination_json.specs.Record.{id_text, condition_text}
use Rattle.destination_json.proofs.Pieces.{context}
use Rattle.destination_json.proofs.context.add_context.Goals as goal

pub returns : goal.returns
returns c =
    let e = c.args.ended.now in
    rw (
      c.in_ok-extend_from_slice-7.ensures.items,
      c.in_ok-add_count.ensures,
      c.in_ok-extend_from_slice-6.ensures.items,
      c.in_ok-extend_from_slice-5.ensures.items,
      c.in_ok-extend_from_slice-4.ensures.items,
      c.in_ok-extend_from_slice-3.ensures.items,
      c.in_ok-extend_from_slice-2.ensures.items,
      c.in_ok-add_id.ensures,
      c.in_ok-extend_from_slice.ensures.items,
      c.as_bytes-2.ensures.value,
      c.condition.ensures,
      c.as_bytes.ensures,
    )
    (context (123 ∷ []) (125 ∷ []) (44 ∷ []) (58 ∷ []) (34 ∷ []) c.args.out.now.items (codes "requestId") (codes "functionArn") (codes "condition") (codes "approximateInvokeCount")
    (id_text e.id.now) c.args.settings.now.arn (codes ":$LATEST") (condition_text e.outcome) (decimal e.starts))
