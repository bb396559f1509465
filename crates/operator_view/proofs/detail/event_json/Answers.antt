use Rattle.std.proofs.Common.{◌++◌, codes}
use Rattle.json.specs.Print.{quoted}
use Rattle.operator_view.specs.EventText.{members_text, beginning, error_member, record_json, detail_text}
use Rattle.operator_view.proofs.Behind.{five}
use Rattle.operator_view.proofs.detail.event_json.Goals as goal

pub returns : goal.returns
unfolding detail_text
returns c =
    let r = c.args.row.now in
    rw (
      c.in_ok-extend_from_slice-2.ensures.items,
      c.in_ok-add_record.ensures,
      c.in_ok-add_error_member.ensures,
      c.in_ok-add_beginning.ensures,
      c.in_ok-extend_from_slice.ensures.items,
      c.in_ok-out.ensures,
      c.as_slice.ensures,
    )
    (five (codes "{" ++ members_text r) (codes ",\"payload\":") (quoted (beginning r.payload)) (error_member r.answer) (record_json c.args.settings.now r) (codes "}"))
