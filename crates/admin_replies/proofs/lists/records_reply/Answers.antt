use Rattle.std.proofs.Common.{rules, refl, Some}
use Rattle.std.specs.Option.{option_copied}
use Rattle.operator_view.specs.Page.{number_behind}
use Rattle.admin_replies.proofs.Told.{records_told}
use Rattle.admin_replies.proofs.lists.records_reply.Goals as goal

pub returns-in_ok-body-in-Ok : goal.returns-in_ok-body-in-Ok
returns-in_ok-body-in-Ok c =
    let behind = number_behind (Some c.args.side) (option_copied c.args.after) c.args.rows.now in record {
      shown = records_told behind c.args.settings.now c.args.rows.now c.args.side c.args.limit 4194304 c.in-Ok.page 200
          c.in_ok-body-in-Ok.body.items c.in_ok-body-in-Ok.next c.in-Ok.ensures.page refl c.in_ok-body-in-Ok.ensures;
      gone = search rules;
    }
