use Rattle.std.proofs.Common.{inr, subst, sym}
use Rattle.api_core.specs.Replies.{refusing}
use Rattle.http_port.specs.Answering.{Message}
use Rattle.http_front.specs.Telling.{TellsReply}
use Rattle.http_front.proofs.replying.refuse.Goals as goal

pub returns-in-Some : goal.returns-in-Some
returns-in-Some c =
    inr (subst (λ (m : Message). TellsReply c.args.manner.id (refusing c.args.manner.dialect c.args.settings.now c.args.manner.audience c.args.why) m) (sym c.new.ensures)
    c.in-Some.ensures.told)
