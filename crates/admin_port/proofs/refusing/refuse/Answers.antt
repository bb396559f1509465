use Rattle.std.proofs.Common.{inr, subst, sym}
use Rattle.http_port.specs.Answering.{Message}
use Rattle.admin_port.specs.Replying.{TellsLine}
use Rattle.admin_port.proofs.refusing.refuse.Goals as goal

pub returns-in-Some : goal.returns-in-Some
returns-in-Some c = inr (subst (λ (m : Message). TellsLine c.args.status c.args.words.now m) (sym c.new.ensures) c.in-Some.ensures.line)
