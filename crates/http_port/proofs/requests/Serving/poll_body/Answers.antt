use Rattle.std.proofs.Common.{sym, ◌∙◌, option_map}
use Rattle.std.specs.Arc.{arc_value}
use Rattle.http_port.specs.Reading.{Reads}
use Rattle.http_port.proofs.Sends.{answers_read, read_by, reads_later}
use Rattle.http_port.proofs.requests.Serving.poll_body.Goals as goal

pub returns-in-Pending-clause-later : goal.returns-in-Pending-clause-later
returns-in-Pending-clause-later g c = λ answered is.
    let asks = option_map arc_value c.args.self.now.application in
    answers_read g.A.Application.answers c.args.self.now.forbidden c.args.self.now.reply asks c.args.self.now.head (Reads c.args.self.now.reading) answered
    c.in_default.is (sym c.take.ensures.value ∙ c.in_default-take.is)
    (reads_later g.A.Application.answers asks c.args.self.now.head (Reads c.args.self.now.reading) (Reads c.read_on.new.reading) answered c.in-Pending.ensures.later
    (read_by g.A.Application.answers c.args.self.now.forbidden c.take.new.self asks c.args.self.now.head (Reads c.read_on.new.reading) answered c.in_default.is c.take.ensures.after is))
