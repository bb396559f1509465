use Rattle.broker_opening.proofs.Interrupting.{rest_kept}
use Rattle.broker_opening.proofs.resting.resume.Goals as goal

pub returns-in-Ok-clause-rest : goal.returns-in-Ok-clause-rest
returns-in-Ok-clause-rest g c = λ history stands.
    rest_kept g.D.Disk.view history c.interrupt_attempts.new.broker c.settle.new.broker c.in-Ok.ensures.ok.settings c.in-Ok.ensures.stands
    (c.in_ok-interrupt_attempts.ensures.rest history stands)
