use Rattle.std.proofs.Common.{◌≡◌, ◌+◌, max, [], ◌∷◌, ◌++◌, None, length, refl, ap, ◌∙◌, subst}
use Rattle.invoke_records.specs.declared.command.Command.{Command}
use Rattle.invoke_records.specs.declared.snapshot.Snapshot.{Snapshot}
use Rattle.async_core.specs.Rules.{refusal_at}
use Rattle.async_core.specs.History.{last_moment, refusal_of}
use Rattle.broker_core.specs.Broker.{settings_of, table_in, Stands}
use Rattle.broker_core.specs.Resume.{interrupt_at, interrupt_of}
use Rattle.broker_core.proofs.Issued.{refusal_is}
use Rattle.broker_core.proofs.Resumed.{interrupt_legal, moment-table_of, first_runs, own_reason}
use Rattle.broker_core.proofs.Rested.{all_at_rest}
use Rattle.broker_core.proofs.broker.Broker.resume.Goals as goal

pub returns-in-Ok-clause-resumes : goal.returns-in-Ok-clause-resumes
returns-in-Ok-clause-resumes g c history stands =
    let old = c.args.self.now in
    let now = c.args.now in
    let event = c.in-Some.first in
    let moment : c.last_moment.result ≡ last_moment history =
    c.last_moment.ensures ∙ ap (λ (t : Snapshot). t.last_moment) stands.table_is ∙ moment-table_of (settings_of old) history in
    let same : c.interrupt.result ≡ interrupt_of history now event = c.interrupt.ensures ∙ ap (interrupt_at event.1) (c.max-time.ensures ∙ ap (max now) moment) in
    let issued = subst (λ (command : Command). (refusal_of (settings_of old) history command ≡ None) × (c.in-Ok.ticket ≡ length history + 1) × Stands g.D.Disk.view c.issue.new.self (history ++ command ∷ [])) same
    (c.in-Ok.ensures.stands history stands) in
    (history ++ interrupt_of history now event ∷ [], (event, c.in-Some.ensures.by_history history stands.table_is, issued.0, issued.1, refl), issued.2)

pub returns-in-Err-clause-resumes : goal.returns-in-Err-clause-resumes
returns-in-Err-clause-resumes g c history stands =
    let old = c.args.self.now in
    let now = c.args.now in
    let event = c.in-Some.first in
    let moment : c.last_moment.result ≡ last_moment history =
    c.last_moment.ensures ∙ ap (λ (t : Snapshot). t.last_moment) stands.table_is ∙ moment-table_of (settings_of old) history in
    let same : c.interrupt.result ≡ interrupt_of history now event = c.interrupt.ensures ∙ ap (interrupt_at event.1) (c.max-time.ensures ∙ ap (max now) moment) in
    let legal : refusal_at (settings_of old) (table_in old) c.interrupt.result ≡ None =
    refusal_is history stands c.interrupt.result
    ∙ ap (refusal_of (settings_of old) history) same
    ∙ interrupt_legal (settings_of old) history now event stands.good stands.legal c.requires (first_runs (settings_of old) history event (c.in-Some.ensures.by_history history stands.table_is)) in
    (history, (own_reason old c.interrupt.result c.in-Err.why legal c.in-Err.ensures.reason, refl), c.in-Err.ensures.stands_refused history stands)

pub returns-in_default-clause-rested : goal.returns-in_default-clause-rested
returns-in_default-clause-rested g c history stands none =
    all_at_rest (settings_of c.args.self.now) history stands.legal (c.in_default.ensures.by_history history stands.table_is)
