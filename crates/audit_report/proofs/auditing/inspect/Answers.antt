use Rattle.std.proofs.Common.{◌∙◌, ap}
use Rattle.async_core.specs.State.{State}
use Rattle.checkpoint.specs.declared.error.OpenError.TheVariants.{NotFormatted, Damaged, OldVersion}
use Rattle.audit_report.proofs.Audits.{leads_from, no_finding}
use Rattle.audit_report.proofs.auditing.inspect.Goals as goal

pub returns-in-Ok-clause-exact : goal.returns-in-Ok-clause-exact
returns-in-Ok-clause-exact g c honest =
    let live = c.in_ok-opened.ensures.live honest in
    let leads =
    leads_from c.in-Ok.live c.deref.result.now c.in_ok-opened.commands.items c.in_ok-opened.snapshot c.in_ok-opened.opened (g.D.Disk.view c.open.new.disk) (g.D.Disk.view c.args.disk.now).content live.0 live.3
    (c.open.ensures.content honest) (c.in_ok-opened.ensures.parts honest) live.1 (ap (λ (s : State). s.settings) c.in-Ok.ensures ∙ c.settings.ensures) (ap (λ (s : State). s.table) c.in-Ok.ensures) c.deref.ensures.value in
    c.tell.ensures.exact (c.open.ensures.same.honest.1 honest) _ leads

pub returns-in-Ok-clause-not_formatted : goal.returns-in-Ok-clause-not_formatted
returns-in-Ok-clause-not_formatted g c honest is =
    let live = c.in_ok-opened.ensures.live honest in
    let leads =
    leads_from c.in-Ok.live c.deref.result.now c.in_ok-opened.commands.items c.in_ok-opened.snapshot c.in_ok-opened.opened (g.D.Disk.view c.open.new.disk) (g.D.Disk.view c.args.disk.now).content live.0 live.3
    (c.open.ensures.content honest) (c.in_ok-opened.ensures.parts honest) live.1 (ap (λ (s : State). s.settings) c.in-Ok.ensures ∙ c.settings.ensures) (ap (λ (s : State). s.table) c.in-Ok.ensures) c.deref.ensures.value in
    absurd (no_finding c.tell.result NotFormatted (c.tell.ensures.refused (c.open.ensures.same.honest.1 honest) _ leads) is)

pub returns-in-Ok-clause-damaged : goal.returns-in-Ok-clause-damaged
returns-in-Ok-clause-damaged g c honest sector is =
    let live = c.in_ok-opened.ensures.live honest in
    let leads =
    leads_from c.in-Ok.live c.deref.result.now c.in_ok-opened.commands.items c.in_ok-opened.snapshot c.in_ok-opened.opened (g.D.Disk.view c.open.new.disk) (g.D.Disk.view c.args.disk.now).content live.0 live.3
    (c.open.ensures.content honest) (c.in_ok-opened.ensures.parts honest) live.1 (ap (λ (s : State). s.settings) c.in-Ok.ensures ∙ c.settings.ensures) (ap (λ (s : State). s.table) c.in-Ok.ensures) c.deref.ensures.value in
    absurd (no_finding c.tell.result (Damaged sector) (c.tell.ensures.refused (c.open.ensures.same.honest.1 honest) _ leads) is)

pub returns-in-Ok-clause-old_version : goal.returns-in-Ok-clause-old_version
returns-in-Ok-clause-old_version g c honest is =
    let live = c.in_ok-opened.ensures.live honest in
    let leads =
    leads_from c.in-Ok.live c.deref.result.now c.in_ok-opened.commands.items c.in_ok-opened.snapshot c.in_ok-opened.opened (g.D.Disk.view c.open.new.disk) (g.D.Disk.view c.args.disk.now).content live.0 live.3
    (c.open.ensures.content honest) (c.in_ok-opened.ensures.parts honest) live.1 (ap (λ (s : State). s.settings) c.in-Ok.ensures ∙ c.settings.ensures) (ap (λ (s : State). s.table) c.in-Ok.ensures) c.deref.ensures.value in
    absurd (no_finding c.tell.result OldVersion (c.tell.ensures.refused (c.open.ensures.same.honest.1 honest) _ leads) is)
