-- A slot that waits is marked, one that has its reply is closed, and any other stays: in a broken hall none is open then.
use Rattle.std.proofs.Common.{◌≡◌, ◌∙◌, sym, Some, None, rules}
use Rattle.hall_core.specs.declared.open_slot.SlotStanding.TheVariants.{Waiting, Forgotten, Replied}
use Rattle.hall_core.proofs.Kept.{waiting_is_forgotten, replied_is_forgotten, forgotten_stays, closed_is_forgotten, closed_by_mark, closed_by_closing, forgotten_is_closed, none_is_closed}
use Rattle.hall_core.proofs.slots.Slots.forget.Goals as goal

pub returns-in-Some-Waiting-clause-by_events : goal.returns-in-Some-Waiting-clause-by_events
returns-in-Some-Waiting-clause-by_events c =
    let stands : c.standing.result ≡ Some Waiting = search rules in
    λ s events keeps. waiting_is_forgotten s c.args.self.now events c.args.slot c.mark.new.self keeps (sym c.standing.ensures ∙ stands) c.mark.ensures

pub returns-in-Some-Replied-clause-by_events : goal.returns-in-Some-Replied-clause-by_events
returns-in-Some-Replied-clause-by_events c =
    let stands : c.standing.result ≡ Some Replied = search rules in
    λ s events keeps. replied_is_forgotten s c.args.self.now events c.args.slot c.close.new.self keeps (sym c.standing.ensures ∙ stands) c.close.ensures.closed

pub returns-in-Some-Forgotten-clause-by_events : goal.returns-in-Some-Forgotten-clause-by_events
returns-in-Some-Forgotten-clause-by_events c =
    let stands : c.standing.result ≡ Some Forgotten = search rules in
    λ s events keeps. forgotten_stays s c.args.self.now events c.args.slot keeps (sym c.standing.ensures ∙ stands)

pub returns-in-None-clause-by_events : goal.returns-in-None-clause-by_events
returns-in-None-clause-by_events c =
    let stands : c.standing.result ≡ None = search rules in
    λ s events keeps. closed_is_forgotten s c.args.self.now events c.args.slot keeps (sym c.standing.ensures ∙ stands)

pub returns-in-Some-Waiting-clause-closed : goal.returns-in-Some-Waiting-clause-closed
returns-in-Some-Waiting-clause-closed c = closed_by_mark c.args.self.now c.mark.new.self c.args.slot c.mark.ensures

pub returns-in-Some-Replied-clause-closed : goal.returns-in-Some-Replied-clause-closed
returns-in-Some-Replied-clause-closed c = closed_by_closing c.args.self.now c.close.new.self c.args.slot c.close.ensures.closed

pub returns-in-Some-Forgotten-clause-closed : goal.returns-in-Some-Forgotten-clause-closed
returns-in-Some-Forgotten-clause-closed c =
    let stands : c.standing.result ≡ Some Forgotten = search rules in
    forgotten_is_closed c.args.self.now c.args.slot (sym c.standing.ensures ∙ stands)

pub returns-in-None-clause-closed : goal.returns-in-None-clause-closed
returns-in-None-clause-closed c =
    let stands : c.standing.result ≡ None = search rules in
    none_is_closed c.args.self.now c.args.slot (sym c.standing.ensures ∙ stands)
