use Rattle.std.proofs.Common.{List, refl, ap, subst, ◌∙◌}
use Rattle.async_core.specs.State.{State}
use Rattle.hall_plans.specs.declared.environment_status.EnvironmentStatus.{EnvironmentStatus}
use Rattle.hall_plans.specs.Past.{calls_in, calls_of}
use Rattle.hall_plans.specs.Environments.{ForEachMade}
use Rattle.hall_plans.specs.Showing.{AreShownAfter}
use Rattle.hall_core.specs.Hall.{HallView, ForEachPast, view_of}
use Rattle.hall_core.specs.Seeking.{AreRowsFor, counted_for}
use Rattle.operator_view.specs.Tally.{IsTally}
use Rattle.hall_core.proofs.hall.Hall.look.Goals as goal

-- each is shown as the past of the hall left it
shown_by_past : (hall : HallView) (statuses : List EnvironmentStatus)
    → ForEachMade hall.environments (λ wanted made. AreShownAfter wanted (λ n. calls_in n made) statuses)
    → ForEachPast hall (λ past. AreShownAfter past.wanted (calls_of past) statuses)
unfolding calls_of
shown_by_past hall statuses shown past stands = shown past.wanted past.made stands.environments.hold

pub returns : goal.returns
returns g c = record {
  issued = c.number.ensures ∙ ap (λ (s : State). s.table.number) c.table-table.ensures;
  durable = c.number-2.ensures ∙ c.durable.ensures;
  policy = c.policy.ensures ∙ ap (λ (s : State). s.table.policy) c.table-table.ensures;
  tally = subst (λ (s : State). IsTally (counted_for c.args.sought s.table.rows) c.args.at c.numbers_for.result) c.table-table.ensures c.numbers_for.ensures.counts;
  last_moment = c.numbers_for.ensures.last_moment ∙ ap (λ (s : State). s.table.last_moment) c.table-table.ensures;
  sought = refl;
  rows = subst (λ (s : State). AreRowsFor c.args.sought s.table.rows c.in_ok-rows.rows) c.table-table.ensures c.in_ok-rows.ensures;
  open_slots = c.open_slots.ensures.by_parts;
  stopping = refl;
  numbers = c.in_ok-environments.ensures.numbers;
  environments =
      shown_by_past (view_of g.I.Issuer.view c.args.self.now) c.in_ok-environments.environments.items c.in_ok-environments.ensures.shown;
}
