-- Each one computes.
use Rattle.std.proofs.Common.{refl}
use Rattle.operator_view.specs.Verdict.{problems}
use Rattle.operator_view.proofs.examples.verdicts.Goals as goal

pub returns : goal.returns
unfolding problems
returns c = record {
  well = refl;
  hangs = refl;
  behind = refl;
  behind_and_held = refl;
  held_back = refl;
  jumped = refl;
  back = refl;
  and_back = refl;
  long_ago = refl;
  gone = refl;
  runs_on = refl;
  all_are_gone = refl;
  all_are_slow = refl;
  all_busy = refl;
  one_free = refl;
  busy_for_a_moment = refl;
  grows = refl;
  shrinks = refl;
  young_backlog = refl;
  refused = refl;
  busy = refl;
  unpolled = refl;
  quiet = refl;
  just_due = refl;
  none_due = refl;
  four_fifths = refl;
  nearly = refl;
  not_full = refl;
  full = refl;
  not_nearly = refl;
  expiring = refl;
  expired = refl;
  failing = refl;
  few_fail = refl;
  five_fail = refl;
  slow = refl;
  late = refl;
  few_slow = refl;
  five_slow = refl;
  uncollected = refl;
  none_held = refl;
}
