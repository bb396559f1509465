-- Lemmas: what a hall stands for in which nothing has come yet.
use Rattle.std.proofs.Common.{◌≡◌, List, [], length, false, refl}
use Rattle.invoke_records.specs.declared.command.Command.{Command}
use Rattle.broker_core.specs.Issuer.{IsIssuer}
use Rattle.api_core.specs.Replies.{Words}
use Rattle.hall_plans.specs.Past.{opening}
use Rattle.hall_plans.specs.laws.Sound.{kept_at_opening}
use Rattle.hall_plans.specs.Environments.{HoldFor}
use Rattle.hall_core.specs.OpenSlots.{KeepFor}
use Rattle.hall_core.specs.Hall.{HallView, StandsFor, settings_in, words_in}

pub opened : (hall : HallView) (history : List Command) → IsIssuer hall.issuer → hall.issuer.stands history
    → length hall.environments ≡ hall.issuer.settings.environments → HoldFor hall.wanted hall.environments [] → ((w : Words) → KeepFor w hall.slots [])
    → hall.stops ≡ false → StandsFor hall (opening hall.wanted history)
opened hall history laws stands count hold keep stops = record {
  history = stands;
  environments = record {
    good = laws.good.check;
    table_is = (laws.each history stands).table_is;
    count = count;
    hold = hold;
    kept = kept_at_opening (settings_in hall) hall.wanted history (laws.each history stands).legal;
  };
  waits = refl;
  slots = keep (words_in hall);
  stopping = stops;
}
