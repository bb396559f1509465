-- Each one computes.
use Rattle.std.proofs.Common.{refl}
use Rattle.async_core.specs.Lives.{life}
use Rattle.async_core.specs.Policies.{in_force, judged_by}
use Rattle.async_core.specs.History.{standing_in, held, last_number, table_of}
use Rattle.async_core.specs.Choice.{move_of}
use Rattle.async_core.proofs.examples.tables.Goals as goal

pub returns : goal.returns
unfolding life standing_in held last_number table_of move_of in_force judged_by
returns c = record { anew = refl; starts = refl; none_ready = refl; throttled = refl; timed_out = refl }
