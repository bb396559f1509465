-- The first check that fails decides.
use Rattle.async_core.specs.laws.Refusals.{refused_by_shape, refused_by_clock, judged_by_state}
use Rattle.async_core.proofs.legality.refuse.Goals as goal

pub returns-in-Err : goal.returns-in-Err
returns-in-Err c = refused_by_shape c.args.settings.now c.args.situation.now c.args.command.now c.in-Err.why c.in-Err.ensures

pub returns-in-Err-check_clock : goal.returns-in-Err-check_clock
returns-in-Err-check_clock c = refused_by_clock c.args.settings.now c.args.situation.now c.args.command.now c.in-Err-check_clock.why c.in_default.ensures c.in-Err-check_clock.ensures

pub returns : goal.returns
returns c = judged_by_state c.args.settings.now c.args.situation.now c.args.command.now _ c.in_default.ensures c.in_default-check_clock.ensures c.check_state.ensures
