-- The key goes.
use Rattle.std.proofs.Common.{sym}
use Rattle.async_core.proofs.KeySteps.{dropped, kept_whole}
use Rattle.async_core.proofs.keys.drop_key.Goals as goal

pub returns : goal.returns
returns c = dropped c.args.place c.args.gone c.args.index c.in-Some.at (sym c.in-Some.ensures) c.args.keys.now c.remove.new.self c.args.kept (sym c.if-has_key.ensures) (rw (← c.rank.ensures) c.remove.ensures.updates)

pub returns-then-has_key : goal.returns-then-has_key
returns-then-has_key c = kept_whole c.args.place c.args.gone c.args.index c.in-Some.at (sym c.in-Some.ensures) c.args.keys.now c.args.kept (sym c.if-has_key.ensures)
