-- The new keys come first, and then the old ones go; or those that came go again.
use Rattle.std.proofs.Common.{Some}
use Rattle.async_core.proofs.KeySteps.{keys_switched, keys_undone}
use Rattle.async_core.proofs.keys.switch_keys.Goals as goal

pub returns-in-Err-clause-err : goal.returns-in-Err-clause-err
returns-in-Err-clause-err c = λ at keys is. keys_undone c.args.place at (Some c.args.old) (Some c.args.new) c.args.keys.now c.add_keys.new.keys c.drop_keys.new.keys keys is c.in-Err.ensures.err c.drop_keys.ensures

pub returns-clause-ok : goal.returns-clause-ok
returns-clause-ok c = λ at keys is. keys_switched c.args.place at (Some c.args.old) (Some c.args.new) c.args.keys.now c.add_keys.new.keys c.drop_keys-2.new.keys keys is c.in_default.ensures.ok c.drop_keys-2.ensures
