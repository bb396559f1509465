-- The new keys come, or those that came go again.
use Rattle.std.proofs.Common.{Some, None, refl}
use Rattle.async_core.proofs.KeySteps.{keys_inserted, keys_undone}
use Rattle.async_core.proofs.keys.insert_keys.Goals as goal

pub returns-in-Err-clause-err : goal.returns-in-Err-clause-err
returns-in-Err-clause-err c = λ at keys is. keys_undone c.args.place at None (Some c.args.new) c.args.keys.now c.add_keys.new.keys c.drop_keys.new.keys keys is c.in-Err.ensures.err c.drop_keys.ensures

pub returns-clause-ok : goal.returns-clause-ok
returns-clause-ok c = λ at keys is. keys_inserted c.args.place at None (Some c.args.new) c.args.keys.now c.args.keys.now c.add_keys.new.keys keys is refl c.in_default.ensures.ok
