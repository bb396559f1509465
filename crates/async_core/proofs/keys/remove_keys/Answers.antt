-- The old keys go.
use Rattle.std.proofs.Common.{Some, None, refl}
use Rattle.async_core.proofs.KeySteps.{keys_gone}
use Rattle.async_core.proofs.keys.remove_keys.Goals as goal

pub returns : goal.returns
returns c = λ at keys is. keys_gone c.args.place at (Some c.args.old) None c.args.keys.now c.args.keys.now c.drop_keys.new.keys keys is refl c.drop_keys.ensures
