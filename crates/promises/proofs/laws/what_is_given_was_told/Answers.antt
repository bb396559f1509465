use Rattle.hall_core.specs.Hall.{view_of}
use Rattle.promises.specs.laws.Given.{given_is_told}
use Rattle.promises.proofs.laws.what_is_given_was_told.Goals as goal

pub returns : goal.returns
returns g c = λ life slot stands gives. given_is_told (view_of g.I.Issuer.view c.args.hall.now) life slot c.args.given.now stands gives
