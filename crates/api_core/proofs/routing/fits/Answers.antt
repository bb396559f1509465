use Rattle.api_core.specs.Paths.{fits}
use Rattle.api_core.proofs.routing.fits.Goals as goal

pub returns : goal.returns
unfolding fits
returns c =
    rw (c.deref.ensures.value, c.in_ok-pieces.ensures, c.line.ensures.path) at c.all_taken.ensures
