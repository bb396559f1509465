-- The pairs that the code keeps, as those of the definitions.
use Rattle.std.specs.Prelude.{List, map}
use Rattle.signed_requests.specs.Canonical as canonical
use Rattle.signed_requests.specs.declared.query.Pair.{Pair}

abbrev pub pair_of : Pair → canonical.Pair
pair_of p = (p.name.items, p.value.items)

abbrev pub pairs_of : List Pair → List canonical.Pair
pairs_of ps = map pair_of ps
