use Rattle.std.proofs.Common.{lit<, ◌∙◌}
use Rattle.std.proofs.lemmas.Iterator.{YieldsList-from_take}
use Rattle.std.proofs.lemmas.Iterator.Consumers.{YieldsList-at, map_from_collect}
use Rattle.std.proofs.lemmas.Iterator.Splits.{YieldsList-from_str_split}
use Rattle.api_core.specs.Paths.{path_of}
use Rattle.api_core.proofs.paths.first_parts.Goals as goal

pub returns : goal.returns
returns c =
    let path = path_of c.args.target.now in
    let parts = YieldsList-from_str_split 47 path (lit< tt) (c.split.ensures.text ∙ c.path_of.ensures) c.split.ensures.has_more c.split.ensures.pattern in
    map_from_collect _ c.collect.ensures.ran (YieldsList-from_take 7 (YieldsList-at c.take.ensures.source parts) c.take.ensures.count)
