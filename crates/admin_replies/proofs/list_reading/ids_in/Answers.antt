use Rattle.std.proofs.Common.{rules, tests}
use Rattle.std.proofs.lemmas.Iterator.{items_from_collect, YieldsList-from_map}
use Rattle.std.proofs.lemmas.Iterator.Consumers.{YieldsList-at}
use Rattle.std.proofs.lemmas.Iterator.Splits.{YieldsList-from_lines}
use Rattle.uuid.specs.Text.{parsed}
use Rattle.admin_replies.proofs.list_reading.ids_in.Goals as goal

pub returns : goal.returns
returns c =
    items_from_collect _ c.collect.ensures.ran
    (YieldsList-from_map _ parsed (YieldsList-at c.map.ensures.source (YieldsList-from_lines c.args.text.now c.lines.ensures.rest))
    c.map.ensures.closure (λ x r q k. search (rules, tests)))
