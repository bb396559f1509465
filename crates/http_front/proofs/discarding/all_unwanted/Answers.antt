use Rattle.std.proofs.Common.{rules, tests}
use Rattle.std.proofs.lemmas.Iterator.{items_from_collect, YieldsList-from_slice, YieldsList-from_map}
use Rattle.std.proofs.lemmas.Iterator.Consumers.{YieldsList-at, YieldsList-from_filter}
use Rattle.invoke_records.specs.declared.row.EventRow.{EventRow}
use Rattle.http_front.specs.Discarding.{is_unwanted}
use Rattle.http_front.proofs.discarding.all_unwanted.Goals as goal

pub returns : goal.returns
returns c =
    items_from_collect _ c.collect.ensures.ran
    (YieldsList-from_map _ (λ (r : EventRow). r.id)
    (YieldsList-at c.map.ensures.source (YieldsList-from_filter _ (λ (r : EventRow). is_unwanted c.args.discard r.standing)
    (YieldsList-from_slice c.args.rows.now cc) c.filter.ensures.closure (λ x r q k. search (rules, tests))))
    c.map.ensures.closure (λ x r q k. search (rules, tests)))
