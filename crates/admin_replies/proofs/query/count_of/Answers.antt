-- What the filter keeps is what is counted.
use Rattle.std.proofs.Common.{◌∙◌, lit<, rules, tests}
use Rattle.std.proofs.lemmas.Iterator.Consumers.{count_from_yields_List, YieldsList-from_filter}
use Rattle.std.proofs.lemmas.Iterator.Splits.{YieldsList-from_str_split}
use Rattle.std.proofs.lemmas.List.Sums.{length-filter}
use Rattle.admin_replies.specs.Requests.{is_named, parts_of}
use Rattle.admin_replies.proofs.query.count_of.Goals as goal

pub returns : goal.returns
returns c =
    count_from_yields_List c.filter.result _ c.count.ensures.ran
    (YieldsList-from_filter _ (is_named c.args.name)
    (YieldsList-from_str_split 38 c.args.query.now (lit< tt) (cc) (cc) (cc)) c.filter.ensures.closure (λ x r q k. search (rules, tests)))
    ∙ length-filter (is_named c.args.name) (parts_of c.args.query.now)
