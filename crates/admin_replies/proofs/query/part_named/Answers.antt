use Rattle.std.proofs.Common.{lit<, rules, tests}
use Rattle.std.proofs.lemmas.Iterator.Search.{find_from_yields_List}
use Rattle.std.proofs.lemmas.Iterator.Splits.{YieldsList-from_str_split}
use Rattle.admin_replies.specs.Requests.{is_named}
use Rattle.admin_replies.proofs.query.part_named.Goals as goal

pub returns : goal.returns
returns c =
    find_from_yields_List (is_named c.args.name) _ _ _ c.find.ensures.ran
    (YieldsList-from_str_split 38 c.args.query.now (lit< tt) c.split.ensures.text c.split.ensures.has_more c.split.ensures.pattern)
    (λ x b q k. search (rules, tests))
