use Rattle.std.proofs.Common.{lit<, rules, tests}
use Rattle.std.proofs.lemmas.Iterator.Search.{all_from_yields_List}
use Rattle.std.proofs.lemmas.Iterator.Splits.{YieldsList-from_str_split}
use Rattle.admin_replies.specs.Requests.{is_understood}
use Rattle.admin_replies.proofs.query.all_understood.Goals as goal

pub returns : goal.returns
returns c =
    all_from_yields_List (is_understood c.args.names.now) _ _ _ c.all.ensures.ran
    (YieldsList-from_str_split 38 c.args.query.now (lit< tt) c.split.ensures.text c.split.ensures.has_more c.split.ensures.pattern)
    (λ x b q k. search (rules, tests))
