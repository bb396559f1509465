use Rattle.signed_requests.specs.Canonical.{pair_text}
use Rattle.signed_requests.specs.Pairs.{pair_of}
use Rattle.signed_requests.proofs.Joining.{put_joined}
use Rattle.signed_requests.proofs.query.push_pairs.Goals as goal

pub returns : goal.returns
returns c =
    put_joined 38 pair_text pair_of _ _ _ _ _ _ c.in-Some.ensures.cases.0 c.in_ok-push_pair.ensures c.in_ok-push_more.ensures
