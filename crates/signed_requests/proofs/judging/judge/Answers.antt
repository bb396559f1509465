use Rattle.signed_requests.specs.Steps.{option_slice}
use Rattle.signed_requests.specs.Entries.{entries_of}
use Rattle.signed_requests.specs.Requests.{request_of}
use Rattle.signed_requests.proofs.Asked.{asked_of, taken_of}
use Rattle.signed_requests.proofs.judging.judge.Goals as goal

pub returns-clause-asked : goal.returns-clause-asked
returns-clause-asked c =
    asked_of (entries_of c.args.keys.now) c.args.right (option_slice c.args.region) c.args.now (request_of c.args.request.now) _ c.judge_all.ensures

pub returns-clause-taken : goal.returns-clause-taken
returns-clause-taken c =
    taken_of (entries_of c.args.keys.now) c.args.right (option_slice c.args.region) c.args.now (request_of c.args.request.now) _ c.judge_all.ensures
