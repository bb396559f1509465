use Rattle.std.proofs.Common.{refl}
use Rattle.broker_core.specs.Splitting.{broker_of}
use Rattle.hall_core.proofs.Halves.{moved, joined_whole}
use Rattle.hall_core.proofs.over_half.Hall+IssueHalf.join.Goals as goal

pub returns-in-Ok-clause-stands : goal.returns-in-Ok-clause-stands
returns-in-Ok-clause-stands g c = λ past stands shared whole.
    let same = joined_whole c.args.self.issuer (broker_of c.args.disk) c.in-Ok.issuer c.in-Ok.ensures.ok whole in
    moved _ _ past stands same.0 same.1 (c.in-Ok.ensures.headline past.history stands.history shared whole)
    (record { environments = refl; wanted = refl; slots = refl; dialect = refl; stops = refl })

pub returns-in-Ok-clause-slots : goal.returns-in-Ok-clause-slots
returns-in-Ok-clause-slots g c = λ past stands. stands.slots
