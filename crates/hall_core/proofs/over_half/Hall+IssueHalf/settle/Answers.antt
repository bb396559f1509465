use Rattle.std.proofs.Common.{refl}
use Rattle.hall_core.proofs.Halves.{moved, keeps_unsettled}
use Rattle.hall_core.proofs.over_half.Hall+IssueHalf.settle.Goals as goal
use Rattle.hall_core.proofs.over_half.Hall+IssueHalf.settle.Goals.{then-breaks, else-breaks}

pub returns-after-breaks-clause-stands : goal.returns-after-breaks-clause-stands
returns-after-breaks-clause-stands c = λ past stands.
    let kept = keeps_unsettled _ _ c.args.outcome c.in-Err.why c.in-Err.ensures.err in
    elim c.if-breaks.branch [
      | then-breaks w ↦ rw w.self-is (moved _ _ past stands kept.settings kept.table (kept.stands past.history stands.history)
          (record { environments = refl; wanted = refl; slots = refl; dialect = refl; stops = refl }))
      | else-breaks w ↦ rw w.self-is (moved _ _ past stands kept.settings kept.table (kept.stands past.history stands.history)
          (record { environments = refl; wanted = refl; slots = refl; dialect = refl; stops = refl }))
    ]
