-- Behind the places that were looked at, each mark is as it was; before them, none is of a sector that may differ.
use Rattle.std.proofs.Common.{◌≡◌, None, ◌<◌, length, subst, arith}
use Rattle.std.proofs.lemmas.List.{get_or_default}
use Rattle.std.proofs.lemmas.List.Elements.{All-set, AllWithin-more, AllWithin-more_set}
use Rattle.disk_guard.specs.Marks.{IsRight, Outlives}
use Rattle.disk_guard.proofs.recent.forget_in.Goals as goal
use Rattle.disk_guard.proofs.recent.forget_in.Goals.{then-touches, else-touches}

pub loop-i-preserved : goal.loop-i-preserved
loop-i-preserved c =
    let within : c.loop-i.i < length c.loop-i.marks = omega (arith, c.loop-i-test.true, c.loop-i.invariant.0) in
    elim c.if-touches.branch [
      | then-touches w ↦
          rw w.marks-is (
            subst (λ m. length m ≡ 64) w.marks-is c.if-touches.array_long,
            λ content were. All-set (IsRight content) c.loop-i.marks c.loop-i.i None tt (c.loop-i.invariant.1 content were),
            AllWithin-more_set c.loop-i.marks c.loop-i.i None within (Outlives c.args.at c.args.count) c.loop-i.invariant.2 (λ old new is differ. tt),
          )
      | else-touches w ↦
          rw w.marks-is (
            c.loop-i.invariant.0,
            c.loop-i.invariant.1,
            AllWithin-more (Outlives c.args.at c.args.count) c.loop-i.marks 0 c.loop-i.i c.loop-i.invariant.2 (λ d. subst (Outlives c.args.at c.args.count) (get_or_default c.loop-i.marks c.loop-i.i None d within) (c.touches.ensures.outlives w.if-touches.false)),
          )
    ]

pub returns : goal.returns
returns c = record {
  right = λ old new were differ k d less.
      c.loop-i.invariant.2 k d (omega (arith)) (omega (arith, less, c.loop-i.invariant.0, c.loop-i-test.false)) old new (c.loop-i.invariant.1 old were k d less) differ;
}
