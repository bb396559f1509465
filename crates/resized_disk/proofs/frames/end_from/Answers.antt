use Rattle.std.proofs.Common.{◌≡◌, ℕ, ◌+◌, ◌<◌, ◌≤◌, None, Some, min, refl, sym, ◌∙◌, ap, subst, rules, arith}
use Rattle.resized_disk.specs.Frames.{end_from}
use Rattle.resized_disk.specs.Pieces.{frame_at}
use Rattle.resized_disk.proofs.Calls.{reads_more, cause_ok}
use Rattle.resized_disk.proofs.Walk.{none_on, no_room, gate_closed, further}
use Rattle.resized_disk.proofs.frames.end_from.Goals as goal

pub loop-at-init : goal.loop-at-init
loop-at-init g c = record {
  inside = c.requires.order;
  reads = search rules;
  cause = search rules;
  walked = λ honest. ((g.D.Disk.view c.args.disk.now).sectors, omega (arith, c.requires.inside), refl);
}

pub loop-at-preserved : goal.loop-at-preserved
loop-at-preserved g c =
    let so_far = c.loop-at.invariant in
    let at = c.loop-at.at in
    let end = c.args.end in
    let sectors = c.in-Some.sectors in
    let content = (g.D.Disk.view c.args.disk.now).content in
    let room : at + 3 ≤ end = omega (arith, c.loop-at-test.true) in
    let some : 2 ≤ sectors = rw c.in-Some.is at c.in_ok-sectors.ensures.some in
    let next : min (at + sectors) end ≡ c.min-at.result = omega (arith, c.min-at.ensures, c.saturating_add.ensures, c.ranges.end.fits) in
    record {
      inside = omega (arith, c.min-at.ensures);
      reads = reads_more so_far.reads c.in_ok-sectors.ensures.reads;
      cause = cause_ok _ so_far.cause c.in_ok-sectors.ensures.cause;
      walked = λ honest.
          let now = so_far.reads.same.honest.1 honest in
          let mid = (so_far.reads.untouched honest).content in
          let walk = so_far.walked honest in
          let told : Some sectors ≡ frame_at at content = sym c.in-Some.is ∙ c.in_ok-sectors.ensures.exact now ∙ ap (frame_at at) mid in
          subst (λ (n : ℕ). (rest : ℕ) × (end ≤ n + rest) × (end_from (g.D.Disk.view c.args.disk.now).sectors end c.args.gate content ≡ end_from rest end n content)) next
          (further end at sectors content room told walk.0 (end_from (g.D.Disk.view c.args.disk.now).sectors end c.args.gate content) walk.1 walk.2 some);
    }

pub returns-in-None-clause-exact : goal.returns-in-None-clause-exact
returns-in-None-clause-exact g c honest =
    let so_far = c.loop-at.invariant in
    let at = c.loop-at.at in
    let content = (g.D.Disk.view c.args.disk.now).content in
    let room : at + 3 ≤ c.args.end = omega (arith, c.loop-at-test.true) in
    let now = so_far.reads.same.honest.1 honest in
    let walk = so_far.walked honest in
    let closed : None ≡ frame_at at content = sym c.in-None.is ∙ c.in_ok-sectors.ensures.exact now ∙ ap (frame_at at) (so_far.reads.untouched honest).content in
    sym (walk.2 ∙ none_on walk.0 c.args.end at content (gate_closed c.args.end at content room closed))

pub returns-clause-exact : goal.returns-clause-exact
returns-clause-exact g c honest =
    let at = c.loop-at.at in
    let content = (g.D.Disk.view c.args.disk.now).content in
    let few : c.args.end < at + 3 = omega (arith, c.loop-at-test.false) in
    let walk = c.loop-at.invariant.walked honest in
    sym (walk.2 ∙ none_on walk.0 c.args.end at content (no_room c.args.end at content few))
