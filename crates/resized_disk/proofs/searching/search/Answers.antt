use Rattle.std.proofs.Common.{◌≡◌, ◌+◌, ◌-◌, ◌*◌, ◌/◌, length, take, sym, ◌∙◌, arith}
use Rattle.std.proofs.lemmas.List.{length-take-le}
use Rattle.resized_disk.specs.Pieces.{passes, TellsFirst}
use Rattle.resized_disk.proofs.Calls.{reads_more, cause_ok}
use Rattle.resized_disk.proofs.Places.{first_of_all, none_of_more}
use Rattle.resized_disk.proofs.searching.search.Goals as goal

pub returns-then-is_some-clause-exact : goal.returns-then-is_some-clause-exact
returns-then-is_some-clause-exact g c honest =
    let so_far = c.loop-count.invariant in
    let at = c.loop-count.at in
    let count = c.sectors_from-count.result in
    let content = (g.D.Disk.view c.args.disk.now).content in
    let now = so_far.reads.same.honest.1 honest in
    let mid = (so_far.reads.untouched honest).content in
    let size : length (take (count * 512) c.loop-count.buffer) / 512 - 1 ≡ count - 1 = omega (arith, length-take-le (count * 512) c.loop-count.buffer (omega (arith, c.sectors_from-count.ensures, c.loop-count.auto.buffer, c.requires.room))) in
    let here = c.in_ok-found.ensures.exact now in
    let there : TellsFirst (passes c.args.header.now content) at (at + (count - 1)) c.in_ok-found.found =
    (rw (mid, size) at here) in
    first_of_all (passes c.args.header.now content) c.args.from at (at + (count - 1)) _ so_far.low (omega arith) (omega (arith, c.sectors_from-count.ensures, c.sectors-sectors.ensures, c.loop-count-test.true)) (so_far.none honest) c.in_ok-found.found (sym c.is_some.ensures ∙ c.if-is_some.true) there

pub loop-count-preserved : goal.loop-count-preserved
loop-count-preserved g c =
    let so_far = c.loop-count.invariant in
    let at = c.loop-count.at in
    let count = c.sectors_from-count.result in
    let content = (g.D.Disk.view c.args.disk.now).content in
    record {
      low = omega (arith, c.sectors_from-count.ensures, c.loop-count-test.true, so_far.low);
      reads = reads_more so_far.reads c.in_ok-found.ensures.reads;
      cause = cause_ok _ so_far.cause c.in_ok-found.ensures.cause;
      none = λ honest.
          let now = so_far.reads.same.honest.1 honest in
          let mid = (so_far.reads.untouched honest).content in
          let size : length (take (count * 512) c.loop-count.buffer) / 512 - 1 ≡ count - 1 = omega (arith, length-take-le (count * 512) c.loop-count.buffer (omega (arith, c.sectors_from-count.ensures, c.loop-count.auto.buffer, c.requires.room))) in
          let here = c.in_ok-found.ensures.exact now in
          none_of_more (passes c.args.header.now content) c.args.from at (at + (count - 1)) so_far.low (omega arith) (so_far.none honest) c.in_ok-found.found (sym c.is_some.ensures ∙ c.if-is_some.false) (rw (mid, size) at here);
    }
