use Rattle.std.proofs.Common.{Err, ap, refl}
use Rattle.std.proofs.lemmas.Result.{err_from_is_err_and}
use Rattle.checkpoint.proofs.Refusals.{reads_more, damage_refuses, journal_refuses}
use Rattle.checkpoint.proofs.Segments.{no_snapshot, behind_snapshot}
use Rattle.checkpoint.proofs.segment.read_segment.Goals as goal

pub returns-in_err-snapshot-clause-refused : goal.returns-in_err-snapshot-clause-refused
returns-in_err-snapshot-clause-refused g c honest =
    let content = (g.D.Disk.view c.args.disk.now).content in
    let found = c.args.found in
    let p = err_from_is_err_and c.from_residual.result c.from_residual.ensures.1 in
    rw (p.1, p.2) (damage_refuses _ _ _ _ (c.in_err-snapshot.ensures.refused honest) (no_snapshot found.base c.args.sectors found.header content))

pub returns-in_err-journal-clause-refused : goal.returns-in_err-journal-clause-refused
returns-in_err-journal-clause-refused g c honest =
    let content = (g.D.Disk.view c.args.disk.now).content in
    let found = c.args.found in
    let mid = c.snapshot_from.ensures.reads in
    let snapshot = c.in_ok-snapshot.snapshot in
    let p = err_from_is_err_and c.from_residual-in_err-journal.result c.from_residual-in_err-journal.ensures.1 in
    rw (p.1, p.2)
    (journal_refuses _ _
    (λ sector is.
    let frames = c.in_err-journal.ensures.damaged (mid.same.honest.1 honest) sector (ap Err is) in
    behind_snapshot found.base c.args.sectors found.header content snapshot (Err sector) (c.in_ok-snapshot.ensures.exact honest)
    (rw (c.sectors_for.ensures, (mid.untouched honest).content) at frames)))

pub returns-clause-reads : goal.returns-clause-reads
returns-clause-reads g c = reads_more c.snapshot_from.ensures.reads (record { same = c.read_all.ensures.same; untouched = c.read_all.ensures.untouched })

pub returns-clause-exact : goal.returns-clause-exact
returns-clause-exact g c honest =
    let mid = c.snapshot_from.ensures.reads in
    let read = c.in_ok-journal.ensures.read (mid.same.honest.1 honest) in
    record {
      frames = read.0;
      version = refl;
      base = refl;
      generation = refl;
      settings = refl;
      snapshot = c.in_ok-snapshot.ensures.exact honest;
      holds = rw (c.sectors_for.ensures, (mid.untouched honest).content) at read.2;
      behind = read.1;
    }
