use Rattle.std.proofs.Common.{◌*◌, drop, sym, ◌∙◌, ap, refl}
use Rattle.checkpoint.specs.Image.{snapshot_of}
use Rattle.checkpoint.proofs.Segments.{snapshot_front}
use Rattle.checkpoint.proofs.segment.snapshot_from.Goals as goal

pub returns-in-Some-clause-exact : goal.returns-in-Some-clause-exact
returns-in-Some-clause-exact g c honest =
    let header = c.args.header.now in
    let behind = drop (512 * c.args.sector) (g.D.Disk.view c.args.disk.now).content in
    let bytes = c.deref.ensures.value ∙ c.in_ok-bytes.ensures.bytes honest in
    sym (snapshot_front header behind) ∙ ap (snapshot_of header) (sym (rw c.sectors_for.ensures at bytes)) ∙ sym c.in_ok-snapshot.ensures.exact ∙ c.in-Some.is

pub returns-clause-refused : goal.returns-clause-refused
returns-clause-refused g c honest =
    let header = c.args.header.now in
    let behind = drop (512 * c.args.sector) (g.D.Disk.view c.args.disk.now).content in
    let bytes = c.deref.ensures.value ∙ c.in_ok-bytes.ensures.bytes honest in
    (refl, sym (snapshot_front header behind) ∙ ap (snapshot_of header) (sym (rw c.sectors_for.ensures at bytes)) ∙ sym c.in_ok-snapshot.ensures.exact ∙ c.in-None.is)
