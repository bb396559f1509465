use Rattle.std.proofs.Common.{◌+◌, sym, ◌∙◌, ap}
use Rattle.std.proofs.lemmas.Bool.{eq-eqb, ne_eqb}
use Rattle.std.proofs.lemmas.Result.{err_from_is_err_and}
use Rattle.gate_journal.specs.Frames.{is_open}
use Rattle.checkpoint.specs.Image.{header_in}
use Rattle.checkpoint.proofs.Refusals.{damage_refuses, reads_more}
use Rattle.checkpoint.proofs.Images.{shut_header, behind_gate, header_or_damage, header_there}
use Rattle.checkpoint.proofs.segment.open_header.Goals as goal

pub returns-then-gate-ne1-clause-exact : goal.returns-then-gate-ne1-clause-exact
returns-then-gate-ne1-clause-exact g c honest =
    shut_header c.args.base c.args.sectors (g.D.Disk.view c.args.disk.now).content (ap is_open (sym (c.in_ok-gate.ensures.bytes honest)) ∙ ne_eqb _ 1 c.if-gate-ne1.true)

pub returns-in_err-header-clause-reads : goal.returns-in_err-header-clause-reads
returns-in_err-header-clause-reads g c = reads_more c.read_sector.ensures.reads c.header_from.ensures.reads

pub returns-in_err-header-clause-refused : goal.returns-in_err-header-clause-refused
returns-in_err-header-clause-refused g c honest =
    let content = (g.D.Disk.view c.args.disk.now).content in
    let mid = c.read_sector.ensures.reads in
    let opened = ap is_open (sym (c.in_ok-gate.ensures.bytes honest)) ∙ eq-eqb _ 1 c.if-gate-ne1.false in
    let damage = rw (mid.untouched honest).content at c.in_err-header.ensures.refused (mid.same.honest.1 honest) in
    let p = err_from_is_err_and c.from_residual-in_err-header.result c.from_residual-in_err-header.ensures.1 in
    rw (p.1, p.2)
    (damage_refuses _ (header_in (c.args.base + 1) c.args.sectors content) _ _ damage
    (λ none. behind_gate c.args.base c.args.sectors content opened ∙ ap (header_or_damage c.args.base) none))

pub returns-clause-reads : goal.returns-clause-reads
returns-clause-reads g c = reads_more c.read_sector.ensures.reads c.header_from.ensures.reads

pub returns-clause-exact : goal.returns-clause-exact
returns-clause-exact g c honest =
    let content = (g.D.Disk.view c.args.disk.now).content in
    let mid = c.read_sector.ensures.reads in
    let opened = ap is_open (sym (c.in_ok-gate.ensures.bytes honest)) ∙ eq-eqb _ 1 c.if-gate-ne1.false in
    let found = rw (mid.untouched honest).content at c.in_ok-header.ensures.exact (mid.same.honest.1 honest) in
    header_there c.args.base c.args.sectors content c.in_ok-header.header opened found
