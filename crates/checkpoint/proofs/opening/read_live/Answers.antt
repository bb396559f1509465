use Rattle.std.proofs.Common.{◌≡◌, ◌*◌, ◌/◌, length, Option, Result, sym, ◌∙◌, ap}
use Rattle.std.proofs.lemmas.Result.{err_from_is_err_and, IfOk-weaker, IfErr-weaker}
use Rattle.checkpoint.specs.declared.header.Header.{Header}
use Rattle.checkpoint.specs.declared.error.OpenError.{OpenError}
use Rattle.checkpoint.specs.Image.{open_header, read_image}
use Rattle.checkpoint.specs.ReadSteps.{by_headers, segments_in}
use Rattle.checkpoint.proofs.Refusals.{reads_more, refuses_along, err_refuses}
use Rattle.checkpoint.proofs.Images.{too_few, by_both}
use Rattle.checkpoint.proofs.Lives.{opened_along}
use Rattle.checkpoint.proofs.opening.read_live.Goals as goal

pub returns-then-sectors-lt6-clause-refused : goal.returns-then-sectors-lt6-clause-refused
returns-then-sectors-lt6-clause-refused g c honest =
    let content = (g.D.Disk.view c.args.disk.now).content in
    let sectors = c.sectors-sectors.result in
    let size : length content ≡ 512 * sectors = rw c.sectors-sectors.ensures (g.met.D.Disk.laws c.args.disk.now honest).size in
    too_few content sectors size c.if-sectors-lt6.true

pub returns-in_err-a-clause-refused : goal.returns-in_err-a-clause-refused
returns-in_err-a-clause-refused g c honest =
    let content = (g.D.Disk.view c.args.disk.now).content in
    let sectors = c.sectors-sectors.result in
    let half = sectors / 2 in
    let size : length content ≡ 512 * sectors = rw c.sectors-sectors.ensures (g.met.D.Disk.laws c.args.disk.now honest).size in
    let p = err_from_is_err_and c.from_residual.result c.from_residual.ensures.1 in
    rw (p.1, p.2)
    (refuses_along _ (open_header 0 half content) (read_image content)
    (λ e is. by_both content sectors size c.if-sectors-lt6.false ∙ ap (λ (r : Result (Option Header) OpenError). by_headers half content r (open_header half half content)) is)
    (c.in_err-a.ensures.refused honest))

pub returns-in_err-b-clause-refused : goal.returns-in_err-b-clause-refused
returns-in_err-b-clause-refused g c honest =
    let content = (g.D.Disk.view c.args.disk.now).content in
    let sectors = c.sectors-sectors.result in
    let half = sectors / 2 in
    let size : length content ≡ 512 * sectors = rw c.sectors-sectors.ensures (g.met.D.Disk.laws c.args.disk.now honest).size in
    let mid = c.open_header.ensures.reads in
    let refused = rw (mid.untouched honest).content at c.in_err-b.ensures.refused (mid.same.honest.1 honest) in
    let p = err_from_is_err_and c.from_residual-in_err-b.result c.from_residual-in_err-b.ensures.1 in
    rw (p.1, p.2)
    (refuses_along _ (open_header half half content) (read_image content)
    (λ e is. by_both content sectors size c.if-sectors-lt6.false ∙ (λ i. by_headers half content (c.in_ok-a.ensures.exact honest i) (is i)))
    refused)

pub returns-in_err-live-clause-refused : goal.returns-in_err-live-clause-refused
returns-in_err-live-clause-refused g c honest =
    let content = (g.D.Disk.view c.args.disk.now).content in
    let sectors = c.sectors-sectors.result in
    let half = sectors / 2 in
    let size : length content ≡ 512 * sectors = rw c.sectors-sectors.ensures (g.met.D.Disk.laws c.args.disk.now honest).size in
    let mid = c.open_header.ensures.reads in
    let second = rw (mid.untouched honest).content at c.in_ok-b.ensures.exact (mid.same.honest.1 honest) in
    let read = by_both content sectors size c.if-sectors-lt6.false ∙ (λ i. by_headers half content (c.in_ok-a.ensures.exact honest i) (second i)) in
    let p = err_from_is_err_and c.from_residual-in_err-live.result c.from_residual-in_err-live.ensures.1 in
    rw (p.1, p.2) (err_refuses _ (read_image content) (read ∙ ap (segments_in half content) (sym c.in_err-live.ensures.exact)))

pub returns-clause-reads : goal.returns-clause-reads
returns-clause-reads g c = reads_more (reads_more c.open_header.ensures.reads c.open_header-2.ensures.reads) c.read_found.ensures.reads

pub returns-clause-exact : goal.returns-clause-exact
returns-clause-exact g c honest =
    let content = (g.D.Disk.view c.args.disk.now).content in
    let sectors = c.sectors-sectors.result in
    let half = sectors / 2 in
    let size : length content ≡ 512 * sectors = rw c.sectors-sectors.ensures (g.met.D.Disk.laws c.args.disk.now honest).size in
    let mid = c.open_header.ensures.reads in
    let both = reads_more mid c.open_header-2.ensures.reads in
    let second = rw (mid.untouched honest).content at c.in_ok-b.ensures.exact (mid.same.honest.1 honest) in
    let read = by_both content sectors size c.if-sectors-lt6.false ∙ (λ i. by_headers half content (c.in_ok-a.ensures.exact honest i) (second i)) in
    let found = rw (both.untouched honest).content at c.read_found.ensures.exact (both.same.honest.1 honest) in
    IfOk-weaker c.read_found.result _ _
    (λ r is. opened_along _ (read_image content) content r.0 r.1 r.2.items (read ∙ ap (segments_in half content) (sym c.in_ok-live.ensures.exact)) is)
    found

pub returns-clause-refused : goal.returns-clause-refused
returns-clause-refused g c honest =
    let content = (g.D.Disk.view c.args.disk.now).content in
    let sectors = c.sectors-sectors.result in
    let half = sectors / 2 in
    let size : length content ≡ 512 * sectors = rw c.sectors-sectors.ensures (g.met.D.Disk.laws c.args.disk.now honest).size in
    let mid = c.open_header.ensures.reads in
    let both = reads_more mid c.open_header-2.ensures.reads in
    let second = rw (mid.untouched honest).content at c.in_ok-b.ensures.exact (mid.same.honest.1 honest) in
    let read = by_both content sectors size c.if-sectors-lt6.false ∙ (λ i. by_headers half content (c.in_ok-a.ensures.exact honest i) (second i)) in
    let refused = rw (both.untouched honest).content at c.read_found.ensures.refused (both.same.honest.1 honest) in
    let same = read ∙ ap (segments_in half content) (sym c.in_ok-live.ensures.exact) in
    IfErr-weaker c.read_found.result _ _ (λ why is. refuses_along why _ (read_image content) (λ e err. same ∙ err) is) refused

pub returns-in_err-a-clause-reads : goal.returns-in_err-a-clause-reads
returns-in_err-a-clause-reads g c = c.open_header.ensures.reads

pub returns-in_err-b-clause-reads : goal.returns-in_err-b-clause-reads
returns-in_err-b-clause-reads g c = reads_more c.open_header.ensures.reads c.open_header-2.ensures.reads

pub returns-in_err-live-clause-reads : goal.returns-in_err-live-clause-reads
returns-in_err-live-clause-reads g c = reads_more c.open_header.ensures.reads c.open_header-2.ensures.reads
