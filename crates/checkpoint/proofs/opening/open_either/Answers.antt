use Rattle.std.proofs.Common.{sym, ◌∙◌, ap}
use Rattle.std.proofs.lemmas.Result.{IfOk-weaker, IfErr-weaker}
use Rattle.checkpoint.specs.Image.{read_image, read_as}
use Rattle.checkpoint.specs.ReadSteps.{live_read}
use Rattle.checkpoint.specs.Live.{live_reads}
use Rattle.checkpoint.proofs.Refusals.{refuses_along}
use Rattle.checkpoint.proofs.Lives.{is_live}
use Rattle.checkpoint.proofs.opening.open_either.Goals as goal

pub returns-clause-live : goal.returns-clause-live
returns-clause-live g c honest =
    let view = g.D.Disk.view in
    let barrier = c.in_ok-barrier.ensures.honest honest in
    let mid = view c.barrier.new.self in
    let honest_mid = c.barrier.ensures.same.honest.1 honest in
    let reads = c.read_live.ensures.reads in
    let untouched = reads.untouched honest_mid in
    let honest_new = reads.same.honest.1 honest_mid in
    let new = view c.read_live.new.disk in
    let same = untouched.content ∙ barrier.content in
    IfOk-weaker c.read_live.result _ _
    (λ r was.
    let live = is_live mid.content new (λ image left. barrier.done image ((untouched.images image).0 left) ∙ sym untouched.content) untouched.content r.0 r.1 r.2.items was in (
      was.image.live.table,
      was.replays,
      ap read_as (sym same) ∙ live_reads r.0.version new r.0 was.image.live.table live new.content (g.met.D.Disk.laws c.read_live.new.disk honest_new).reads_an_image,
      live,
    ))
    (c.read_live.ensures.exact honest_mid)

pub returns-clause-parts : goal.returns-clause-parts
returns-clause-parts g c honest =
    let mid_honest = c.barrier.ensures.same.honest.1 honest in
    let same = (c.in_ok-barrier.ensures.honest honest).content in
    IfOk-weaker c.read_live.result _ _
    (λ r was. record { image = was.image; reads = ap read_image (sym same) ∙ was.reads; parts = was.parts })
    (c.read_live.ensures.exact mid_honest)

pub returns-clause-refused : goal.returns-clause-refused
returns-clause-refused g c honest =
    let mid = g.D.Disk.view c.barrier.new.self in
    let mid_honest = c.barrier.ensures.same.honest.1 honest in
    let same = (c.in_ok-barrier.ensures.honest honest).content in
    IfErr-weaker c.read_live.result _ _
    (λ why is. refuses_along why (read_image mid.content) (read_as (g.D.Disk.view c.args.disk.now).content) (λ e err. ap read_as (sym same) ∙ ap live_read err) is)
    (c.read_live.ensures.refused mid_honest)
