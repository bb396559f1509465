use Rattle.std.proofs.Common.{◌≡◌, ℕ, List, length, Ok, drop, sym, ◌∙◌, ap, arith}
use Rattle.std.proofs.lemmas.Result.{IfOk-weaker}
use Rattle.checkpoint.specs.Image.{header_with}
use Rattle.checkpoint.proofs.Judging.{left, behind_front, no_settings}
use Rattle.checkpoint.proofs.header.read_header.Goals as goal

pub returns-in-Ok-clause-exact : goal.returns-in-Ok-clause-exact
returns-in-Ok-clause-exact c =
    let bytes = c.args.bytes.now in
    let behind = c.split_at.result.1.now in
    let front = behind_front c.args.sectors bytes behind c.split_at.ensures.back (sym c.if-not-starts_with.ensures.value) (sym c.is_version.ensures ∙ c.if-not-is_version.false)
    (rw c.u64_at-generation.ensures at c.if-generation-lt1.false) (rw c.u64_at-generation.ensures at c.if-generation-gt-MOST_GENERATIONS.false) in
    let size : length behind ≡ 484 = omega (arith, c.split_at.ensures.back_len, c.requires) in
    c.with_settings.ensures.exact
    ∙ ap (λ (rest : List ℕ). header_with c.args.sectors bytes (Ok (c.in-Ok.settings, rest)))
    (c.split_at-in-Ok.ensures.back ∙ (λ i. drop (c.min.ensures i) behind) ∙ left c.in-Ok.taken behind size)
    ∙ ap (header_with c.args.sectors bytes) (sym c.in-Ok.ensures.exact) ∙ sym front

pub returns-in-Err-clause-exact : goal.returns-in-Err-clause-exact
returns-in-Err-clause-exact c =
    let bytes = c.args.bytes.now in
    let behind = c.split_at.result.1.now in
    IfOk-weaker c.unread.result _ _
    (λ found none.
    none.0
    ∙ sym
    (no_settings c.args.sectors bytes behind c.split_at.ensures.back (sym c.if-not-starts_with.ensures.value) (sym c.is_version.ensures ∙ c.if-not-is_version.false) (rw c.u64_at-generation.ensures at c.if-generation-lt1.false)
    (rw c.u64_at-generation.ensures at c.if-generation-gt-MOST_GENERATIONS.false) c.in-Err.why c.in-Err.ensures.exact none.1))
    c.unread.ensures
