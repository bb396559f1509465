use Rattle.std.proofs.Common.{◌≡◌, refl, ap, ◌∙◌}
use Rattle.std.specs.Ordering.{is_eq, nat_cmp}
use Rattle.std.proofs.lemmas.Iterator.{YieldsList-from_slice}
use Rattle.std.proofs.lemmas.Iterator.Consumers.{YieldsList-from_first, YieldsList-from_copied}
use Rattle.std.proofs.lemmas.Iterator.Search.{cmp_from_yields_List}
use Rattle.std.proofs.lemmas.Map.Text.{is_eq-slice_cmp}
use Rattle.percent_encoding.specs.Iter.{decoded_bytes}
use Rattle.percent_encoding.specs.Percent.{percent_decode}
use Rattle.api_core.proofs.paths.decodes_to.Goals as goal

pub returns : goal.returns
returns c =
    let part = c.args.part.now in
    let bytes = c.args.bytes.now in
    let decoded = YieldsList-from_first (λ x. x) decoded_bytes (percent_decode part)
    (c.percent_decode.ensures.bytes ∙ ap percent_decode c.as_bytes.ensures.value) in
    c.is_eq.ensures
    ∙ ap is_eq (cmp_from_yields_List (λ x y. y ≡ x) _ nat_cmp c.cmp.result c.cmp.ensures.ran decoded
    (λ it e. YieldsList-from_copied (YieldsList-from_slice bytes cc)) (λ x y. refl))
    ∙ is_eq-slice_cmp (percent_decode part) bytes
