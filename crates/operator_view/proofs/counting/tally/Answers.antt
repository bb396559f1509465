use Rattle.std.proofs.Common.{◌≡◌, ◌<◌, ◌+◌, ◌^◌, ◌++◌, ◌∷◌, [], ◌∙◌, List, length, sym, ap, subst, append_assoc, arith}
use Rattle.std.proofs.lemmas.List.{length-append}
use Rattle.invoke_records.specs.declared.row.EventRow.{EventRow}
use Rattle.operator_view.proofs.counting.tally.Goals as goal

pub loop-row-init : goal.loop-row-init
loop-row-init c =
    ([], c.into_iter-row-iterator.ensures.into_iter_gives ∙ c.rows-row-items.ensures.rows, subst (λ (l : List EventRow). length l < 2 ^ 63) c.rows-row-items.ensures.rows c.rows-row-items.ensures.fits, c.no_tally-tally.ensures.counts c.args.at, c.no_tally-tally.ensures.last_moment ∙ c.last_moment.ensures)

pub loop-row-preserved : goal.loop-row-preserved
loop-row-preserved c =
    let i = c.loop-row.invariant in
    let r = c.in-Some.row.now in
    let next : c.loop-row.row-iterator ≡ r ∷ c.next.new.self = c.in-Some.ensures.steps in
    let all : (i.0 ++ r ∷ []) ++ c.next.new.self ≡ c.args.table.now.table.rows = append_assoc i.0 (r ∷ []) c.next.new.self ∙ ap (λ (l : List EventRow). i.0 ++ l) (sym next) ∙ i.1 in
    let short : length i.0 < 2 ^ 63 = let e : length i.0 + length c.loop-row.row-iterator ≡ length c.args.table.now.table.rows = sym (length-append i.0 c.loop-row.row-iterator) ∙ ap (λ (l : List EventRow). length l) i.1 in omega (arith, e, i.2) in
    (i.0 ++ r ∷ [], all, i.2, c.tally_with-tally.ensures.counts i.0 short i.3, c.tally_with-tally.ensures.last_moment ∙ i.4)
