-- The row that comes is first where it goes before the first so far.
use Rattle.std.proofs.Common.{◌≡◌, ◌∙◌, sym, subst, Option, Some, None, List}
use Rattle.std.specs.Borrow.{Bor}
use Rattle.std.specs.Option.{option_copied}
use Rattle.invoke_records.specs.declared.row.EventRow.{EventRow}
use Rattle.async_core.specs.declared.choice.Order.{Order}
use Rattle.async_core.specs.Choice.{IsChosen, IsLeast}
use Rattle.async_core.proofs.Choices.{chosen_unranked, chosen_first, chosen_before, chosen_after}
use Rattle.async_core.proofs.choice.better.Goals as goal

-- what is chosen, where the best so far is this
chosen_as : (order : Order) (rows : List EventRow) (best found : Option (Bor EventRow)) → best ≡ found → IsChosen order rows (option_copied best) → IsChosen order rows (option_copied found)
chosen_as order rows best found is h = subst (λ (o : Option (Bor EventRow)). IsChosen order rows (option_copied o)) is h

pub returns-in_default : goal.returns-in_default
returns-in_default c = λ rows h. chosen_unranked c.args.order rows c.args.row.now (option_copied c.args.best) (sym c.in_default.ensures) h

pub returns-in_default-best : goal.returns-in_default-best
returns-in_default-best c = λ rows h.
    chosen_first c.args.order rows c.args.row.now c.in-Some.at c.in-Some.ensures (chosen_as c.args.order rows c.args.best None c.in_default-best.is h)

pub returns-in_default-rank : goal.returns-in_default-rank
returns-in_default-rank c = λ rows h.
    let first : IsLeast c.args.order rows c.in-Some-best.first.now = chosen_as c.args.order rows c.args.best (Some c.in-Some-best.first) c.in-Some-best.is h in
    let apart : None ≡ Some first.at = c.in_default-rank.ensures ∙ first.ranked in
    absurd (cc)

pub returns-then-goes_before : goal.returns-then-goes_before
returns-then-goes_before c = λ rows h.
    let first : IsLeast c.args.order rows c.in-Some-best.first.now = chosen_as c.args.order rows c.args.best (Some c.in-Some-best.first) c.in-Some-best.is h in
    chosen_before c.args.order rows c.args.row.now c.in-Some-best.first.now c.in-Some.at c.in-Some-rank.least c.in-Some.ensures c.in-Some-rank.ensures (sym c.if-goes_before.ensures) first

pub returns-else-goes_before : goal.returns-else-goes_before
returns-else-goes_before c = λ rows h.
    let first : IsLeast c.args.order rows c.in-Some-best.first.now = chosen_as c.args.order rows c.args.best (Some c.in-Some-best.first) c.in-Some-best.is h in
    chosen_after c.args.order rows c.args.row.now c.in-Some-best.first.now c.in-Some.at c.in-Some-rank.least c.in-Some.ensures c.in-Some-rank.ensures (sym c.if-goes_before.ensures) first
