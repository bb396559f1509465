use Rattle.std.proofs.Common.{◌∙◌, sym, ap, ◌+◌, ◌*◌, map, nat_le}
use Rattle.std.specs.List.{list_all}
use Rattle.std.proofs.lemmas.Bool.{and_parts}
use Rattle.invoke_records.specs.Spelling.{greatest_number}
use Rattle.aged_copy.specs.Aging.{aged}
use Rattle.aged_copy.specs.AgingSteps as step
use Rattle.aged_copy.proofs.Doubling.{same_rows}
use Rattle.aged_copy.proofs.aging.lengthen.Goals as goal

pub returns-clause-aged : goal.returns-clause-aged
unfolding aged
returns-clause-aged c =
    let table = c.args.table in
    let counted = (and_parts (nat_le table.number greatest_number) (list_all step.is_counted table.rows) (sym c.if-not-has_numbers.ensures)).1 in
    let rows = c.from_vec.ensures ∙ c.lengthened-rows.ensures ∙ ap (λ rows. map (step.doubled_row c.args.age) rows) c.into_vec.ensures ∙ same_rows c.args.age table.rows counted in
    λ i. record { number = 2 * table.number + 1; last_moment = table.last_moment; policy = table.policy; rows = rows i }
