use Rattle.std.proofs.Common.{rules, ◌≡◌, true, false, All, sym}
use Rattle.std.specs.Prelude.{◌↔◌}
use Rattle.receipts.specs.Marks.{history_of_desk}
use Rattle.receipts.proofs.AllThere.{all_there, not_there}
use Rattle.receipts.proofs.finishing.Locked+L+Mark.has_all.Goals as goal

pub returns-then-have_each_number : goal.returns-then-have_each_number
returns-then-have_each_number g c =
    let yes : c.have_each_number.result ≡ true = search rules in
    let own : (c.are_histories.result ≡ true) ↔ All (λ d. d.own.items ≡ history_of_desk d.number c.args.self.now.marks.all.items) c.args.desks.now =
    rw (sym c.deref.ensures.value) c.are_histories.ensures in
    all_there (λ d. d.number) (λ d. d.own.items) c.count.result g.L.Ledger.parts c.args.self.now.marks.all.items c.args.desks.now c.count.ensures.is
    c.have_each_number.result c.have_each_number.ensures yes c.are_histories.result own

pub returns-else-have_each_number : goal.returns-else-have_each_number
returns-else-have_each_number g c =
    let no : c.have_each_number.result ≡ false = search rules in
    not_there (λ d. d.number) (λ d. d.own.items) c.count.result g.L.Ledger.parts c.args.self.now.marks.all.items c.args.desks.now c.count.ensures.is
    c.have_each_number.result c.have_each_number.ensures no
