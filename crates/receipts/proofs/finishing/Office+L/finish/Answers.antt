use Rattle.std.proofs.Common.{◌≡◌, List, length, sym, subst, ◌∙◌, ap}
use Rattle.receipts.specs.declared.mark.Mark.{Mark}
use Rattle.receipts.specs.Desks.{AreAll, IsReason}
use Rattle.receipts.specs.Marks.{sum_of_lists}
use Rattle.receipts.proofs.Outcomes.{by_ok, by_error}
use Rattle.receipts.proofs.finishing.Office+L.finish.Goals as goal

pub returns-clause-all : goal.returns-clause-all
returns-clause-all g c =
    let parts = g.L.Ledger.parts in
    let marks = c.unlock.result.locked.marks.all.items in
    let desks = c.args.desks.items in
    by_ok (λ _. AreAll (λ d. d.number) (λ d. d.own.items) parts marks desks) (λ r. r.1.items ≡ marks) (λ r. AreAll (λ d. d.number) (λ d. d.own.items) parts r.1.items desks)
    (λ r all is. subst (λ (l : List Mark). AreAll (λ d. d.number) (λ d. d.own.items) parts l desks) (sym is) all)
    c.finish.result c.finish.ensures.all c.finish.ensures.marks

pub returns-clause-sum : goal.returns-clause-sum
returns-clause-sum g c =
    let marks = c.unlock.result.locked.marks.all.items in
    let desks = c.args.desks.items in
    by_ok (λ _. sum_of_lists (λ d. d.own.items) desks ≡ length marks) (λ r. r.1.items ≡ marks) (λ r. sum_of_lists (λ d. d.own.items) desks ≡ length r.1.items)
    (λ r sum is. sum ∙ ap length (sym is))
    c.finish.result c.finish.ensures.sum c.finish.ensures.marks

pub returns-clause-refused : goal.returns-clause-refused
returns-clause-refused g c =
    let parts = g.L.Ledger.parts in
    let marks = c.unlock.result.locked.marks.all.items in
    let desks = c.args.desks.items in
    by_error (λ f. IsReason (AreAll (λ d. d.number) (λ d. d.own.items) parts marks desks) f.cause) (λ f. f.office.locked.marks.all.items ≡ marks)
    (λ f. IsReason (AreAll (λ d. d.number) (λ d. d.own.items) parts f.office.locked.marks.all.items desks) f.cause)
    (λ f reason is. subst (λ (l : List Mark). IsReason (AreAll (λ d. d.number) (λ d. d.own.items) parts l desks) f.cause) (sym is) reason)
    c.finish.result c.finish.ensures.refused c.finish.ensures.same

pub returns-clause-back : goal.returns-clause-back
returns-clause-back g c = c.finish.ensures.desks
