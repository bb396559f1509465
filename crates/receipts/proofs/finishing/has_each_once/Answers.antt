use Rattle.std.proofs.Common.{rules, ◌≡◌, ◌<◌, ◌≤◌, refl, sym, ◌∙◌, arith}
use Rattle.std.proofs.lemmas.Bool.{true≢false}
use Rattle.receipts.proofs.AllThere.{each_more}
use Rattle.receipts.proofs.finishing.has_each_once.Goals as goal

pub returns-then-count_of-ne1 : goal.returns-then-count_of-ne1
returns-then-count_of-ne1 g c =
    let wrong : c.count_of.result ≡ 1 → ⊥ = search rules in
    let within : c.loop-number.number < c.args.count = search rules in
    (λ t. absurd (true≢false (sym t)), λ all. absurd (wrong (c.count_of.ensures ∙ all c.loop-number.number within)))

pub loop-number-preserved : goal.loop-number-preserved
loop-number-preserved g c =
    let one : c.count_of.result ≡ 1 = search rules in
    each_more (λ d. d.number) c.args.desks.now c.loop-number.number c.loop-number.invariant (sym c.count_of.ensures ∙ one)

pub returns : goal.returns
returns g c =
    let end : c.args.count ≤ c.loop-number.number = search rules in
    (λ t n within. c.loop-number.invariant n (omega (arith, within, end)), λ all. refl)
