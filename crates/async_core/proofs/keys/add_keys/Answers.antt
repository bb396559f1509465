-- One index more, or some of them.
use Rattle.std.proofs.Common.{sym, subst, take, List, Some, arith, rules}
use Rattle.std.proofs.lemmas.List.{take_more}
use Rattle.async_core.specs.Keys.{AddsKeys, AddsSome}
use Rattle.async_core.specs.declared.keys.Index.{Index}
use Rattle.async_core.proofs.KeySteps.{adds_then, adds_same}
use Rattle.async_core.proofs.keys.add_keys.Goals as goal

pub loop-index-preserved : goal.loop-index-preserved
loop-index-preserved c =
    let all = c.args.indexes.now in
    let n = c.loop-index.index-index in
    subst (λ (indexes : List Index). AddsKeys c.args.place (Some c.args.facts) indexes c.args.keys.now c.add_key.new.keys) (sym (take_more all n _ (omega arith)))
    (adds_then c.args.place (Some c.args.facts) (take n all) _ c.args.keys.now c.loop-index.keys c.add_key.new.keys c.loop-index.invariant c.in_ok-add_key.ensures.ok)

pub returns-in_err-add_key-clause-err : goal.returns-in_err-add_key-clause-err
returns-in_err-add_key-clause-err c =
    let some : AddsSome c.args.place (Some c.args.facts) c.args.keys.now c.add_key.new.keys = (take c.loop-index.index-index c.args.indexes.now, adds_same c.args.place (Some c.args.facts) _ c.args.keys.now c.loop-index.keys c.add_key.new.keys c.loop-index.invariant c.in_err-add_key.ensures.err) in
    search (rules, some)
