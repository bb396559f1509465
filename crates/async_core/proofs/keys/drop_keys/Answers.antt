-- One index more.
use Rattle.std.proofs.Common.{sym, subst, take, List, Some, arith}
use Rattle.std.proofs.lemmas.List.{take_more}
use Rattle.async_core.specs.Keys.{DropsKeys}
use Rattle.async_core.specs.declared.keys.Index.{Index}
use Rattle.async_core.proofs.KeySteps.{drops_then}
use Rattle.async_core.proofs.keys.drop_keys.Goals as goal

pub loop-index-preserved : goal.loop-index-preserved
loop-index-preserved c =
    let all = c.args.indexes.now in
    let n = c.loop-index.index-index in
    subst (λ (indexes : List Index). DropsKeys c.args.place (Some c.args.gone) c.args.kept indexes c.args.keys.now c.drop_key.new.keys) (sym (take_more all n _ (omega arith)))
    (drops_then c.args.place (Some c.args.gone) c.args.kept (take n all) _ c.args.keys.now c.loop-index.keys c.drop_key.new.keys c.loop-index.invariant c.drop_key.ensures)
