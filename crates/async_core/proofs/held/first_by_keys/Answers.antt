-- Each key of the range brings its row.
use Rattle.std.proofs.Common.{◌∙◌, ap, sym, [], ◌∷◌, ◌++◌, Contains, subst}
use Rattle.std.specs.Map.{values_of}
use Rattle.std.specs.Option.{option_copied}
use Rattle.std.proofs.lemmas.List.Elements.{All-contains_itself, All-push, All-weaker, Contains-append_left}
use Rattle.async_core.proofs.Walks.{IsToCome, all_to_come, comes, passes, none_to_come, is_row}
use Rattle.async_core.proofs.held.first_by_keys.Goals as goal

pub loop-key-init : goal.loop-key-init
loop-key-init c = λ seen among chosen. (
  seen,
  among,
  All-contains_itself seen,
  all_to_come c.args.rows.now c.args.keys.now c.args.index c.args.last _ _ _ seen c.rank-rank.ensures c.from.ensures (c.into_iter-key-iterator.ensures.into_iter_gives ∙ c.range-key-items.ensures.between tt),
  chosen,
)

pub loop-key-preserved-in-Some-get : goal.loop-key-preserved-in-Some-get
loop-key-preserved-in-Some-get c = λ seen among chosen.
    let before = c.loop-key.invariant seen among chosen in
    let row = c.in-Some-get.row.now in
    let there = sym c.in-Some-get.ensures.value in
    let coming = subst (λ ks. IsToCome c.args.rows.now c.args.keys.now c.args.index c.args.last ks before.0) c.in-Some.ensures.steps before.3 in (
      before.0 ++ row ∷ [],
      All-push (Contains (values_of c.args.rows.now.entries)) before.0 row before.1 (is_row c.args.rows.now _ row there),
      All-weaker (Contains before.0) (Contains (before.0 ++ row ∷ [])) (λ r. Contains-append_left before.0 (row ∷ []) r) seen before.2,
      comes c.args.rows.now c.args.keys.now c.args.index c.args.last c.in-Some.key.now c.next.new.self before.0 coming row there,
      c.better-best.ensures before.0 before.4,
    )

pub loop-key-preserved : goal.loop-key-preserved
loop-key-preserved c = λ seen among chosen.
    let before = c.loop-key.invariant seen among chosen in
    let coming = subst (λ ks. IsToCome c.args.rows.now c.args.keys.now c.args.index c.args.last ks before.0) c.in-Some.ensures.steps before.3 in
    (before.0, before.1, before.2, passes c.args.rows.now c.args.keys.now c.args.index c.args.last c.in-Some.key.now c.next.new.self before.0 coming (sym c.get.ensures.value ∙ ap option_copied c.in_default.is), before.4)

pub returns : goal.returns
returns c = λ seen among chosen.
    let before = c.loop-key.invariant seen among chosen in
    (before.0, before.1, before.2, none_to_come c.args.rows.now c.args.keys.now c.args.index c.args.last c.loop-key.key-iterator before.0 c.in-None.ensures.steps.0 before.3, before.4)
