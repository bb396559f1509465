use Rattle.std.proofs.Common.{refl, arith}
use Rattle.std.proofs.lemmas.Bool.Decides.{same_from_decides, Decides-eqb}
use Rattle.std.proofs.lemmas.Slice.Eq.{bytes_eq-Decides}
use Rattle.signed_requests.proofs.SameTexts.{same_more, none_more, whole}
use Rattle.signed_requests.proofs.comparing.differ_nowhere.Goals as goal

pub loop-i-init : goal.loop-i-init
loop-i-init c = record { same = λ e. refl; none = λ e. refl }

pub loop-i-preserved : goal.loop-i-preserved
loop-i-preserved c = record {
  same = same_more c.args.first.now c.args.second.now c.loop-i.i c.loop-i.differences (omega arith) c.requires c.loop-i.invariant.same;
  none = none_more c.args.first.now c.args.second.now c.loop-i.i c.loop-i.differences c.loop-i.invariant.none;
}

pub returns : goal.returns
returns c =
    let zero_only = Decides-eqb c.loop-i.differences 0 in
    same_from_decides _ _ (
      λ t. whole c.args.first.now c.args.second.now c.loop-i.i c.loop-i-test.false c.requires (c.loop-i.invariant.same (zero_only.0 t)),
      λ e. zero_only.1 (c.loop-i.invariant.none e),
    )
    (bytes_eq-Decides c.args.first.now c.args.second.now)
