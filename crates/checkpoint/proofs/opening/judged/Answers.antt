use Rattle.std.proofs.Common.{refl, sym, ◌∙◌}
use Rattle.checkpoint.specs.Image.{folded_in}
use Rattle.checkpoint.proofs.Folds.{value_of}
use Rattle.checkpoint.proofs.opening.judged.Goals as goal

pub returns-clause-opens : goal.returns-clause-opens
returns-clause-opens c =
    let value = value_of _ c.in_ok-snapshot.ensures.legal in
    record {
      version = refl;
      base = refl;
      generation = refl;
      settings = refl;
      journal = refl;
      other = refl;
      first = c.in_ok-snapshot.ensures.same;
      others = c.in_ok-commands.ensures;
      table = value.0;
      folds = (λ i. folded_in c.args.segment.version c.args.segment.settings c.args.segment.snapshot (sym c.deref.ensures.value i)) ∙ value.1;
    }
