use Rattle.bell.proofs.bell.Broke.of.Goals as goal

pub invariant_of-result : goal.invariant_of-result
invariant_of-result c = record { hall = ∣ c.args.broken.now ∣₁ }
