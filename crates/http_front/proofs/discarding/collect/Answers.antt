use Rattle.http_front.proofs.discarding.collect.Goals as goal

pub invariant_of-result : goal.invariant_of-result
invariant_of-result g c = record { done = ∣ c.in_ok-waiting.ensures ∣₁ }
