use Rattle.admin_port.proofs.asked.Asked.ask.Goals as goal

pub invariant_of-result : goal.invariant_of-result
invariant_of-result g c =
    let waiting = c.in_ok-waiting.waiting in
    record {
      waits = ∣ rw c.of-seen.ensures (λ released taken.
          (waiting.seen.before.value, waiting.seen.after.value, waiting.slot, c.in_ok-waiting.ensures, taken)) ∣₁;
    }
