use Rattle.std.specs.Prelude.{◌≡◌, ◌<◌, ℕ, false, slice_index_or}
use Rattle.http_port.specs.Hosts.{is_colon}
use Rattle.http_port.proofs.hosts.colon_at.Given as goal

abbrev pub invariant-loop-at : goal.invariant-loop-at
invariant-loop-at l = (k : ℕ) → k < l.at → is_colon (slice_index_or l.host k 0) ≡ false
