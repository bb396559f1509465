use Rattle.std.proofs.Common.{◌≡◌, take}
use Rattle.signed_requests.proofs.comparing.differ_nowhere.Given as goal

abbrev pub invariant-loop-i : goal.invariant-loop-i
invariant-loop-i l = record {
  same : l.differences ≡ 0 → take l.i l.first ≡ take l.i l.second;
  none : l.first ≡ l.second → l.differences ≡ 0;
}
