use Rattle.std.proofs.Common.{◌≡◌, ◌+◌, ◌≤◌, [], drop, vec_len}
use Rattle.signed_requests.specs.Keys.{keys_from}
use Rattle.signed_requests.specs.Steps.{slices}
use Rattle.signed_requests.specs.Entries.{entries_of}
use Rattle.signed_requests.proofs.keys_file.read_keys.Given as goal

abbrev pub invariant-loop-line : goal.invariant-loop-line
invariant-loop-line l = record {
  counted : l.number ≡ l.line-index + 1;
  few : vec_len l.keys ≤ 64;
  rest : keys_from l.number (entries_of l.keys.items) (slices (drop l.line-index l.line-items)) ≡ keys_from 1 [] (slices l.line-items);
}
