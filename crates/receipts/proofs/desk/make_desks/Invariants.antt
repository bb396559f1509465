use Rattle.std.proofs.Common.{◌≡◌, ◌+◌, [], map, All, vec_capacity, vec_len}
use Rattle.std.specs.List.{range_with_len}
use Rattle.receipts.proofs.desk.make_desks.Given as goal

abbrev pub invariant-loop-number : goal.invariant-loop-number
invariant-loop-number g l = record {
  parts : l.rest.parts + l.number ≡ l.fn.count;
  amount : l.rest.amount ≡ 0;
  room : vec_capacity l.desks ≡ l.fn.count;
  size : vec_len l.desks ≡ l.number;
  numbers : map (λ d. d.number) l.desks.items ≡ range_with_len 0 l.number;
  none : All (λ d. d.own.items ≡ []) l.desks.items;
  untold : All (λ d. d.told ≡ 0) l.desks.items;
}
