-- There are as many desks as parts, which are eight at least.
use Rattle.std.proofs.Common.{arith, ◌∙◌, ap, sym, length}
use Rattle.std.proofs.lemmas.List.{length-map}
use Rattle.std.proofs.lemmas.List.FromFn.{length-range_with_len}
use Rattle.http_front.proofs.opening.open.Goals as goal

pub seat_all-requires : goal.seat_all-requires
seat_all-requires g c =
    let many = sym (length-map c.in-Ok.desks.items (λ d. d.number)) ∙ ap length c.in-Ok.ensures.numbers ∙ length-range_with_len 0 _ in
    omega (arith, many, c.requires.count)
