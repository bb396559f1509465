use Rattle.std.proofs.Common.{rules, ◌≡◌, ◌∷◌, ◌++◌, ℕ, suc, All, length, subst, arith}
use Rattle.std.proofs.lemmas.List.Elements.{All-head, All-push}
use Rattle.front_board.specs.Board.{IsNewSeat}
use Rattle.front_board.specs.Seated.{seen_by}
use Rattle.front_board.proofs.seated.Seated.open.Goals as goal

pub invariant_of-push : goal.invariant_of-push
invariant_of-push c =
    let IsNew = IsNewSeat c.in_ok-shared.shared.value c.args.durable in
    let rest = c.next.new.self.rest.items in
    let step : c.loop-seat.seat-iterator.rest.items ≡ c.in-Some.seat ∷ rest = search rules in
    let new = All-head IsNew c.in-Some.seat rest (subst (All IsNew) step c.loop-seat.invariant.0) in
    let here = new.0 in
    record { sits = search rules }

pub loop-seat-preserved : goal.loop-seat-preserved
loop-seat-preserved c =
    let IsNew = IsNewSeat c.in_ok-shared.shared.value c.args.durable in
    let rest = c.next.new.self.rest.items in
    let step : c.loop-seat.seat-iterator.rest.items ≡ c.in-Some.seat ∷ rest = search rules in
    let left : All IsNew (c.in-Some.seat ∷ rest) = subst (All IsNew) step c.loop-seat.invariant.0 in
    let new = All-head IsNew c.in-Some.seat rest left in
    let all = c.loop-seat.invariant.1 in
    let table = c.in_ok-shared.shared.value.word.shared.table_id in
    let count = c.loop-seat.invariant.3 in (
      λ k d lt. left (suc k) d (omega arith),
      (rw c.in_ok-push.ensures.items (All-push (λ seated. seen_by seated ≡ c.args.durable) c.loop-seat.all.items _ all new.1)),
      (rw c.in_ok-push.ensures.items (All-push (λ seated. seated.seat.place.table_id ≡ table) c.loop-seat.all.items _ c.loop-seat.invariant.2 new.0)),
      search rules,
    )

pub returns-clause-one_board : goal.returns-clause-one_board
returns-clause-one_board c = (c.in_ok-shared.shared.value.word.shared.table_id, c.loop-seat.invariant.2)
