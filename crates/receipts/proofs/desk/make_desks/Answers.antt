use Rattle.std.proofs.Common.{rules, ◌≡◌, ℕ, ◌++◌, ◌∷◌, [], ap, sym, ◌∙◌}
use Rattle.std.specs.List.{range_with_len}
use Rattle.std.proofs.lemmas.List.{map-append}
use Rattle.std.proofs.lemmas.List.Elements.{All-push}
use Rattle.receipts.proofs.Followed.{range_next}
use Rattle.receipts.proofs.desk.make_desks.Goals as goal

pub loop-number-preserved : goal.loop-number-preserved
loop-number-preserved g c =
    let inv = c.loop-number.invariant in
    record {
      parts = search rules;
      amount = search rules;
      room = search rules;
      size = search rules;
      numbers = rw c.push_reserved.ensures.items
          (map-append _ c.loop-number.desks.items _ ∙ ap (λ l. l ++ c.new.result.number ∷ []) inv.numbers
          ∙ ap (λ (n : ℕ). range_with_len 0 c.loop-number.number ++ n ∷ []) c.new.ensures.number ∙ sym (range_next c.loop-number.number));
      none = rw c.push_reserved.ensures.items (All-push (λ d. d.own.items ≡ []) c.loop-number.desks.items _ inv.none c.new.ensures.none);
      untold = rw c.push_reserved.ensures.items (All-push (λ d. d.told ≡ 0) c.loop-number.desks.items _ inv.untold c.new.ensures.untold);
    }
