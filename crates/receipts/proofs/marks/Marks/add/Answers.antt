use Rattle.std.proofs.Common.{rules, ◌≡◌, ◌<◌, ◌+◌, ◌^◌, ◌++◌, ◌∷◌, [], sym, ap, ◌∙◌, length, map, arith}
use Rattle.std.proofs.lemmas.List.{length-map, map-append}
use Rattle.receipts.specs.declared.mark.Mark.{Mark}
use Rattle.receipts.specs.declared.command_counters.CommandCounters.{CommandCounters}
use Rattle.receipts.specs.Counters.{counters_of, counted}
use Rattle.receipts.proofs.Counted.{counters_more, has_room}
use Rattle.receipts.proofs.marks.Marks.add.Goals as goal

pub count-requires : goal.count-requires
count-requires g c =
    let marks = map g.T.Trace.mark c.args.self.now.all.items in
    let short : length marks + 1 < 2 ^ 64 = omega (arith, length-map c.args.self.now.all.items g.T.Trace.mark, c.requires.room_here) in
    rw c.args.self.now.counters_are (has_room marks short)

pub invariant_of-self : goal.invariant_of-self
invariant_of-self g c =
    let marks = map g.T.Trace.mark c.args.self.now.all.items in
    let added : map g.T.Trace.mark c.push_reserved-2.new.self.items ≡ marks ++ c.args.mark ∷ [] =
    ap (map g.T.Trace.mark) c.push_reserved-2.ensures.items ∙ map-append g.T.Trace.mark c.args.self.now.all.items (c.of-2.result ∷ []) ∙ ap (λ (m : Mark). marks ++ m ∷ []) c.of-2.ensures in
    record {
      counted = search rules;
      counters_are = c.count.ensures ∙ ap (λ (t : CommandCounters). counted t c.args.mark.kind) c.args.self.now.counters_are ∙ sym (counters_more marks c.args.mark) ∙ ap counters_of (sym added);
    }
