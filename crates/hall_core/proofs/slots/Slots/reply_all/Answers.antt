use Rattle.std.proofs.Common.{rules, ◌≡◌, ◌++◌, ◌∷◌, [], length, take, subst, sym, ap, ◌∙◌, append_assoc}
use Rattle.broker_core.specs.Issuer.{issued_in}
use Rattle.std.proofs.lemmas.List.{append-nil}
use Rattle.hall_plans.specs.Past.{replied}
use Rattle.hall_core.specs.OpenSlots.{KeepFor}
use Rattle.hall_plans.specs.Settling.{replied_at}
use Rattle.hall_core.proofs.Settled.{next_answer, keeps_next, all_answers, nothing_left}
use Rattle.hall_core.proofs.slots.Slots.reply_all.Goals as goal

-- src/settling.rt:16:9
pub loop-slot-preserved : goal.loop-slot-preserved
loop-slot-preserved g c =
    let came = c.loop-slot.yielded in
    let rest = c.next.new.self.rest.items in
    let step : c.loop-slot.slot-iterator.rest.items ≡ (c.in-Some.slot, c.in-Some.reply) ∷ rest = search rules in
    let all : came ++ (c.in-Some.slot, c.in-Some.reply) ∷ rest ≡ c.args.replies.items = ap (λ l. came ++ l) (sym step) ∙ c.loop-slot.invariant.0 in (
      append_assoc came ((c.in-Some.slot, c.in-Some.reply) ∷ []) rest ∙ all,
      λ s events keep told is.
          let next = next_answer s came (c.in-Some.slot, c.in-Some.reply) rest told (all ∙ is) in
          let before = c.loop-slot.invariant.1 s events keep told is in
          keeps_next s c.reply.new.self events (issued_in (g.I.Issuer.view c.args.issuer.now)) c.in-Some.slot (take (length came) told) _ next.answer next.slot next.more
          (subst (λ n. KeepFor s c.reply.new.self ((events ++ replied_at (issued_in (g.I.Issuer.view c.args.issuer.now)) (take (length came) told)) ++ replied c.in-Some.slot next.answer.1 n ∷ [])) c.ticket.ensures
          (c.reply.ensures s (events ++ replied_at (issued_in (g.I.Issuer.view c.args.issuer.now)) (take (length came) told)) before next.answer.1 next.reply)),
    )

-- src/settling.rt:12:5
pub returns : goal.returns
returns g c = λ s events keep told is.
    let len : length c.loop-slot.slot-iterator.rest.items ≡ 0 = search rules in
    let none : c.loop-slot.slot-iterator.rest.items ≡ [] = nothing_left c.loop-slot.slot-iterator.rest.items len in
    let all : c.loop-slot.yielded ≡ c.args.replies.items = sym (append-nil c.loop-slot.yielded) ∙ ap (λ l. c.loop-slot.yielded ++ l) (sym none) ∙ c.loop-slot.invariant.0 in
    rw (← all_answers s c.loop-slot.yielded told (all ∙ is)) (c.loop-slot.invariant.1 s events keep told is)
