use Rattle.std.proofs.Common.{◌≡◌, ℕ, ◌-◌, Some, List, length, take, drop, sym, ap, subst, ◌∙◌, arith, length-drop}
use Rattle.std.proofs.lemmas.List.{take_all}
use Rattle.retry_rules.specs.declared.settings.Settings.{Settings}
use Rattle.invoke_records.specs.declared.command.Command.{Command}
use Rattle.async_core.specs.Rules.{replay}
use Rattle.gate_journal.specs.Staged.{count_of}
use Rattle.broker_core.proofs.Advanced.{either_of, whole_staged}
use Rattle.broker_core.proofs.broker.Broker.open_with_rest.Goals as goal

-- a slice up to the end is all that is left
slice_end : (n : ℕ) (l : List Command) → take (length l - n) (drop n l) ≡ drop n l
slice_end n l = take_all (length l - n) (drop n l) (omega (arith, length-drop n l))

pub returns-in-Ok-clause-live : goal.returns-in-Ok-clause-live
returns-in-Ok-clause-live g c honest before after ahead replays is =
    let old = c.args.self.now in
    let front = take (count_of c.args.group) old.pending.items in
    let all : List Command = c.deref.result.now in
    let n : ℕ = c.count-count.result in
    whole_staged (g.D.Disk.view c.advance.new.disk) c.advance.new.self after (take (length all - n) (drop n all)) c.forget_first.new.commands.items c.in-Ok.next
    (slice_end n all ∙ ap (drop n) c.deref.ensures.value ∙ sym c.forget_first.ensures) c.in-Ok.ensures.count
    (c.in-Ok.ensures.advanced honest before after front ahead (subst (λ (r : Settings). replay r before front ≡ Some after) old.settings replays))

pub returns-in-Ok-clause-any_moment : goal.returns-in-Ok-clause-any_moment
returns-in-Ok-clause-any_moment g c honest before after ahead replays =
    let old = c.args.self.now in
    let front = take (count_of c.args.group) old.pending.items in
    either_of (g.D.Disk.view old.disk) (g.D.Disk.view c.advance.new.disk) old.table.settings old.opened.settings before after front old.settings replays
    (λ there. c.advance.ensures.any_moment honest before after front ahead there)

pub returns-in-Err-NoRoom-clause-any_moment : goal.returns-in-Err-NoRoom-clause-any_moment
returns-in-Err-NoRoom-clause-any_moment g c honest before after ahead replays =
    let old = c.args.self.now in
    let front = take (count_of c.args.group) old.pending.items in
    either_of (g.D.Disk.view old.disk) (g.D.Disk.view c.advance.new.disk) old.table.settings old.opened.settings before after front old.settings replays
    (λ there. c.advance.ensures.any_moment honest before after front ahead there)

pub returns-in-Err-OutOfMemory-clause-any_moment : goal.returns-in-Err-OutOfMemory-clause-any_moment
returns-in-Err-OutOfMemory-clause-any_moment g c honest before after ahead replays =
    let old = c.args.self.now in
    let front = take (count_of c.args.group) old.pending.items in
    either_of (g.D.Disk.view old.disk) (g.D.Disk.view c.advance.new.disk) old.table.settings old.opened.settings before after front old.settings replays
    (λ there. c.advance.ensures.any_moment honest before after front ahead there)

pub returns-in-Err-Fault-clause-any_moment : goal.returns-in-Err-Fault-clause-any_moment
returns-in-Err-Fault-clause-any_moment g c honest before after ahead replays =
    let old = c.args.self.now in
    let front = take (count_of c.args.group) old.pending.items in
    either_of (g.D.Disk.view old.disk) (g.D.Disk.view c.advance.new.disk) old.table.settings old.opened.settings before after front old.settings replays
    (λ there. c.advance.ensures.any_moment honest before after front ahead there)
