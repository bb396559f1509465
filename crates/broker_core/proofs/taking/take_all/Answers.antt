use Rattle.std.proofs.Common.{rules, ◌≡◌, ℕ, ◌+◌, ◌++◌, ◌∷◌, [], length, take, List, sym, ap, subst, ◌∙◌, append_assoc, length-append}
use Rattle.invoke_records.specs.declared.command.Command.{Command}
use Rattle.broker_core.specs.declared.error.IssueError.{IssueError}
use Rattle.broker_core.specs.Broker.{IsReason, Stands}
use Rattle.broker_core.specs.Splitting.{Takes}
use Rattle.broker_core.proofs.Taken.{next_at, illegal_next, takes_more, takes_same, takes_by_count, stopped_before, stands_next, stands_by_count}
use Rattle.broker_core.proofs.taking.take_all.Goals as goal

pub loop-command-preserved : goal.loop-command-preserved
loop-command-preserved g c =
    let view = g.D.Disk.view in
    let came = c.loop-command.yielded in
    let commands = c.args.commands.items in
    let k = length came in
    let old = c.args.broker.now in
    let mid = c.loop-command.broker in
    let new = c.issue.new.self in
    let rest = c.next.new.self.rest.items in
    let step : c.loop-command.command-iterator.rest.items ≡ c.in-Some.command ∷ rest = search rules in
    let whole : came ++ c.in-Some.command ∷ rest ≡ commands = ap (λ (l : List Command). came ++ l) (sym step) ∙ c.loop-command.invariant.all in
    let next = next_at came c.in-Some.command rest commands whole in
    let one : length (came ++ c.in-Some.command ∷ []) ≡ k + 1 = length-append came (c.in-Some.command ∷ []) in
    record {
      all = append_assoc came (c.in-Some.command ∷ []) rest ∙ whole;
      takes = subst (Takes old new commands) (sym one) (takes_more view old mid new commands k c.in-Some.command c.in-Ok.field-0 next c.loop-command.invariant.takes c.in-Ok.ensures.ok);
      stands = λ history stands.
          subst (λ (n : ℕ). Stands view new (history ++ take n commands)) (sym one)
          (stands_next view old mid new commands k c.in-Some.command history next (c.in-Ok.ensures.stands (history ++ take k commands) (c.loop-command.invariant.stands history stands)).2);
    }

pub returns-in-Err-Illegal-clause-err : goal.returns-in-Err-Illegal-clause-err
returns-in-Err-Illegal-clause-err g c =
    let came = c.loop-command.yielded in
    let commands = c.args.commands.items in
    let step : c.loop-command.command-iterator.rest.items ≡ c.in-Some.command ∷ c.next.new.self.rest.items = search rules in
    let next = next_at came c.in-Some.command c.next.new.self.rest.items commands (ap (λ (l : List Command). came ++ l) (sym step) ∙ c.loop-command.invariant.all) in
    illegal_next g.D.Disk.view c.args.broker.now c.loop-command.broker c.issue.new.self commands (length came) c.in-Some.command c.in-Err-Illegal.field-0-0 next c.loop-command.invariant.takes
    c.in-Err-Illegal.ensures.err
    (subst (λ (e : IssueError). IsReason c.loop-command.broker c.in-Some.command e) c.in-Err-Illegal.field-0-is c.in-Err-Illegal.ensures.reason)

pub returns-in-Err-Illegal-clause-stands : goal.returns-in-Err-Illegal-clause-stands
returns-in-Err-Illegal-clause-stands g c history stands =
    let takes = takes_same g.D.Disk.view c.args.broker.now c.loop-command.broker c.issue.new.self c.args.commands.items (length c.loop-command.yielded) c.loop-command.invariant.takes c.in-Err-Illegal.ensures.err in
    stands_by_count g.D.Disk.view c.args.broker.now c.loop-command.broker c.issue.new.self c.args.commands.items (length c.loop-command.yielded) history takes
    (c.in-Err-Illegal.ensures.stands_refused (history ++ take (length c.loop-command.yielded) c.args.commands.items) (c.loop-command.invariant.stands history stands))

pub returns-in-Err-Backlog-clause-stands : goal.returns-in-Err-Backlog-clause-stands
returns-in-Err-Backlog-clause-stands g c history stands =
    let takes = takes_same g.D.Disk.view c.args.broker.now c.loop-command.broker c.issue.new.self c.args.commands.items (length c.loop-command.yielded) c.loop-command.invariant.takes c.in-Err-Backlog.ensures.err in
    stands_by_count g.D.Disk.view c.args.broker.now c.loop-command.broker c.issue.new.self c.args.commands.items (length c.loop-command.yielded) history takes
    (c.in-Err-Backlog.ensures.stands_refused (history ++ take (length c.loop-command.yielded) c.args.commands.items) (c.loop-command.invariant.stands history stands))

pub returns-in-Err-OutOfMemory-clause-stands : goal.returns-in-Err-OutOfMemory-clause-stands
returns-in-Err-OutOfMemory-clause-stands g c history stands =
    let takes = takes_same g.D.Disk.view c.args.broker.now c.loop-command.broker c.issue.new.self c.args.commands.items (length c.loop-command.yielded) c.loop-command.invariant.takes c.in-Err-OutOfMemory.ensures.err in
    stands_by_count g.D.Disk.view c.args.broker.now c.loop-command.broker c.issue.new.self c.args.commands.items (length c.loop-command.yielded) history takes
    (c.in-Err-OutOfMemory.ensures.stands_refused (history ++ take (length c.loop-command.yielded) c.args.commands.items) (c.loop-command.invariant.stands history stands))

pub returns-in-Err-Illegal-clause-takes : goal.returns-in-Err-Illegal-clause-takes
returns-in-Err-Illegal-clause-takes g c =
    takes_by_count g.D.Disk.view c.args.broker.now c.loop-command.broker c.issue.new.self c.args.commands.items (length c.loop-command.yielded)
    (takes_same g.D.Disk.view c.args.broker.now c.loop-command.broker c.issue.new.self c.args.commands.items (length c.loop-command.yielded) c.loop-command.invariant.takes c.in-Err-Illegal.ensures.err)

pub returns-in-Err-Illegal-clause-all : goal.returns-in-Err-Illegal-clause-all
returns-in-Err-Illegal-clause-all g c = tt

pub returns-in-Err-Backlog-clause-takes : goal.returns-in-Err-Backlog-clause-takes
returns-in-Err-Backlog-clause-takes g c =
    takes_by_count g.D.Disk.view c.args.broker.now c.loop-command.broker c.issue.new.self c.args.commands.items (length c.loop-command.yielded)
    (takes_same g.D.Disk.view c.args.broker.now c.loop-command.broker c.issue.new.self c.args.commands.items (length c.loop-command.yielded) c.loop-command.invariant.takes c.in-Err-Backlog.ensures.err)

pub returns-in-Err-Backlog-clause-all : goal.returns-in-Err-Backlog-clause-all
returns-in-Err-Backlog-clause-all g c = tt

pub returns-in-Err-Backlog-clause-err : goal.returns-in-Err-Backlog-clause-err
returns-in-Err-Backlog-clause-err g c =
    let came = c.loop-command.yielded in
    let commands = c.args.commands.items in
    let step : c.loop-command.command-iterator.rest.items ≡ c.in-Some.command ∷ c.next.new.self.rest.items = search rules in
    let next = next_at came c.in-Some.command c.next.new.self.rest.items commands (ap (λ (l : List Command). came ++ l) (sym step) ∙ c.loop-command.invariant.all) in
    let same = c.in-Err-Backlog.ensures.err in
    (stopped_before g.D.Disk.view c.args.broker.now c.loop-command.broker c.issue.new.self commands (length came) c.in-Some.command next c.loop-command.invariant.takes same, ap length same.pending ∙ (subst (λ (e : IssueError). IsReason c.loop-command.broker c.in-Some.command e) c.in-Err-Backlog.field-0-is c.in-Err-Backlog.ensures.reason).1)

pub returns-in-Err-OutOfMemory-clause-takes : goal.returns-in-Err-OutOfMemory-clause-takes
returns-in-Err-OutOfMemory-clause-takes g c =
    takes_by_count g.D.Disk.view c.args.broker.now c.loop-command.broker c.issue.new.self c.args.commands.items (length c.loop-command.yielded)
    (takes_same g.D.Disk.view c.args.broker.now c.loop-command.broker c.issue.new.self c.args.commands.items (length c.loop-command.yielded) c.loop-command.invariant.takes c.in-Err-OutOfMemory.ensures.err)

pub returns-in-Err-OutOfMemory-clause-all : goal.returns-in-Err-OutOfMemory-clause-all
returns-in-Err-OutOfMemory-clause-all g c = tt

pub returns-in-Err-OutOfMemory-clause-err : goal.returns-in-Err-OutOfMemory-clause-err
returns-in-Err-OutOfMemory-clause-err g c =
    let came = c.loop-command.yielded in
    let commands = c.args.commands.items in
    let step : c.loop-command.command-iterator.rest.items ≡ c.in-Some.command ∷ c.next.new.self.rest.items = search rules in
    let next = next_at came c.in-Some.command c.next.new.self.rest.items commands (ap (λ (l : List Command). came ++ l) (sym step) ∙ c.loop-command.invariant.all) in
    let same = c.in-Err-OutOfMemory.ensures.err in
    (stopped_before g.D.Disk.view c.args.broker.now c.loop-command.broker c.issue.new.self commands (length came) c.in-Some.command next c.loop-command.invariant.takes same, tt)

pub returns-clause-takes : goal.returns-clause-takes
returns-clause-takes g c =
    takes_by_count g.D.Disk.view c.args.broker.now c.loop-command.broker c.loop-command.broker c.args.commands.items (length c.loop-command.yielded) c.loop-command.invariant.takes

pub returns-clause-err : goal.returns-clause-err
returns-clause-err g c = tt

pub returns-clause-stands : goal.returns-clause-stands
returns-clause-stands g c history stands =
    stands_by_count g.D.Disk.view c.args.broker.now c.loop-command.broker c.loop-command.broker c.args.commands.items (length c.loop-command.yielded) history c.loop-command.invariant.takes
    (c.loop-command.invariant.stands history stands)
