use Rattle.std.proofs.Common.{◌∙◌, refl, sym, arith}
use Rattle.std.proofs.lemmas.Bool.{false≢true}
use Rattle.broker_core.specs.Splitting.{broker_of}
use Rattle.broker_core.specs.Writing.{missing_in}
use Rattle.broker_core.proofs.Taken.{takes_none, stands_none, same_broker, not_apart, takes_rest, stands_rest}
use Rattle.broker_core.proofs.disk_half.DiskHalf.take_batch.Goals as goal

pub returns-then-self-clause-takes : goal.returns-then-self-clause-takes
returns-then-self-clause-takes g c = takes_none (broker_of c.args.self.now) (missing_in (broker_of c.args.self.now) c.args.batch)

pub returns-then-self-clause-stands : goal.returns-then-self-clause-stands
returns-then-self-clause-stands g c history stands =
    stands_none g.D.Disk.view (broker_of c.args.self.now) (missing_in (broker_of c.args.self.now) c.args.batch) history stands

pub returns-then-issued-first-clause-takes : goal.returns-then-issued-first-clause-takes
returns-then-issued-first-clause-takes g c = takes_none (broker_of c.args.self.now) (missing_in (broker_of c.args.self.now) c.args.batch)

pub returns-then-issued-first-clause-stands : goal.returns-then-issued-first-clause-stands
returns-then-issued-first-clause-stands g c history stands =
    stands_none g.D.Disk.view (broker_of c.args.self.now) (missing_in (broker_of c.args.self.now) c.args.batch) history stands

pub returns-then-self-clause-broken : goal.returns-then-self-clause-broken
returns-then-self-clause-broken g c is = refl

pub returns-then-self-clause-apart : goal.returns-then-self-clause-apart
returns-then-self-clause-apart g c whole apart = absurd (false≢true (sym whole ∙ c.if-self.true))

pub returns-then-self-clause-untouched : goal.returns-then-self-clause-untouched
returns-then-self-clause-untouched g c apart = same_broker (broker_of c.args.self.now)

pub returns-then-self-clause-ok : goal.returns-then-self-clause-ok
returns-then-self-clause-ok g c = tt

pub returns-then-self-clause-err : goal.returns-then-self-clause-err
returns-then-self-clause-err g c = c.if-self.true

pub returns-then-issued-first-clause-broken : goal.returns-then-issued-first-clause-broken
returns-then-issued-first-clause-broken g c is = absurd (false≢true (sym c.if-self.false ∙ is))

pub returns-then-issued-first-clause-apart : goal.returns-then-issued-first-clause-apart
returns-then-issued-first-clause-apart g c whole apart = refl

pub returns-then-issued-first-clause-untouched : goal.returns-then-issued-first-clause-untouched
returns-then-issued-first-clause-untouched g c apart = same_broker (broker_of c.args.self.now)

pub returns-then-issued-first-clause-ok : goal.returns-then-issued-first-clause-ok
returns-then-issued-first-clause-ok g c = tt

pub returns-in-Ok-clause-takes : goal.returns-in-Ok-clause-takes
returns-in-Ok-clause-takes g c =
    takes_rest g.D.Disk.view (broker_of c.args.self.now) c.take_all.new.broker c.args.batch c.issued-issued.result c.issued-issued.ensures c.forget_first.new.commands.items c.forget_first.ensures c.take_all.ensures.takes

pub returns-in-Ok-clause-broken : goal.returns-in-Ok-clause-broken
returns-in-Ok-clause-broken g c is = absurd (false≢true (sym c.if-self.false ∙ is))

pub returns-in-Ok-clause-apart : goal.returns-in-Ok-clause-apart
returns-in-Ok-clause-apart g c whole apart =
    absurd (not_apart g.D.Disk.view (broker_of c.args.self.now) c.take_all.new.broker c.args.batch c.issued-issued.result c.issued-issued.ensures (omega (arith, c.if-issued-first.false)) (omega (arith, c.if-last-issued.false)) apart)

pub returns-in-Ok-clause-untouched : goal.returns-in-Ok-clause-untouched
returns-in-Ok-clause-untouched g c apart =
    absurd (not_apart g.D.Disk.view (broker_of c.args.self.now) c.take_all.new.broker c.args.batch c.issued-issued.result c.issued-issued.ensures (omega (arith, c.if-issued-first.false)) (omega (arith, c.if-last-issued.false)) apart)

pub returns-in-Ok-clause-err : goal.returns-in-Ok-clause-err
returns-in-Ok-clause-err g c = tt

pub returns-in-Ok-clause-stands : goal.returns-in-Ok-clause-stands
returns-in-Ok-clause-stands g c history stands =
    stands_rest g.D.Disk.view (broker_of c.args.self.now) c.take_all.new.broker c.args.batch c.issued-issued.result c.issued-issued.ensures c.forget_first.new.commands.items c.forget_first.ensures history (c.take_all.ensures.stands history stands)

pub returns-in-Err-Illegal-clause-takes : goal.returns-in-Err-Illegal-clause-takes
returns-in-Err-Illegal-clause-takes g c =
    takes_rest g.D.Disk.view (broker_of c.args.self.now) c.take_all.new.broker c.args.batch c.issued-issued.result c.issued-issued.ensures c.forget_first.new.commands.items c.forget_first.ensures c.take_all.ensures.takes

pub returns-in-Err-Illegal-clause-broken : goal.returns-in-Err-Illegal-clause-broken
returns-in-Err-Illegal-clause-broken g c is = absurd (false≢true (sym c.if-self.false ∙ is))

pub returns-in-Err-Illegal-clause-apart : goal.returns-in-Err-Illegal-clause-apart
returns-in-Err-Illegal-clause-apart g c whole apart = refl

pub returns-in-Err-Illegal-clause-untouched : goal.returns-in-Err-Illegal-clause-untouched
returns-in-Err-Illegal-clause-untouched g c apart =
    absurd (not_apart g.D.Disk.view (broker_of c.args.self.now) c.take_all.new.broker c.args.batch c.issued-issued.result c.issued-issued.ensures (omega (arith, c.if-issued-first.false)) (omega (arith, c.if-last-issued.false)) apart)

pub returns-in-Err-Illegal-clause-ok : goal.returns-in-Err-Illegal-clause-ok
returns-in-Err-Illegal-clause-ok g c = tt

pub returns-in-Err-Illegal-clause-stands : goal.returns-in-Err-Illegal-clause-stands
returns-in-Err-Illegal-clause-stands g c history stands =
    stands_rest g.D.Disk.view (broker_of c.args.self.now) c.take_all.new.broker c.args.batch c.issued-issued.result c.issued-issued.ensures c.forget_first.new.commands.items c.forget_first.ensures history (c.take_all.ensures.stands history stands)

pub returns-in-Err-Backlog-clause-takes : goal.returns-in-Err-Backlog-clause-takes
returns-in-Err-Backlog-clause-takes g c =
    takes_rest g.D.Disk.view (broker_of c.args.self.now) c.take_all.new.broker c.args.batch c.issued-issued.result c.issued-issued.ensures c.forget_first.new.commands.items c.forget_first.ensures c.take_all.ensures.takes

pub returns-in-Err-Backlog-clause-broken : goal.returns-in-Err-Backlog-clause-broken
returns-in-Err-Backlog-clause-broken g c is = absurd (false≢true (sym c.if-self.false ∙ is))

pub returns-in-Err-Backlog-clause-apart : goal.returns-in-Err-Backlog-clause-apart
returns-in-Err-Backlog-clause-apart g c whole apart =
    absurd (not_apart g.D.Disk.view (broker_of c.args.self.now) c.take_all.new.broker c.args.batch c.issued-issued.result c.issued-issued.ensures (omega (arith, c.if-issued-first.false)) (omega (arith, c.if-last-issued.false)) apart)

pub returns-in-Err-Backlog-clause-untouched : goal.returns-in-Err-Backlog-clause-untouched
returns-in-Err-Backlog-clause-untouched g c apart =
    absurd (not_apart g.D.Disk.view (broker_of c.args.self.now) c.take_all.new.broker c.args.batch c.issued-issued.result c.issued-issued.ensures (omega (arith, c.if-issued-first.false)) (omega (arith, c.if-last-issued.false)) apart)

pub returns-in-Err-Backlog-clause-ok : goal.returns-in-Err-Backlog-clause-ok
returns-in-Err-Backlog-clause-ok g c = tt

pub returns-in-Err-Backlog-clause-stands : goal.returns-in-Err-Backlog-clause-stands
returns-in-Err-Backlog-clause-stands g c history stands =
    stands_rest g.D.Disk.view (broker_of c.args.self.now) c.take_all.new.broker c.args.batch c.issued-issued.result c.issued-issued.ensures c.forget_first.new.commands.items c.forget_first.ensures history (c.take_all.ensures.stands history stands)

pub returns-in-Err-OutOfMemory-clause-takes : goal.returns-in-Err-OutOfMemory-clause-takes
returns-in-Err-OutOfMemory-clause-takes g c =
    takes_rest g.D.Disk.view (broker_of c.args.self.now) c.take_all.new.broker c.args.batch c.issued-issued.result c.issued-issued.ensures c.forget_first.new.commands.items c.forget_first.ensures c.take_all.ensures.takes

pub returns-in-Err-OutOfMemory-clause-broken : goal.returns-in-Err-OutOfMemory-clause-broken
returns-in-Err-OutOfMemory-clause-broken g c is = absurd (false≢true (sym c.if-self.false ∙ is))

pub returns-in-Err-OutOfMemory-clause-apart : goal.returns-in-Err-OutOfMemory-clause-apart
returns-in-Err-OutOfMemory-clause-apart g c whole apart =
    absurd (not_apart g.D.Disk.view (broker_of c.args.self.now) c.take_all.new.broker c.args.batch c.issued-issued.result c.issued-issued.ensures (omega (arith, c.if-issued-first.false)) (omega (arith, c.if-last-issued.false)) apart)

pub returns-in-Err-OutOfMemory-clause-untouched : goal.returns-in-Err-OutOfMemory-clause-untouched
returns-in-Err-OutOfMemory-clause-untouched g c apart =
    absurd (not_apart g.D.Disk.view (broker_of c.args.self.now) c.take_all.new.broker c.args.batch c.issued-issued.result c.issued-issued.ensures (omega (arith, c.if-issued-first.false)) (omega (arith, c.if-last-issued.false)) apart)

pub returns-in-Err-OutOfMemory-clause-ok : goal.returns-in-Err-OutOfMemory-clause-ok
returns-in-Err-OutOfMemory-clause-ok g c = tt

pub returns-in-Err-OutOfMemory-clause-err : goal.returns-in-Err-OutOfMemory-clause-err
returns-in-Err-OutOfMemory-clause-err g c = c.if-self.false

pub returns-in-Err-OutOfMemory-clause-stands : goal.returns-in-Err-OutOfMemory-clause-stands
returns-in-Err-OutOfMemory-clause-stands g c history stands =
    stands_rest g.D.Disk.view (broker_of c.args.self.now) c.take_all.new.broker c.args.batch c.issued-issued.result c.issued-issued.ensures c.forget_first.new.commands.items c.forget_first.ensures history (c.take_all.ensures.stands history stands)
