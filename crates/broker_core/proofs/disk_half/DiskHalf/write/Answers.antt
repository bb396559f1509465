use Rattle.std.proofs.Common.{◌≡◌, ◌∙◌, ◌++◌, sym, ap, subst, arith, Err, inl, inr, ⊎_elim}
use Rattle.std.proofs.lemmas.Bool.{false≢true}
use Rattle.invoke_records.specs.declared.snapshot.Snapshot.{Snapshot}
use Rattle.broker_core.specs.declared.error.WriteError.{WriteError}
use Rattle.broker_core.specs.declared.error.WriteError.TheVariants as write_error
use Rattle.checkpoint.specs.Live.{generation_of}
use Rattle.broker_core.specs.Broker.{disk_of, table_in, issued_of}
use Rattle.broker_core.specs.laws.Generations.{needs_or_not}
use Rattle.broker_core.specs.Splitting.{broker_of}
use Rattle.broker_core.specs.Batch.{cause_of}
use Rattle.broker_core.specs.Taking.{IsTakeReason, commit_cause}
use Rattle.broker_core.specs.Writing.{taken_from, IsNotWritten}
use Rattle.broker_core.proofs.Writes.{stays_in_front, leaves_at_first, same_table, stands_on, leaves_on, not_written, bad_of, fault_of, same_settings, same_error, same_at_first, same_on, not_taken}
use Rattle.broker_core.proofs.disk_half.DiskHalf.write.Goals as goal

-- ## Nothing was committed

pub returns-in-Err-clause-front : goal.returns-in-Err-clause-front
returns-in-Err-clause-front g c =
    stays_in_front g.D.Disk.view (broker_of c.args.self.now) (broker_of c.take_batch.new.self) c.args.batch (omega (arith, c.take_batch.ensures.takes.issued)) c.take_batch.ensures.takes.most
    (λ apart. ap (λ (t : Snapshot). t.number) (c.take_batch.ensures.untouched apart).table)

pub returns-in-Err-clause-any_moment : goal.returns-in-Err-clause-any_moment
returns-in-Err-clause-any_moment g c = leaves_at_first g.D.Disk.view (broker_of c.args.self.now) (broker_of c.take_batch.new.self) c.args.batch g.met.D.Disk.laws c.take_batch.ensures.takes.disk

pub returns-in-Err-clause-switched : goal.returns-in-Err-clause-switched
returns-in-Err-clause-switched g c = omega (arith, ap generation_of c.take_batch.ensures.takes.opened)

-- ## It was committed

pub returns-in-Ok-clause-switched : goal.returns-in-Ok-clause-switched
returns-in-Ok-clause-switched g c =
    let taken = ap generation_of c.take_batch.ensures.takes.opened in
    ⊎_elim (λ needs. inr (omega (arith, taken, c.in-Ok.ensures.switches needs))) (λ none. inl (omega (arith, taken, c.in-Ok.ensures.stays none))) (needs_or_not (broker_of c.take_batch.new.self))

pub returns-in-Ok-clause-untouched : goal.returns-in-Ok-clause-untouched
returns-in-Ok-clause-untouched g c apart = absurd (c.in_default.ensures.ok.joined apart)

pub returns-in-Ok-clause-front : goal.returns-in-Ok-clause-front
returns-in-Ok-clause-front g c =
    let number : issued_of c.commit.new.self ≡ issued_of (broker_of c.take_batch.new.self) = ap (λ (t : Snapshot). t.number) c.in-Ok.ensures.ok.table in
    stays_in_front g.D.Disk.view (broker_of c.args.self.now) c.commit.new.self c.args.batch (omega (arith, number, c.take_batch.ensures.takes.issued))
    (omega (arith, number, c.take_batch.ensures.takes.most)) (λ apart. absurd (c.in_default.ensures.ok.joined apart))

-- ## The commit was refused

-- the table that the half had
same : (g : _) (c : goal.After-new-in-Err-commit g) → table_in c.commit.new.self ≡ table_in (broker_of c.take_batch.new.self)
same g c =
    same_table g.D.Disk.view (broker_of c.args.self.now) (broker_of c.take_batch.new.self) c.commit.new.self c.args.batch c.take_batch.ensures.takes c.in-Err-commit.why
    (λ is. c.in-Err-commit.ensures.breaks (ap Err is)) (⊎_elim (λ fault. inl (cc)) (λ kept. inr kept) c.in-Err-commit.ensures.kept)

pub returns-in-Err-commit-clause-untouched : goal.returns-in-Err-commit-clause-untouched
returns-in-Err-commit-clause-untouched g c apart = absurd (c.in_default.ensures.ok.joined apart)

pub returns-in-Err-commit-clause-err : goal.returns-in-Err-commit-clause-err
returns-in-Err-commit-clause-err g c =
    let old = broker_of c.args.self.now in
    let mid = broker_of c.take_batch.new.self in
    let new = c.commit.new.self in
    let why : cause_of c.new-in-Err-commit.result ≡ commit_cause c.in-Err-commit.why = c.new-in-Err-commit.ensures.cause ∙ c.cause_of.ensures in
    subst (λ (e : WriteError). IsNotWritten old c.args.batch new e) (sym why)
    (not_written g.D.Disk.view old mid new c.args.batch c.take_batch.ensures.takes c.in_default.ensures.ok c.in-Err-commit.why
    (λ is. c.in-Err-commit.ensures.broken.0 (ap Err is)) (λ is. c.in-Err-commit.ensures.worn_out (ap Err is)) (λ is. c.in-Err-commit.ensures.bad (ap Err is))
    (λ is. c.in-Err-commit.ensures.breaks (ap Err is)) (⊎_elim (λ fault. inl (cc)) (λ kept. inr kept) c.in-Err-commit.ensures.kept))

pub returns-in-Err-commit-clause-stands : goal.returns-in-Err-commit-clause-stands
returns-in-Err-commit-clause-stands g c history stands =
    let old = broker_of c.args.self.now in
    let mid = broker_of c.take_batch.new.self in
    stands_on g.D.Disk.view old mid c.commit.new.self c.args.batch c.take_batch.ensures.takes history (same g c)
    (c.in-Err-commit.ensures.stands (history ++ taken_from old mid c.args.batch) (c.take_batch.ensures.stands history stands))

pub returns-in-Err-commit-clause-sound : goal.returns-in-Err-commit-clause-sound
returns-in-Err-commit-clause-sound g c history stands is =
    let old = broker_of c.args.self.now in
    let mid = broker_of c.take_batch.new.self in
    let why : commit_cause c.in-Err-commit.why ≡ write_error.BadKind = sym c.cause_of.ensures ∙ sym c.new-in-Err-commit.ensures.cause ∙ is in
    c.in-Err-commit.ensures.sound (history ++ taken_from old mid c.args.batch) (c.take_batch.ensures.stands history stands) (ap Err (bad_of c.in-Err-commit.why why))

pub returns-in-Err-commit-clause-front : goal.returns-in-Err-commit-clause-front
returns-in-Err-commit-clause-front g c =
    let number : issued_of c.commit.new.self ≡ issued_of (broker_of c.take_batch.new.self) = ap (λ (t : Snapshot). t.number) (same g c) in
    stays_in_front g.D.Disk.view (broker_of c.args.self.now) c.commit.new.self c.args.batch (omega (arith, number, c.take_batch.ensures.takes.issued))
    (omega (arith, number, c.take_batch.ensures.takes.most)) (λ apart. absurd (c.in_default.ensures.ok.joined apart))

pub returns-in-Err-commit-clause-any_moment : goal.returns-in-Err-commit-clause-any_moment
returns-in-Err-commit-clause-any_moment g c =
    leaves_on g.D.Disk.view (broker_of c.args.self.now) (broker_of c.take_batch.new.self) c.commit.new.self c.args.batch c.take_batch.ensures.takes (same g c) c.in-Err-commit.ensures.any_moment
    c.take_batch.ensures.stands

pub returns-in-Err-commit-clause-switched : goal.returns-in-Err-commit-clause-switched
returns-in-Err-commit-clause-switched g c =
    let opened =
    ⊎_elim (λ fault. (c.in-Err-commit.ensures.breaks fault).opened) (λ kept. kept.opened) c.in-Err-commit.ensures.kept in
    omega (arith, ap generation_of c.take_batch.ensures.takes.opened, ap generation_of opened)

-- ## Short ones

pub returns-in-Err-clause-same : goal.returns-in-Err-clause-same
returns-in-Err-clause-same g c =
    same_at_first g.D.Disk.view (disk_of (broker_of c.args.self.now)) (disk_of (broker_of c.take_batch.new.self)) c.take_batch.ensures.takes.disk

pub returns-in-Err-clause-later : goal.returns-in-Err-clause-later
returns-in-Err-clause-later g c =
    omega (arith, ap g.D.Disk.fault_count c.take_batch.ensures.takes.disk)

pub returns-in-Err-clause-fault : goal.returns-in-Err-clause-fault
returns-in-Err-clause-fault g c is below =
    absurd (subst (λ (e : WriteError). IsTakeReason (broker_of c.args.self.now) c.args.batch (broker_of c.take_batch.new.self) e) (sym c.new.ensures.cause ∙ is) c.in-Err.ensures.err)

pub returns-in-Err-clause-first : goal.returns-in-Err-clause-first
returns-in-Err-clause-first g c = c.new.ensures.first

pub returns-in-Err-clause-last : goal.returns-in-Err-clause-last
returns-in-Err-clause-last g c = c.new.ensures.last

pub returns-in-Err-clause-ok : goal.returns-in-Err-clause-ok
returns-in-Err-clause-ok g c = tt

pub returns-in-Err-clause-broken : goal.returns-in-Err-clause-broken
returns-in-Err-clause-broken g c is =
    c.new.ensures.cause ∙ same_error (c.in-Err.ensures.broken is)

pub returns-in-Err-clause-apart : goal.returns-in-Err-clause-apart
returns-in-Err-clause-apart g c whole apart =
    c.new.ensures.cause ∙ same_error (c.in-Err.ensures.apart whole apart)

pub returns-in-Err-clause-untouched : goal.returns-in-Err-clause-untouched
returns-in-Err-clause-untouched g c = c.take_batch.ensures.untouched

pub returns-in-Err-clause-err : goal.returns-in-Err-clause-err
returns-in-Err-clause-err g c =
    subst (λ (e : WriteError). IsNotWritten (broker_of c.args.self.now) c.args.batch (broker_of c.take_batch.new.self) e) (sym c.new.ensures.cause)
    (not_taken (broker_of c.args.self.now) (broker_of c.take_batch.new.self) c.args.batch c.in-Err.cause c.take_batch.ensures.takes c.in-Err.ensures.err)

pub returns-in-Err-clause-settings : goal.returns-in-Err-clause-settings
returns-in-Err-clause-settings g c = c.take_batch.ensures.takes.settings

pub returns-in-Err-clause-longer : goal.returns-in-Err-clause-longer
returns-in-Err-clause-longer g c = omega (arith, c.take_batch.ensures.takes.issued)

pub returns-in-Err-clause-stands : goal.returns-in-Err-clause-stands
returns-in-Err-clause-stands g c = c.take_batch.ensures.stands

pub returns-in-Err-clause-sound : goal.returns-in-Err-clause-sound
returns-in-Err-clause-sound g c history stands is =
    absurd (subst (λ (e : WriteError). IsTakeReason (broker_of c.args.self.now) c.args.batch (broker_of c.take_batch.new.self) e) (sym c.new.ensures.cause ∙ is) c.in-Err.ensures.err)

pub returns-in-Ok-clause-same : goal.returns-in-Ok-clause-same
returns-in-Ok-clause-same g c =
    same_on g.D.Disk.view (disk_of (broker_of c.args.self.now)) (disk_of (broker_of c.take_batch.new.self)) (disk_of c.commit.new.self) c.take_batch.ensures.takes.disk c.commit.ensures.same

pub returns-in-Ok-clause-later : goal.returns-in-Ok-clause-later
returns-in-Ok-clause-later g c =
    omega (arith, ap g.D.Disk.fault_count c.take_batch.ensures.takes.disk, c.commit.ensures.later)

pub returns-in-Ok-clause-first : goal.returns-in-Ok-clause-first
returns-in-Ok-clause-first g c = c.new-in-Ok.ensures.first

pub returns-in-Ok-clause-last : goal.returns-in-Ok-clause-last
returns-in-Ok-clause-last g c = c.new-in-Ok.ensures.last

pub returns-in-Ok-clause-broken : goal.returns-in-Ok-clause-broken
returns-in-Ok-clause-broken g c is = absurd (false≢true (sym c.in_default.ensures.ok.whole ∙ is))

pub returns-in-Ok-clause-apart : goal.returns-in-Ok-clause-apart
returns-in-Ok-clause-apart g c whole apart = absurd (c.in_default.ensures.ok.joined apart)

pub returns-in-Err-commit-clause-same : goal.returns-in-Err-commit-clause-same
returns-in-Err-commit-clause-same g c =
    same_on g.D.Disk.view (disk_of (broker_of c.args.self.now)) (disk_of (broker_of c.take_batch.new.self)) (disk_of c.commit.new.self) c.take_batch.ensures.takes.disk c.commit.ensures.same

pub returns-in-Err-commit-clause-later : goal.returns-in-Err-commit-clause-later
returns-in-Err-commit-clause-later g c =
    omega (arith, ap g.D.Disk.fault_count c.take_batch.ensures.takes.disk, c.commit.ensures.later)

pub returns-in-Err-commit-clause-first : goal.returns-in-Err-commit-clause-first
returns-in-Err-commit-clause-first g c = c.new-in-Err-commit.ensures.first

pub returns-in-Err-commit-clause-last : goal.returns-in-Err-commit-clause-last
returns-in-Err-commit-clause-last g c = c.new-in-Err-commit.ensures.last

pub returns-in-Err-commit-clause-broken : goal.returns-in-Err-commit-clause-broken
returns-in-Err-commit-clause-broken g c is = absurd (false≢true (sym c.in_default.ensures.ok.whole ∙ is))

pub returns-in-Err-commit-clause-apart : goal.returns-in-Err-commit-clause-apart
returns-in-Err-commit-clause-apart g c whole apart = absurd (c.in_default.ensures.ok.joined apart)

pub returns-in-Ok-clause-fault : goal.returns-in-Ok-clause-fault
returns-in-Ok-clause-fault g c is = absurd is

pub returns-in-Ok-clause-err : goal.returns-in-Ok-clause-err
returns-in-Ok-clause-err g c = tt

pub returns-in-Ok-clause-sound : goal.returns-in-Ok-clause-sound
returns-in-Ok-clause-sound g c history stands is = absurd is

pub returns-in-Ok-clause-settings : goal.returns-in-Ok-clause-settings
returns-in-Ok-clause-settings g c =
    c.in-Ok.ensures.ok.settings ∙ c.take_batch.ensures.takes.settings

pub returns-in-Ok-clause-longer : goal.returns-in-Ok-clause-longer
returns-in-Ok-clause-longer g c =
    omega (arith, c.take_batch.ensures.takes.issued, ap (λ (t : Snapshot). t.number) c.in-Ok.ensures.ok.table)

pub returns-in-Ok-clause-stands : goal.returns-in-Ok-clause-stands
returns-in-Ok-clause-stands g c history stands =
    stands_on g.D.Disk.view (broker_of c.args.self.now) (broker_of c.take_batch.new.self) c.commit.new.self c.args.batch c.take_batch.ensures.takes history c.in-Ok.ensures.ok.table
    (c.commit.ensures.stands (history ++ taken_from (broker_of c.args.self.now) (broker_of c.take_batch.new.self) c.args.batch) (c.take_batch.ensures.stands history stands))

pub returns-in-Ok-clause-any_moment : goal.returns-in-Ok-clause-any_moment
returns-in-Ok-clause-any_moment g c =
    leaves_on g.D.Disk.view (broker_of c.args.self.now) (broker_of c.take_batch.new.self) c.commit.new.self c.args.batch c.take_batch.ensures.takes c.in-Ok.ensures.ok.table c.commit.ensures.any_moment
    c.take_batch.ensures.stands

pub returns-in-Err-commit-clause-ok : goal.returns-in-Err-commit-clause-ok
returns-in-Err-commit-clause-ok g c = tt

pub returns-in-Err-commit-clause-longer : goal.returns-in-Err-commit-clause-longer
returns-in-Err-commit-clause-longer g c =
    omega (arith, c.take_batch.ensures.takes.issued, ap (λ (t : Snapshot). t.number) (same g c))

pub returns-in-Err-commit-clause-settings : goal.returns-in-Err-commit-clause-settings
returns-in-Err-commit-clause-settings g c =
    same_settings g.D.Disk.view (broker_of c.args.self.now) (broker_of c.take_batch.new.self) c.commit.new.self c.args.batch c.take_batch.ensures.takes c.in-Err-commit.why
    (λ is. c.in-Err-commit.ensures.breaks (ap Err is)) (⊎_elim (λ fault. inl (cc)) (λ kept. inr kept) c.in-Err-commit.ensures.kept)

pub returns-in-Err-commit-clause-fault : goal.returns-in-Err-commit-clause-fault
returns-in-Err-commit-clause-fault g c is below =
    let why = fault_of c.in-Err-commit.why (sym c.cause_of.ensures ∙ sym c.new-in-Err-commit.ensures.cause ∙ is) in
    omega (arith, ap g.D.Disk.fault_count c.take_batch.ensures.takes.disk, c.in-Err-commit.ensures.fault (ap Err why) below)
