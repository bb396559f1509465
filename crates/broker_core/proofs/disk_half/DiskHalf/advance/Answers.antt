use Rattle.std.proofs.Common.{◌≡◌, ◌∙◌, ◌++◌, sym, ap, subst, arith, Err, inl, inr, ⊎_elim}
use Rattle.std.proofs.lemmas.Bool.{false≢true}
use Rattle.invoke_records.specs.declared.snapshot.Snapshot.{Snapshot}
use Rattle.broker_core.specs.declared.error.WriteError.{WriteError}
use Rattle.broker_core.specs.declared.error.WriteError.TheVariants as write_error
use Rattle.checkpoint.specs.Live.{generation_of}
use Rattle.broker_core.specs.Broker.{disk_of, table_in, issued_of}
use Rattle.broker_core.specs.Splitting.{broker_of}
use Rattle.broker_core.specs.Batch.{cause_of}
use Rattle.broker_core.specs.Taking.{IsTakeReason, commit_cause}
use Rattle.broker_core.specs.Writing.{taken_from, IsNotWritten}
use Rattle.broker_core.proofs.Writes.{stays_in_front, leaves_at_first, same_table, stands_on, leaves_on, not_written, bad_of, fault_of, same_settings, same_error, same_at_first, same_on, not_taken}
use Rattle.broker_core.proofs.disk_half.DiskHalf.advance.Goals as goal

-- ## It did not go on

pub returns-in-Err-clause-front : goal.returns-in-Err-clause-front
returns-in-Err-clause-front g c =
    stays_in_front g.D.Disk.view (broker_of c.args.self.now) (broker_of c.take_batch.new.self) c.args.batch (omega (arith, c.take_batch.ensures.takes.issued)) c.take_batch.ensures.takes.most
    (λ apart. ap (λ (t : Snapshot). t.number) (c.take_batch.ensures.untouched apart).table)

pub returns-in-Err-clause-any_moment : goal.returns-in-Err-clause-any_moment
returns-in-Err-clause-any_moment g c = leaves_at_first g.D.Disk.view (broker_of c.args.self.now) (broker_of c.take_batch.new.self) c.args.batch g.met.D.Disk.laws c.take_batch.ensures.takes.disk

-- ## It went on

pub returns-in-Ok-clause-untouched : goal.returns-in-Ok-clause-untouched
returns-in-Ok-clause-untouched g c apart = absurd (c.in_default.ensures.ok.joined apart)

pub returns-in-Ok-clause-front : goal.returns-in-Ok-clause-front
returns-in-Ok-clause-front g c =
    let number : issued_of c.advance.new.self ≡ issued_of (broker_of c.take_batch.new.self) = ap (λ (t : Snapshot). t.number) c.in-Ok.ensures.ok.table in
    stays_in_front g.D.Disk.view (broker_of c.args.self.now) c.advance.new.self c.args.batch (omega (arith, number, c.take_batch.ensures.takes.issued))
    (omega (arith, number, c.take_batch.ensures.takes.most)) (λ apart. absurd (c.in_default.ensures.ok.joined apart))

pub returns-in-Ok-2-clause-untouched : goal.returns-in-Ok-2-clause-untouched
returns-in-Ok-2-clause-untouched g c apart = absurd (c.in_default.ensures.ok.joined apart)

pub returns-in-Ok-2-clause-front : goal.returns-in-Ok-2-clause-front
returns-in-Ok-2-clause-front g c =
    let number : issued_of c.advance.new.self ≡ issued_of (broker_of c.take_batch.new.self) = ap (λ (t : Snapshot). t.number) c.in-Ok-2.ensures.ok.table in
    stays_in_front g.D.Disk.view (broker_of c.args.self.now) c.advance.new.self c.args.batch (omega (arith, number, c.take_batch.ensures.takes.issued))
    (omega (arith, number, c.take_batch.ensures.takes.most)) (λ apart. absurd (c.in_default.ensures.ok.joined apart))

-- ## It was refused

-- the table that the half had
same : (g : _) (c : goal.After-new-in-Err-advance g) → table_in c.advance.new.self ≡ table_in (broker_of c.take_batch.new.self)
same g c =
    same_table g.D.Disk.view (broker_of c.args.self.now) (broker_of c.take_batch.new.self) c.advance.new.self c.args.batch c.take_batch.ensures.takes c.in-Err-advance.why
    (λ is. c.in-Err-advance.ensures.breaks (ap Err is)) (⊎_elim (λ fault. inl (cc)) (λ kept. inr kept) c.in-Err-advance.ensures.kept)

pub returns-in-Err-advance-clause-untouched : goal.returns-in-Err-advance-clause-untouched
returns-in-Err-advance-clause-untouched g c apart = absurd (c.in_default.ensures.ok.joined apart)

pub returns-in-Err-advance-clause-err : goal.returns-in-Err-advance-clause-err
returns-in-Err-advance-clause-err g c =
    let old = broker_of c.args.self.now in
    let mid = broker_of c.take_batch.new.self in
    let new = c.advance.new.self in
    let why : cause_of c.new-in-Err-advance.result ≡ commit_cause c.in-Err-advance.why = c.new-in-Err-advance.ensures.cause ∙ c.cause_of.ensures in
    subst (λ (e : WriteError). IsNotWritten old c.args.batch new e) (sym why)
    (not_written g.D.Disk.view old mid new c.args.batch c.take_batch.ensures.takes c.in_default.ensures.ok c.in-Err-advance.why
    (λ is. absurd (c.in-Err-advance.ensures.not_broken (ap Err is))) (λ is. c.in-Err-advance.ensures.worn_out (ap Err is)) (λ is. c.in-Err-advance.ensures.bad (ap Err is))
    (λ is. c.in-Err-advance.ensures.breaks (ap Err is)) (⊎_elim (λ fault. inl (cc)) (λ kept. inr kept) c.in-Err-advance.ensures.kept))

pub returns-in-Err-advance-clause-stands : goal.returns-in-Err-advance-clause-stands
returns-in-Err-advance-clause-stands g c history stands =
    let old = broker_of c.args.self.now in
    let mid = broker_of c.take_batch.new.self in
    stands_on g.D.Disk.view old mid c.advance.new.self c.args.batch c.take_batch.ensures.takes history (same g c)
    (c.in-Err-advance.ensures.stands (history ++ taken_from old mid c.args.batch) (c.take_batch.ensures.stands history stands))

pub returns-in-Err-advance-clause-sound : goal.returns-in-Err-advance-clause-sound
returns-in-Err-advance-clause-sound g c history stands is =
    let old = broker_of c.args.self.now in
    let mid = broker_of c.take_batch.new.self in
    let why : commit_cause c.in-Err-advance.why ≡ write_error.BadKind = sym c.cause_of.ensures ∙ sym c.new-in-Err-advance.ensures.cause ∙ is in
    c.in-Err-advance.ensures.sound (history ++ taken_from old mid c.args.batch) (c.take_batch.ensures.stands history stands) (ap Err (bad_of c.in-Err-advance.why why))

pub returns-in-Err-advance-clause-front : goal.returns-in-Err-advance-clause-front
returns-in-Err-advance-clause-front g c =
    let number : issued_of c.advance.new.self ≡ issued_of (broker_of c.take_batch.new.self) = ap (λ (t : Snapshot). t.number) (same g c) in
    stays_in_front g.D.Disk.view (broker_of c.args.self.now) c.advance.new.self c.args.batch (omega (arith, number, c.take_batch.ensures.takes.issued))
    (omega (arith, number, c.take_batch.ensures.takes.most)) (λ apart. absurd (c.in_default.ensures.ok.joined apart))

pub returns-in-Err-advance-clause-any_moment : goal.returns-in-Err-advance-clause-any_moment
returns-in-Err-advance-clause-any_moment g c =
    leaves_on g.D.Disk.view (broker_of c.args.self.now) (broker_of c.take_batch.new.self) c.advance.new.self c.args.batch c.take_batch.ensures.takes (same g c) c.in-Err-advance.ensures.any_moment
    c.take_batch.ensures.stands

-- ## Short ones

pub returns-in-Err-clause-same : goal.returns-in-Err-clause-same
returns-in-Err-clause-same g c =
    same_at_first g.D.Disk.view (disk_of (broker_of c.args.self.now)) (disk_of (broker_of c.take_batch.new.self)) c.take_batch.ensures.takes.disk

pub returns-in-Err-clause-later : goal.returns-in-Err-clause-later
returns-in-Err-clause-later g c =
    omega (arith, ap g.D.Disk.fault_count c.take_batch.ensures.takes.disk)

pub returns-in-Err-clause-fault : goal.returns-in-Err-clause-fault
returns-in-Err-clause-fault g c is below =
    absurd (subst (λ (e : WriteError). IsTakeReason (broker_of c.args.self.now) c.args.batch (broker_of c.take_batch.new.self) e) (sym c.new.ensures.cause ∙ is) c.in-Err.ensures.err)

pub returns-in-Err-clause-ok : goal.returns-in-Err-clause-ok
returns-in-Err-clause-ok g c = tt

pub returns-in-Err-clause-broken : goal.returns-in-Err-clause-broken
returns-in-Err-clause-broken g c is =
    c.new.ensures.cause ∙ same_error (c.in-Err.ensures.broken is)

pub returns-in-Err-clause-apart : goal.returns-in-Err-clause-apart
returns-in-Err-clause-apart g c whole apart =
    c.new.ensures.cause ∙ same_error (c.in-Err.ensures.apart whole apart)

pub returns-in-Err-clause-untouched : goal.returns-in-Err-clause-untouched
returns-in-Err-clause-untouched g c = c.take_batch.ensures.untouched

pub returns-in-Err-clause-err : goal.returns-in-Err-clause-err
returns-in-Err-clause-err g c =
    subst (λ (e : WriteError). IsNotWritten (broker_of c.args.self.now) c.args.batch (broker_of c.take_batch.new.self) e) (sym c.new.ensures.cause)
    (not_taken (broker_of c.args.self.now) (broker_of c.take_batch.new.self) c.args.batch c.in-Err.cause c.take_batch.ensures.takes c.in-Err.ensures.err)

pub returns-in-Err-clause-settings : goal.returns-in-Err-clause-settings
returns-in-Err-clause-settings g c = c.take_batch.ensures.takes.settings

pub returns-in-Err-clause-longer : goal.returns-in-Err-clause-longer
returns-in-Err-clause-longer g c = omega (arith, c.take_batch.ensures.takes.issued)

pub returns-in-Err-clause-stands : goal.returns-in-Err-clause-stands
returns-in-Err-clause-stands g c = c.take_batch.ensures.stands

pub returns-in-Err-clause-sound : goal.returns-in-Err-clause-sound
returns-in-Err-clause-sound g c history stands is =
    absurd (subst (λ (e : WriteError). IsTakeReason (broker_of c.args.self.now) c.args.batch (broker_of c.take_batch.new.self) e) (sym c.new.ensures.cause ∙ is) c.in-Err.ensures.err)

pub returns-in-Ok-clause-same : goal.returns-in-Ok-clause-same
returns-in-Ok-clause-same g c =
    same_on g.D.Disk.view (disk_of (broker_of c.args.self.now)) (disk_of (broker_of c.take_batch.new.self)) (disk_of c.advance.new.self) c.take_batch.ensures.takes.disk c.advance.ensures.same

pub returns-in-Ok-2-clause-same : goal.returns-in-Ok-2-clause-same
returns-in-Ok-2-clause-same g c =
    same_on g.D.Disk.view (disk_of (broker_of c.args.self.now)) (disk_of (broker_of c.take_batch.new.self)) (disk_of c.advance.new.self) c.take_batch.ensures.takes.disk c.advance.ensures.same

pub returns-in-Ok-clause-later : goal.returns-in-Ok-clause-later
returns-in-Ok-clause-later g c =
    omega (arith, ap g.D.Disk.fault_count c.take_batch.ensures.takes.disk, c.advance.ensures.later)

pub returns-in-Ok-2-clause-later : goal.returns-in-Ok-2-clause-later
returns-in-Ok-2-clause-later g c =
    omega (arith, ap g.D.Disk.fault_count c.take_batch.ensures.takes.disk, c.advance.ensures.later)

pub returns-in-Ok-clause-broken : goal.returns-in-Ok-clause-broken
returns-in-Ok-clause-broken g c is = absurd (false≢true (sym c.in_default.ensures.ok.whole ∙ is))

pub returns-in-Ok-2-clause-broken : goal.returns-in-Ok-2-clause-broken
returns-in-Ok-2-clause-broken g c is = absurd (false≢true (sym c.in_default.ensures.ok.whole ∙ is))

pub returns-in-Ok-clause-apart : goal.returns-in-Ok-clause-apart
returns-in-Ok-clause-apart g c whole apart = absurd (c.in_default.ensures.ok.joined apart)

pub returns-in-Ok-2-clause-apart : goal.returns-in-Ok-2-clause-apart
returns-in-Ok-2-clause-apart g c whole apart = absurd (c.in_default.ensures.ok.joined apart)

pub returns-in-Err-advance-clause-same : goal.returns-in-Err-advance-clause-same
returns-in-Err-advance-clause-same g c =
    same_on g.D.Disk.view (disk_of (broker_of c.args.self.now)) (disk_of (broker_of c.take_batch.new.self)) (disk_of c.advance.new.self) c.take_batch.ensures.takes.disk c.advance.ensures.same

pub returns-in-Err-advance-clause-later : goal.returns-in-Err-advance-clause-later
returns-in-Err-advance-clause-later g c =
    omega (arith, ap g.D.Disk.fault_count c.take_batch.ensures.takes.disk, c.advance.ensures.later)

pub returns-in-Err-advance-clause-broken : goal.returns-in-Err-advance-clause-broken
returns-in-Err-advance-clause-broken g c is = absurd (false≢true (sym c.in_default.ensures.ok.whole ∙ is))

pub returns-in-Err-advance-clause-apart : goal.returns-in-Err-advance-clause-apart
returns-in-Err-advance-clause-apart g c whole apart = absurd (c.in_default.ensures.ok.joined apart)

pub returns-in-Ok-clause-fault : goal.returns-in-Ok-clause-fault
returns-in-Ok-clause-fault g c is = absurd is

pub returns-in-Ok-2-clause-fault : goal.returns-in-Ok-2-clause-fault
returns-in-Ok-2-clause-fault g c is = absurd is

pub returns-in-Ok-clause-err : goal.returns-in-Ok-clause-err
returns-in-Ok-clause-err g c = tt

pub returns-in-Ok-2-clause-err : goal.returns-in-Ok-2-clause-err
returns-in-Ok-2-clause-err g c = tt

pub returns-in-Ok-clause-sound : goal.returns-in-Ok-clause-sound
returns-in-Ok-clause-sound g c history stands is = absurd is

pub returns-in-Ok-2-clause-sound : goal.returns-in-Ok-2-clause-sound
returns-in-Ok-2-clause-sound g c history stands is = absurd is

pub returns-in-Ok-clause-settings : goal.returns-in-Ok-clause-settings
returns-in-Ok-clause-settings g c =
    c.in-Ok.ensures.ok.settings ∙ c.take_batch.ensures.takes.settings

pub returns-in-Ok-2-clause-settings : goal.returns-in-Ok-2-clause-settings
returns-in-Ok-2-clause-settings g c =
    c.in-Ok-2.ensures.ok.settings ∙ c.take_batch.ensures.takes.settings

pub returns-in-Ok-clause-longer : goal.returns-in-Ok-clause-longer
returns-in-Ok-clause-longer g c =
    omega (arith, c.take_batch.ensures.takes.issued, ap (λ (t : Snapshot). t.number) c.in-Ok.ensures.ok.table)

pub returns-in-Ok-2-clause-longer : goal.returns-in-Ok-2-clause-longer
returns-in-Ok-2-clause-longer g c =
    omega (arith, c.take_batch.ensures.takes.issued, ap (λ (t : Snapshot). t.number) c.in-Ok-2.ensures.ok.table)

pub returns-in-Ok-clause-stands : goal.returns-in-Ok-clause-stands
returns-in-Ok-clause-stands g c history stands =
    stands_on g.D.Disk.view (broker_of c.args.self.now) (broker_of c.take_batch.new.self) c.advance.new.self c.args.batch c.take_batch.ensures.takes history c.in-Ok.ensures.ok.table
    (c.advance.ensures.stands (history ++ taken_from (broker_of c.args.self.now) (broker_of c.take_batch.new.self) c.args.batch) (c.take_batch.ensures.stands history stands))

pub returns-in-Ok-2-clause-stands : goal.returns-in-Ok-2-clause-stands
returns-in-Ok-2-clause-stands g c history stands =
    stands_on g.D.Disk.view (broker_of c.args.self.now) (broker_of c.take_batch.new.self) c.advance.new.self c.args.batch c.take_batch.ensures.takes history c.in-Ok-2.ensures.ok.table
    (c.advance.ensures.stands (history ++ taken_from (broker_of c.args.self.now) (broker_of c.take_batch.new.self) c.args.batch) (c.take_batch.ensures.stands history stands))

pub returns-in-Ok-clause-any_moment : goal.returns-in-Ok-clause-any_moment
returns-in-Ok-clause-any_moment g c =
    leaves_on g.D.Disk.view (broker_of c.args.self.now) (broker_of c.take_batch.new.self) c.advance.new.self c.args.batch c.take_batch.ensures.takes c.in-Ok.ensures.ok.table c.advance.ensures.any_moment
    c.take_batch.ensures.stands

pub returns-in-Ok-2-clause-any_moment : goal.returns-in-Ok-2-clause-any_moment
returns-in-Ok-2-clause-any_moment g c =
    leaves_on g.D.Disk.view (broker_of c.args.self.now) (broker_of c.take_batch.new.self) c.advance.new.self c.args.batch c.take_batch.ensures.takes c.in-Ok-2.ensures.ok.table c.advance.ensures.any_moment
    c.take_batch.ensures.stands

pub returns-in-Err-advance-clause-ok : goal.returns-in-Err-advance-clause-ok
returns-in-Err-advance-clause-ok g c = tt

pub returns-in-Err-advance-clause-longer : goal.returns-in-Err-advance-clause-longer
returns-in-Err-advance-clause-longer g c =
    omega (arith, c.take_batch.ensures.takes.issued, ap (λ (t : Snapshot). t.number) (same g c))

pub returns-in-Err-advance-clause-settings : goal.returns-in-Err-advance-clause-settings
returns-in-Err-advance-clause-settings g c =
    same_settings g.D.Disk.view (broker_of c.args.self.now) (broker_of c.take_batch.new.self) c.advance.new.self c.args.batch c.take_batch.ensures.takes c.in-Err-advance.why
    (λ is. c.in-Err-advance.ensures.breaks (ap Err is)) (⊎_elim (λ fault. inl (cc)) (λ kept. inr kept) c.in-Err-advance.ensures.kept)

pub returns-in-Err-advance-clause-fault : goal.returns-in-Err-advance-clause-fault
returns-in-Err-advance-clause-fault g c is below =
    let why = fault_of c.in-Err-advance.why (sym c.cause_of.ensures ∙ sym c.new-in-Err-advance.ensures.cause ∙ is) in
    omega (arith, ap g.D.Disk.fault_count c.take_batch.ensures.takes.disk, c.in-Err-advance.ensures.fault (ap Err why) below)

pub returns-in-Err-clause-switched : goal.returns-in-Err-clause-switched
returns-in-Err-clause-switched g c = omega (arith, ap generation_of c.take_batch.ensures.takes.opened)

pub returns-in-Ok-clause-switched : goal.returns-in-Ok-clause-switched
returns-in-Ok-clause-switched g c =
    let taken = ap generation_of c.take_batch.ensures.takes.opened in
    ⊎_elim (λ none. inl (omega (arith, taken, none))) (λ once. inr (omega (arith, taken, once))) c.in-Ok.ensures.ok.switched

pub returns-in-Ok-2-clause-switched : goal.returns-in-Ok-2-clause-switched
returns-in-Ok-2-clause-switched g c =
    let taken = ap generation_of c.take_batch.ensures.takes.opened in
    ⊎_elim (λ none. inl (omega (arith, taken, none))) (λ once. inr (omega (arith, taken, once))) c.in-Ok-2.ensures.ok.switched

pub returns-in-Err-advance-clause-switched : goal.returns-in-Err-advance-clause-switched
returns-in-Err-advance-clause-switched g c =
    let opened =
    ⊎_elim (λ fault. (c.in-Err-advance.ensures.breaks fault).opened) (λ kept. kept.opened) c.in-Err-advance.ensures.kept in
    omega (arith, ap generation_of c.take_batch.ensures.takes.opened, ap generation_of opened)

pub returns-in-Err-clause-numbers : goal.returns-in-Err-clause-numbers
returns-in-Err-clause-numbers g c = (c.new.ensures.first, c.new.ensures.last)

pub returns-in-Err-advance-clause-numbers : goal.returns-in-Err-advance-clause-numbers
returns-in-Err-advance-clause-numbers g c = (c.new-in-Err-advance.ensures.first, c.new-in-Err-advance.ensures.last)
