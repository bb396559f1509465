use Rattle.std.proofs.Common.{◌≡◌, ◌*◌, ◌≤◌, List, ℕ, length, Result, Ok, Err, IsErrAnd, refl, ◌∙◌, ap, arith}
use Rattle.std.proofs.lemmas.Result.{IfOk-from_err, err_from_is_err_and}
use Rattle.checkpoint.specs.declared.error.SeedError.{SeedError}
use Rattle.checkpoint.specs.declared.error.SeedError.TheVariants as error
use Rattle.sector_disk.specs.laws.Moments.{leaves_weaker}
use Rattle.invoke_records.specs.Spelling.{snapshot_text}
use Rattle.async_core.specs.laws.Limits.{spelled_within}
use Rattle.checkpoint.specs.Image.{least_sectors}
use Rattle.checkpoint.proofs.Spelled.{header_size}
use Rattle.checkpoint.proofs.Switches.{stands_within, parts_are}
use Rattle.checkpoint.proofs.Seeds.{alone_recovers, being_seeded, old_or_whole, none_or_whole}
use Rattle.checkpoint.proofs.seeding.seed.Goals as goal

-- an error that is a fault is no other, and no error is Ok
fault_alone : (r : Result (Unit {0}) SeedError) (why : SeedError) → IsErrAnd r (λ e. e ≡ error.Fault) → r ≡ Err why → why ≡ error.Fault
fault_alone r why told is = let p = err_from_is_err_and r told in cc

not_bad : (P : Type 0) (r : Result (Unit {0}) SeedError) → IsErrAnd r (λ e. e ≡ error.Fault) → r ≡ Err error.BadKind → P
not_bad P r told is = let same : error.BadKind ≡ error.Fault = fault_alone r error.BadKind told is in absurd cc

not_full : (P : Type 0) (r : Result (Unit {0}) SeedError) → IsErrAnd r (λ e. e ≡ error.Fault) → r ≡ Err error.OutOfMemory → P
not_full P r told is = let same : error.OutOfMemory ≡ error.Fault = fault_alone r error.OutOfMemory told is in absurd cc

not_small : (P : Type 0) (r : Result (Unit {0}) SeedError) (least : ℕ) → IsErrAnd r (λ e. e ≡ error.Fault) → r ≡ Err (error.TooSmall least) → P
not_small P r least told is = let same : error.TooSmall least ≡ error.Fault = fault_alone r (error.TooSmall least) told is in absurd cc

no_err : (P : Type 0) (r : Result (Unit {0}) SeedError) (why : SeedError) → r ≡ Ok tt → r ≡ Err why → P
no_err P r why done is = absurd cc

pub write_alone-requires-clause-header : goal.write_alone-requires-clause-header
write_alone-requires-clause-header g c =
    ap (λ (l : List ℕ). length l) (c.deref.ensures.value ∙ c.in_ok-header.ensures.header) ∙ header_size _ _ _ c.requires

pub write_alone-requires-clause-room : goal.write_alone-requires-clause-room
write_alone-requires-clause-room g c =
    let s = c.args.settings.now in
    let snapshot = c.args.snapshot.now in
    let within = spelled_within s snapshot (stands_within s snapshot c.in_ok-header.ensures.stands) c.in_ok-header.ensures.spelled in
    omega (arith, within, c.in_ok-header.ensures.room)

pub returns-in_err-write_alone-clause-any_moment : goal.returns-in_err-write_alone-clause-any_moment
returns-in_err-write_alone-clause-any_moment g c honest =
    let s = c.args.settings.now in
    let snapshot = c.args.snapshot.now in
    let made = c.in_ok-header.ensures in
    let old = g.D.Disk.view c.args.disk.now in
    let room : least_sectors s ≤ old.sectors = omega (arith, made.room, c.sectors-sectors.ensures) in
    let text = parts_are 1 (length (snapshot_text snapshot)) s snapshot _ c.deref.result.now c.deref.ensures.value made.header refl in
    let leaves = rw (text, c.sectors-sectors.ensures) at c.write_alone.ensures.any_moment honest in
    leaves_weaker _ (being_seeded old s c.requires snapshot made.spelled made.stands room) leaves

pub returns-in_err-write_alone-clause-none_or_whole : goal.returns-in_err-write_alone-clause-none_or_whole
returns-in_err-write_alone-clause-none_or_whole g c honest none =
    let s = c.args.settings.now in
    let snapshot = c.args.snapshot.now in
    let made = c.in_ok-header.ensures in
    let old = g.D.Disk.view c.args.disk.now in
    let room : least_sectors s ≤ old.sectors = omega (arith, made.room, c.sectors-sectors.ensures) in
    let text = parts_are 1 (length (snapshot_text snapshot)) s snapshot _ c.deref.result.now c.deref.ensures.value made.header refl in
    let leaves = rw (text, c.sectors-sectors.ensures) at c.write_alone.ensures.any_moment honest in
    leaves_weaker _ (none_or_whole old s c.requires snapshot made.spelled made.stands room (g.met.D.Disk.laws c.args.disk.now honest) none) leaves

pub returns-in_err-write_alone-clause-old_or_whole : goal.returns-in_err-write_alone-clause-old_or_whole
returns-in_err-write_alone-clause-old_or_whole g c honest none =
    let s = c.args.settings.now in
    let snapshot = c.args.snapshot.now in
    let made = c.in_ok-header.ensures in
    let old = g.D.Disk.view c.args.disk.now in
    let room : least_sectors s ≤ old.sectors = omega (arith, made.room, c.sectors-sectors.ensures) in
    let text = parts_are 1 (length (snapshot_text snapshot)) s snapshot _ c.deref.result.now c.deref.ensures.value made.header refl in
    let leaves = rw (text, c.sectors-sectors.ensures) at c.write_alone.ensures.any_moment honest in
    leaves_weaker _ (old_or_whole old s c.requires snapshot made.spelled made.stands room (g.met.D.Disk.laws c.args.disk.now honest) none) leaves

pub returns-clause-any_moment : goal.returns-clause-any_moment
returns-clause-any_moment g c honest =
    let s = c.args.settings.now in
    let snapshot = c.args.snapshot.now in
    let made = c.in_ok-header.ensures in
    let old = g.D.Disk.view c.args.disk.now in
    let room : least_sectors s ≤ old.sectors = omega (arith, made.room, c.sectors-sectors.ensures) in
    let text = parts_are 1 (length (snapshot_text snapshot)) s snapshot _ c.deref.result.now c.deref.ensures.value made.header refl in
    let leaves = rw (text, c.sectors-sectors.ensures) at c.write_alone.ensures.any_moment honest in
    leaves_weaker _ (being_seeded old s c.requires snapshot made.spelled made.stands room) leaves

pub returns-clause-none_or_whole : goal.returns-clause-none_or_whole
returns-clause-none_or_whole g c honest none =
    let s = c.args.settings.now in
    let snapshot = c.args.snapshot.now in
    let made = c.in_ok-header.ensures in
    let old = g.D.Disk.view c.args.disk.now in
    let room : least_sectors s ≤ old.sectors = omega (arith, made.room, c.sectors-sectors.ensures) in
    let text = parts_are 1 (length (snapshot_text snapshot)) s snapshot _ c.deref.result.now c.deref.ensures.value made.header refl in
    let leaves = rw (text, c.sectors-sectors.ensures) at c.write_alone.ensures.any_moment honest in
    leaves_weaker _ (none_or_whole old s c.requires snapshot made.spelled made.stands room (g.met.D.Disk.laws c.args.disk.now honest) none) leaves

pub returns-clause-old_or_whole : goal.returns-clause-old_or_whole
returns-clause-old_or_whole g c honest none =
    let s = c.args.settings.now in
    let snapshot = c.args.snapshot.now in
    let made = c.in_ok-header.ensures in
    let old = g.D.Disk.view c.args.disk.now in
    let room : least_sectors s ≤ old.sectors = omega (arith, made.room, c.sectors-sectors.ensures) in
    let text = parts_are 1 (length (snapshot_text snapshot)) s snapshot _ c.deref.result.now c.deref.ensures.value made.header refl in
    let leaves = rw (text, c.sectors-sectors.ensures) at c.write_alone.ensures.any_moment honest in
    leaves_weaker _ (old_or_whole old s c.requires snapshot made.spelled made.stands room (g.met.D.Disk.laws c.args.disk.now honest) none) leaves

pub returns-clause-seeded : goal.returns-clause-seeded
returns-clause-seeded g c honest =
    let s = c.args.settings.now in
    let snapshot = c.args.snapshot.now in
    let made = c.in_ok-header.ensures in
    let sectors = c.sectors-sectors.result in
    let new = g.D.Disk.view c.write_alone.new.disk in
    let size : length new.content ≡ 512 * sectors =
    omega (arith, (g.met.D.Disk.laws c.write_alone.new.disk (c.write_alone.ensures.same.honest.1 honest)).size, c.write_alone.ensures.same.sectors, c.sectors-sectors.ensures) in
    let text = parts_are 1 (length (snapshot_text snapshot)) s snapshot _ c.deref.result.now c.deref.ensures.value made.header refl in
    let written = rw text at c.in_ok-write_alone.ensures.written honest in
    (written.0, (alone_recovers s c.requires snapshot made.spelled made.stands sectors made.room new.content size written.1).0)

pub returns-clause-generation : goal.returns-clause-generation
returns-clause-generation g c honest =
    let s = c.args.settings.now in
    let snapshot = c.args.snapshot.now in
    let made = c.in_ok-header.ensures in
    let sectors = c.sectors-sectors.result in
    let new = g.D.Disk.view c.write_alone.new.disk in
    let size : length new.content ≡ 512 * sectors =
    omega (arith, (g.met.D.Disk.laws c.write_alone.new.disk (c.write_alone.ensures.same.honest.1 honest)).size, c.write_alone.ensures.same.sectors, c.sectors-sectors.ensures) in
    let text = parts_are 1 (length (snapshot_text snapshot)) s snapshot _ c.deref.result.now c.deref.ensures.value made.header refl in
    let written = rw text at c.in_ok-write_alone.ensures.written honest in
    (alone_recovers s c.requires snapshot made.spelled made.stands sectors made.room new.content size written.1).1

pub returns-in_err-write_alone-clause-same : goal.returns-in_err-write_alone-clause-same
returns-in_err-write_alone-clause-same g c = c.write_alone.ensures.same

pub returns-in_err-write_alone-clause-later : goal.returns-in_err-write_alone-clause-later
returns-in_err-write_alone-clause-later g c = c.write_alone.ensures.cause.later

pub returns-in_err-write_alone-clause-fault : goal.returns-in_err-write_alone-clause-fault
returns-in_err-write_alone-clause-fault g c is = c.in_err-write_alone.ensures.cause.risen refl

pub returns-in_err-write_alone-clause-no_call : goal.returns-in_err-write_alone-clause-no_call
returns-in_err-write_alone-clause-no_call g c least is = not_small _ c.from_residual-in_err-write_alone.result least c.from_residual-in_err-write_alone.ensures.1 is

pub returns-in_err-write_alone-clause-no_call_bad : goal.returns-in_err-write_alone-clause-no_call_bad
returns-in_err-write_alone-clause-no_call_bad g c is = not_bad _ c.from_residual-in_err-write_alone.result c.from_residual-in_err-write_alone.ensures.1 is

pub returns-in_err-write_alone-clause-no_call_either : goal.returns-in_err-write_alone-clause-no_call_either
returns-in_err-write_alone-clause-no_call_either g c is = not_full _ c.from_residual-in_err-write_alone.result c.from_residual-in_err-write_alone.ensures.1 is

pub returns-in_err-write_alone-clause-generation : goal.returns-in_err-write_alone-clause-generation
returns-in_err-write_alone-clause-generation g c honest = IfOk-from_err c.from_residual-in_err-write_alone.result _ c.from_residual-in_err-write_alone.ensures.0

pub returns-in_err-write_alone-clause-seeded : goal.returns-in_err-write_alone-clause-seeded
returns-in_err-write_alone-clause-seeded g c honest = IfOk-from_err c.from_residual-in_err-write_alone.result _ c.from_residual-in_err-write_alone.ensures.0

pub returns-clause-same : goal.returns-clause-same
returns-clause-same g c = c.write_alone.ensures.same

pub returns-clause-later : goal.returns-clause-later
returns-clause-later g c = c.write_alone.ensures.cause.later

pub returns-clause-fault : goal.returns-clause-fault
returns-clause-fault g c is = no_err _ _ _ refl is

pub returns-clause-no_call : goal.returns-clause-no_call
returns-clause-no_call g c least is = no_err _ _ _ refl is

pub returns-clause-no_call_bad : goal.returns-clause-no_call_bad
returns-clause-no_call_bad g c is = no_err _ _ _ refl is

pub returns-clause-no_call_either : goal.returns-clause-no_call_either
returns-clause-no_call_either g c is = no_err _ _ _ refl is
