use Rattle.std.proofs.Common.{◌∙◌, Err, sym, ap, refl}
use Rattle.std.proofs.lemmas.Result.{err_from_is_err_and}
use Rattle.broker_core.specs.Broker.{settings_of, table_in}
use Rattle.disk_copy.specs.Copying.{settings_for, of_seed}
use Rattle.aged_copy.proofs.Copies.{told, fits, granted, refused, bad_so, good_so, copied, seed_bad, bad_numbers, never_numbers, never_bad, goes_on}
use Rattle.aged_copy.proofs.copying.copy_with_age.Goals as goal

pub returns-in_err-settings-clause-sound : goal.returns-in_err-settings-clause-sound
returns-in_err-settings-clause-sound g c history stands short bad =
    let why = c.in_err-settings.field-0.0 in
    let p = err_from_is_err_and c.from_residual.result c.from_residual.ensures.1 in
    let is = sym p.2 ∙ (let same = sym p.1 ∙ bad in cc) in
    let broker = c.args.broker.now in
    never_numbers g.D.Disk.view broker history stands
    (bad_numbers (settings_of broker) (settings_for broker c.args.change.now) c.args.age (table_in broker) why c.in_err-settings.ensures.refused is) short

pub returns-in_err-seed-clause-refused : goal.returns-in_err-seed-clause-refused
returns-in_err-seed-clause-refused g c =
    let made = c.in_ok-settings in
    let why = c.in_err-seed.field-0.0 in
    let seed = c.in_err-seed.ensures in
    let disk = g.E.Disk.view c.args.disk.now in
    let p = err_from_is_err_and c.from_residual-in_err-seed.result c.from_residual-in_err-seed.ensures.1 in
    rw (p.1, p.2)
    (refused c.args.broker.now c.args.change.now c.args.age made.settings made.snapshot made.ensures.settings made.ensures.table made.ensures.granted made.ensures.fits disk.sectors (of_seed why)
    (told disk made.settings made.snapshot (Err why) seed.least seed.too_small seed.bad why refl))

pub returns-in_err-seed-clause-sound : goal.returns-in_err-seed-clause-sound
returns-in_err-seed-clause-sound g c history stands short bad =
    let made = c.in_ok-settings in
    let why = c.in_err-seed.field-0.0 in
    let p = err_from_is_err_and c.from_residual-in_err-seed.result c.from_residual-in_err-seed.ensures.1 in
    let is = seed_bad why (sym p.2 ∙ (let same = sym p.1 ∙ bad in cc)) in
    let stood = (c.in_err-seed.ensures.bad.0 (ap (λ e. Err e) is)).1 in
    let new = settings_for c.args.broker.now c.args.change.now in
    let good = good_so c.args.broker.now c.args.change.now c.args.age made.settings made.snapshot made.ensures.settings made.ensures.table made.ensures.granted made.ensures.fits made.ensures.good in
    never_bad g.D.Disk.view c.args.broker.now history stands new good made.ensures.allows c.args.age made.ensures.fits
    (bad_so c.args.broker.now c.args.change.now c.args.age made.settings made.snapshot made.ensures.settings made.ensures.table made.ensures.granted made.ensures.fits stood) short

pub returns-clause-granted : goal.returns-clause-granted
returns-clause-granted g c =
    let made = c.in_ok-settings in
    let seed = c.in_ok-seed.ensures in
    let disk = g.E.Disk.view c.args.disk.now in
    granted c.args.broker.now c.args.change.now c.args.age made.settings made.snapshot made.ensures.settings made.ensures.table made.ensures.granted made.ensures.fits disk.sectors
    (fits disk made.settings made.snapshot _ seed.least seed.too_small seed.bad (λ n wrong. cc) (λ wrong. cc))

pub returns-clause-goes_on : goal.returns-clause-goes_on
returns-clause-goes_on g c honest history stands =
    let made = c.in_ok-settings in
    let disk = g.E.Disk.view c.seed.new.disk in
    let new = settings_for c.args.broker.now c.args.change.now in
    let good = good_so c.args.broker.now c.args.change.now c.args.age made.settings made.snapshot made.ensures.settings made.ensures.table made.ensures.granted made.ensures.fits made.ensures.good in
    goes_on g.D.Disk.view c.args.broker.now history stands new good made.ensures.allows c.args.age made.ensures.fits disk
    (copied c.args.broker.now c.args.change.now c.args.age made.settings made.snapshot made.ensures.settings made.ensures.table made.ensures.granted made.ensures.fits disk
    (c.in_ok-seed.ensures.seeded honest))
