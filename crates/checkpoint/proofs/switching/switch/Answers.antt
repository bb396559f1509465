use Rattle.std.proofs.Common.{◌≡◌, ℕ, List, ◌+◌, ◌*◌, ◌^◌, ◌<◌, ◌≤◌, length, Result, Ok, Err, IsErrAnd, refl, ◌∙◌, ap, arith}
use Rattle.std.proofs.lemmas.Result.{IfOk-from_err, err_from_is_err_and}
use Rattle.sector_disk.specs.laws.Moments.{leaves_weaker}
use Rattle.invoke_records.specs.Spelling.{snapshot_text}
use Rattle.async_core.specs.laws.Limits.{spelled_within}
use Rattle.checkpoint.specs.Image.{least_sectors}
use Rattle.checkpoint.specs.Live.{settings_of}
use Rattle.gate_journal.specs.Frames.{sectors_for}
use Rattle.checkpoint.specs.Pieces.{parts_text}
use Rattle.checkpoint.specs.declared.error.SwitchError.{SwitchError}
use Rattle.checkpoint.specs.declared.error.SwitchError.TheVariants as error
use Rattle.checkpoint.proofs.Spelled.{header_size}
use Rattle.invoke_records.specs.declared.version.Version.TheVariants.{Two}
use Rattle.checkpoint.proofs.Switches.{stands_within, parts_are, not_called, both_new, gate_there, either_there, live_there}
use Rattle.checkpoint.proofs.switching.switch.Goals as goal

-- an error that is a fault is no other, and no error is Ok
fault_alone : (r : Result (Unit {0}) SwitchError) (why : SwitchError) → IsErrAnd r (λ e. e ≡ error.Fault) → r ≡ Err why → why ≡ error.Fault
fault_alone r why told is = let p = err_from_is_err_and r told in cc

not_bad : (P : Type 0) (r : Result (Unit {0}) SwitchError) → IsErrAnd r (λ e. e ≡ error.Fault) → r ≡ Err error.BadKind → P
not_bad P r told is = let same : error.BadKind ≡ error.Fault = fault_alone r error.BadKind told is in absurd cc

not_full : (P : Type 0) (r : Result (Unit {0}) SwitchError) → IsErrAnd r (λ e. e ≡ error.Fault) → r ≡ Err error.OutOfMemory → P
not_full P r told is = let same : error.OutOfMemory ≡ error.Fault = fault_alone r error.OutOfMemory told is in absurd cc

no_err : (P : Type 0) (r : Result (Unit {0}) SwitchError) (why : SwitchError) → r ≡ Ok tt → r ≡ Err why → P
no_err P r why done is = absurd cc

pub returns-in_err-header-clause-any_moment_either : goal.returns-in_err-header-clause-any_moment_either
returns-in_err-header-clause-any_moment_either g c honest version before live = not_called g.D.Disk.view g.met.D.Disk.laws c.args.disk.now version c.args.opened.now before c.args.snapshot.now honest live

pub returns-in_err-header-clause-any_moment : goal.returns-in_err-header-clause-any_moment
returns-in_err-header-clause-any_moment g c honest before live =
    leaves_weaker _ (both_new (settings_of c.args.opened.now) before c.args.snapshot.now) (returns-in_err-header-clause-any_moment_either g c honest Two before live)

pub write_live-requires-clause-room : goal.write_live-requires-clause-room
write_live-requires-clause-room g c =
    let s = settings_of c.args.opened.now in
    let snapshot = c.args.snapshot.now in
    let made = c.in_ok-header.ensures in
    let within = spelled_within s snapshot (stands_within s snapshot made.stands) made.spelled in
    omega (arith, within, c.requires.room.least, c.sectors-half.ensures)

pub write_live-requires-clause-header : goal.write_live-requires-clause-header
write_live-requires-clause-header g c =
    ap (λ (l : List ℕ). length l) (c.deref.ensures.value ∙ c.in_ok-header.ensures.header) ∙ header_size _ _ _ c.requires.good

pub returns-in_err-write_live-clause-any_moment_either : goal.returns-in_err-write_live-clause-any_moment_either
returns-in_err-write_live-clause-any_moment_either g c honest version before live =
    let disk = g.D.Disk.view c.args.disk.now in
    let opened = c.args.opened.now in
    let s = settings_of opened in
    let snapshot = c.args.snapshot.now in
    let sectors = c.sectors-half.result in
    let made = c.in_ok-header.ensures in
    let spelled = made.spelled in
    let within = stands_within s snapshot made.stands in
    let small : length (snapshot_text snapshot) < 2 ^ 64 = omega (arith, c.size-size.ensures.exact, c.size-size.ensures.bounded) in
    let size : length disk.content ≡ 512 * sectors = rw c.sectors-half.ensures (g.met.D.Disk.laws c.args.disk.now honest).size in
    let fits : least_sectors s ≤ sectors = omega (arith, c.sectors-half.ensures, c.requires.room.least) in
    let text = parts_are (opened.generation + 1) (length (snapshot_text snapshot)) s snapshot _ c.deref.result.now c.deref.ensures.value made.header refl in
    let bytes = parts_text c.deref.result.now snapshot in
    leaves_weaker _
    (either_there version disk opened before live c.requires.good snapshot spelled within c.requires.generation small sectors size fits c.other_base-base.result bytes c.other_base-base.ensures text)
    (c.write_live.ensures.any_moment honest live.settled
    (gate_there version disk opened before live c.requires.good snapshot spelled within c.requires.generation small sectors size fits c.other_base-base.result bytes c.other_base-base.ensures text))

pub returns-in_err-write_live-clause-any_moment : goal.returns-in_err-write_live-clause-any_moment
returns-in_err-write_live-clause-any_moment g c honest before live =
    leaves_weaker _ (both_new (settings_of c.args.opened.now) before c.args.snapshot.now) (returns-in_err-write_live-clause-any_moment_either g c honest Two before live)

pub returns-clause-any_moment_either : goal.returns-clause-any_moment_either
returns-clause-any_moment_either g c honest version before live =
    let disk = g.D.Disk.view c.args.disk.now in
    let opened = c.args.opened.now in
    let s = settings_of opened in
    let snapshot = c.args.snapshot.now in
    let sectors = c.sectors-half.result in
    let made = c.in_ok-header.ensures in
    let spelled = made.spelled in
    let within = stands_within s snapshot made.stands in
    let small : length (snapshot_text snapshot) < 2 ^ 64 = omega (arith, c.size-size.ensures.exact, c.size-size.ensures.bounded) in
    let size : length disk.content ≡ 512 * sectors = rw c.sectors-half.ensures (g.met.D.Disk.laws c.args.disk.now honest).size in
    let fits : least_sectors s ≤ sectors = omega (arith, c.sectors-half.ensures, c.requires.room.least) in
    let text = parts_are (opened.generation + 1) (length (snapshot_text snapshot)) s snapshot _ c.deref.result.now c.deref.ensures.value made.header refl in
    let bytes = parts_text c.deref.result.now snapshot in
    leaves_weaker _
    (either_there version disk opened before live c.requires.good snapshot spelled within c.requires.generation small sectors size fits c.other_base-base.result bytes c.other_base-base.ensures text)
    (c.write_live.ensures.any_moment honest live.settled
    (gate_there version disk opened before live c.requires.good snapshot spelled within c.requires.generation small sectors size fits c.other_base-base.result bytes c.other_base-base.ensures text))

pub returns-clause-any_moment : goal.returns-clause-any_moment
returns-clause-any_moment g c honest before live =
    leaves_weaker _ (both_new (settings_of c.args.opened.now) before c.args.snapshot.now) (returns-clause-any_moment_either g c honest Two before live)

pub returns-clause-switched_either : goal.returns-clause-switched_either
returns-clause-switched_either g c honest version before live =
    let disk = g.D.Disk.view c.args.disk.now in
    let opened = c.args.opened.now in
    let s = settings_of opened in
    let snapshot = c.args.snapshot.now in
    let sectors = c.sectors-half.result in
    let made = c.in_ok-header.ensures in
    let spelled = made.spelled in
    let within = stands_within s snapshot made.stands in
    let small : length (snapshot_text snapshot) < 2 ^ 64 = omega (arith, c.size-size.ensures.exact, c.size-size.ensures.bounded) in
    let size : length disk.content ≡ 512 * sectors = rw c.sectors-half.ensures (g.met.D.Disk.laws c.args.disk.now honest).size in
    let fits : least_sectors s ≤ sectors = omega (arith, c.sectors-half.ensures, c.requires.room.least) in
    let text = parts_are (opened.generation + 1) (length (snapshot_text snapshot)) s snapshot _ c.deref.result.now c.deref.ensures.value made.header refl in
    let bytes = parts_text c.deref.result.now snapshot in
    let gate = gate_there version disk opened before live c.requires.good snapshot spelled within c.requires.generation small sectors size fits c.other_base-base.result bytes c.other_base-base.ensures text in
    let done = c.in_ok-write_live.ensures.written gate honest live.settled in
    live_there version disk opened before live c.requires.good snapshot spelled within c.requires.generation small sectors size fits c.other_base-base.result bytes c.other_base-base.ensures text
    (g.D.Disk.view c.write_live.new.disk) _ done.0.settled done.1 refl refl refl refl c.empty-opened.ensures.generation c.empty-opened.ensures.number
    (c.empty-opened.ensures.next ∙ ap (λ (n : ℕ). c.other_base-base.result + 2 + n) (c.sectors_for.ensures ∙ ap sectors_for c.size-size.ensures.exact))
    c.empty-opened.ensures.end

pub returns-clause-switched : goal.returns-clause-switched
returns-clause-switched g c honest before live = returns-clause-switched_either g c honest Two before live

pub returns-in_err-write_live-clause-same : goal.returns-in_err-write_live-clause-same
returns-in_err-write_live-clause-same g c = c.write_live.ensures.same

pub returns-in_err-write_live-clause-later : goal.returns-in_err-write_live-clause-later
returns-in_err-write_live-clause-later g c = c.write_live.ensures.cause.later

pub returns-in_err-write_live-clause-fault : goal.returns-in_err-write_live-clause-fault
returns-in_err-write_live-clause-fault g c is = c.in_err-write_live.ensures.cause.risen refl

pub returns-in_err-write_live-clause-no_call : goal.returns-in_err-write_live-clause-no_call
returns-in_err-write_live-clause-no_call g c is = not_bad _ c.from_residual-in_err-write_live.result c.from_residual-in_err-write_live.ensures.1 is

pub returns-in_err-write_live-clause-no_call_either : goal.returns-in_err-write_live-clause-no_call_either
returns-in_err-write_live-clause-no_call_either g c is = not_full _ c.from_residual-in_err-write_live.result c.from_residual-in_err-write_live.ensures.1 is

pub returns-in_err-write_live-clause-settings : goal.returns-in_err-write_live-clause-settings
returns-in_err-write_live-clause-settings g c = refl

pub returns-in_err-write_live-clause-version : goal.returns-in_err-write_live-clause-version
returns-in_err-write_live-clause-version g c = IfOk-from_err c.from_residual-in_err-write_live.result _ c.from_residual-in_err-write_live.ensures.0

pub returns-in_err-write_live-clause-generation : goal.returns-in_err-write_live-clause-generation
returns-in_err-write_live-clause-generation g c = IfOk-from_err c.from_residual-in_err-write_live.result _ c.from_residual-in_err-write_live.ensures.0

pub returns-in_err-write_live-clause-number : goal.returns-in_err-write_live-clause-number
returns-in_err-write_live-clause-number g c = IfOk-from_err c.from_residual-in_err-write_live.result _ c.from_residual-in_err-write_live.ensures.0

pub returns-in_err-write_live-clause-switched : goal.returns-in_err-write_live-clause-switched
returns-in_err-write_live-clause-switched g c honest before live = IfOk-from_err c.from_residual-in_err-write_live.result _ c.from_residual-in_err-write_live.ensures.0

pub returns-in_err-write_live-clause-switched_either : goal.returns-in_err-write_live-clause-switched_either
returns-in_err-write_live-clause-switched_either g c honest version before live = IfOk-from_err c.from_residual-in_err-write_live.result _ c.from_residual-in_err-write_live.ensures.0

pub returns-clause-same : goal.returns-clause-same
returns-clause-same g c = c.write_live.ensures.same

pub returns-clause-later : goal.returns-clause-later
returns-clause-later g c = c.write_live.ensures.cause.later

pub returns-clause-fault : goal.returns-clause-fault
returns-clause-fault g c is = no_err _ _ _ refl is

pub returns-clause-no_call : goal.returns-clause-no_call
returns-clause-no_call g c is = no_err _ _ _ refl is

pub returns-clause-no_call_either : goal.returns-clause-no_call_either
returns-clause-no_call_either g c is = no_err _ _ _ refl is

pub returns-clause-settings : goal.returns-clause-settings
returns-clause-settings g c = refl

pub returns-clause-version : goal.returns-clause-version
returns-clause-version g c = refl

pub returns-clause-generation : goal.returns-clause-generation
returns-clause-generation g c = refl

pub returns-clause-number : goal.returns-clause-number
returns-clause-number g c = c.empty-opened.ensures.number
