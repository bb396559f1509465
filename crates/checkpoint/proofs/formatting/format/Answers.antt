use Rattle.std.proofs.Common.{◌≡◌, inl, ◌*◌, ◌/◌, ◌≤◌, length, List, ℕ, ◌∙◌, subst, arith}
use Rattle.async_core.specs.Rules.{empty_table}
use Rattle.checkpoint.specs.Image.{least_sectors}
use Rattle.sector_disk.specs.laws.Moments.{started}
use Rattle.checkpoint.specs.Formatting.{IsFormatting}
use Rattle.checkpoint.specs.FormatSteps.{HoldsFirst}
use Rattle.sector_disk.specs.laws.Moments.{leaves_weaker}
use Rattle.checkpoint.proofs.Stops.{unchanged}
use Rattle.checkpoint.proofs.Firsts.{being_formatted, segment_whole, segment_before, empty_small, empty_recovers, empty_generation}
use Rattle.checkpoint.proofs.formatting.format.Goals as goal

pub write_first-requires-clause-whole : goal.write_first-requires-clause-whole
write_first-requires-clause-whole g c =
    let s = c.args.settings.now in
    let room : least_sectors s ≤ (g.D.Disk.view c.args.disk.now).sectors = omega (arith, c.least_sectors-least.ensures.exact, c.sectors-sectors.ensures, c.if-sectors-least.false) in
    let segment = c.deref.ensures.value ∙ (rw (c.empty.ensures, c.policy.ensures) at c.in_ok-segment.ensures) in
    rw segment (segment_whole s c.requires (empty_table s) (empty_small s) (g.D.Disk.view c.args.disk.now).sectors room)

pub write_first-requires-clause-before : goal.write_first-requires-clause-before
write_first-requires-clause-before g c =
    let s = c.args.settings.now in
    let room : least_sectors s ≤ c.sectors-sectors.result = omega (arith, c.least_sectors-least.ensures.exact, c.if-sectors-least.false) in
    let segment = c.deref.ensures.value ∙ (rw (c.empty.ensures, c.policy.ensures) at c.in_ok-segment.ensures) in
    rw segment (segment_before s c.requires (empty_table s) (empty_small s) c.sectors-sectors.result room)

pub returns-clause-formatted : goal.returns-clause-formatted
returns-clause-formatted g c honest =
    let s = c.args.settings.now in
    let sectors = c.sectors-sectors.result in
    let room : least_sectors s ≤ sectors = omega (arith, c.least_sectors-least.ensures.exact, c.if-sectors-least.false) in
    let segment = c.deref.ensures.value ∙ (rw (c.empty.ensures, c.policy.ensures) at c.in_ok-segment.ensures) in
    let new = g.D.Disk.view c.write_first.new.disk in
    let size : length new.content ≡ 512 * sectors =
    omega (arith, (g.met.D.Disk.laws c.write_first.new.disk (c.write_first.ensures.same.honest.1 honest)).size, c.write_first.ensures.same.sectors, c.sectors-sectors.ensures) in
    let written = c.in_ok-write_first.ensures.written honest in
    let holds = subst (λ (l : List ℕ). HoldsFirst (sectors / 2) l new.content) segment written.1 in
    (written.0, empty_recovers s c.requires sectors room new.content size holds)

pub returns-clause-generation : goal.returns-clause-generation
returns-clause-generation g c honest =
    let s = c.args.settings.now in
    let sectors = c.sectors-sectors.result in
    let room : least_sectors s ≤ sectors = omega (arith, c.least_sectors-least.ensures.exact, c.if-sectors-least.false) in
    let segment = c.deref.ensures.value ∙ (rw (c.empty.ensures, c.policy.ensures) at c.in_ok-segment.ensures) in
    let new = g.D.Disk.view c.write_first.new.disk in
    let size : length new.content ≡ 512 * sectors =
    omega (arith, (g.met.D.Disk.laws c.write_first.new.disk (c.write_first.ensures.same.honest.1 honest)).size, c.write_first.ensures.same.sectors, c.sectors-sectors.ensures) in
    let written = c.in_ok-write_first.ensures.written honest in
    let holds = subst (λ (l : List ℕ). HoldsFirst (sectors / 2) l new.content) segment written.1 in
    empty_generation s c.requires sectors room new.content size holds

pub returns-then-sectors-least-clause-any_moment : goal.returns-then-sectors-least-clause-any_moment
returns-then-sectors-least-clause-any_moment g c honest = (started g.D.Disk.view g.met.D.Disk.laws c.args.disk.now (IsFormatting (g.D.Disk.view c.args.disk.now) c.args.settings.now) honest (λ image left. inl (unchanged (g.D.Disk.view c.args.disk.now) image left))).leaves

pub returns-in_err-segment-clause-any_moment : goal.returns-in_err-segment-clause-any_moment
returns-in_err-segment-clause-any_moment g c honest = (started g.D.Disk.view g.met.D.Disk.laws c.args.disk.now (IsFormatting (g.D.Disk.view c.args.disk.now) c.args.settings.now) honest (λ image left. inl (unchanged (g.D.Disk.view c.args.disk.now) image left))).leaves

pub returns-in_err-write_first-clause-any_moment : goal.returns-in_err-write_first-clause-any_moment
returns-in_err-write_first-clause-any_moment g c honest =
    let s = c.args.settings.now in
    let old = g.D.Disk.view c.args.disk.now in
    let room : least_sectors s ≤ old.sectors = omega (arith, c.least_sectors-least.ensures.exact, c.sectors-sectors.ensures, c.if-sectors-least.false) in
    let segment = c.deref.ensures.value ∙ (rw (c.empty.ensures, c.policy.ensures) at c.in_ok-segment.ensures) in
    let leaves = rw (segment, c.sectors-sectors.ensures) at c.write_first.ensures.any_moment honest in
    leaves_weaker _ (being_formatted old s c.requires room) leaves

pub returns-clause-any_moment : goal.returns-clause-any_moment
returns-clause-any_moment g c honest =
    let s = c.args.settings.now in
    let old = g.D.Disk.view c.args.disk.now in
    let room : least_sectors s ≤ old.sectors = omega (arith, c.least_sectors-least.ensures.exact, c.sectors-sectors.ensures, c.if-sectors-least.false) in
    let segment = c.deref.ensures.value ∙ (rw (c.empty.ensures, c.policy.ensures) at c.in_ok-segment.ensures) in
    let leaves = rw (segment, c.sectors-sectors.ensures) at c.write_first.ensures.any_moment honest in
    leaves_weaker _ (being_formatted old s c.requires room) leaves
