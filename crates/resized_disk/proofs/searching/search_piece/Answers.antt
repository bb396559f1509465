use Rattle.std.proofs.Common.{◌≡◌, ℕ, ◌+◌, ◌-◌, ◌*◌, ◌/◌, ◌≤◌, length, None, Some, subst, arith}
use Rattle.resized_disk.specs.Sectors.{half}
use Rattle.resized_disk.specs.Pieces.{is_found, passes, TellsFirst}
use Rattle.resized_disk.proofs.Places.{found_passes, first_further}
use Rattle.resized_disk.proofs.searching.search_piece.Goals as goal

pub returns-in-Some-clause-exact : goal.returns-in-Some-clause-exact
returns-in-Some-clause-exact g c honest =
    let content = (g.D.Disk.view c.args.disk.now).content in
    let piece = c.read_piece.new.piece in
    let header = c.args.header.now in
    let middle : c.sectors-half.result / 2 ≡ half content = omega (arith, (g.met.D.Disk.laws c.args.disk.now honest).size, c.sectors-half.ensures) in
    let same : length piece ≡ length c.args.piece.now = omega (arith, c.read_piece.auto.piece) in
    subst (λ (n : ℕ). TellsFirst (passes header content) c.args.at (c.args.at + (n / 512 - 1)) (Some (c.args.at + c.in-Some.place))) same
    (first_further (λ place. is_found header (c.sectors-half.result / 2) c.args.at place piece) (passes header content) c.args.at (length piece / 512 - 1)
    (λ n low. let within : 512 * n + 1024 ≤ length piece = omega (arith, low) in found_passes content piece c.args.at n (c.in_ok-read_piece.ensures.bytes honest) within header _ middle)
    (Some c.in-Some.place) c.in-Some.ensures)

pub returns-in-None-clause-exact : goal.returns-in-None-clause-exact
returns-in-None-clause-exact g c honest =
    let content = (g.D.Disk.view c.args.disk.now).content in
    let piece = c.read_piece.new.piece in
    let header = c.args.header.now in
    let middle : c.sectors-half.result / 2 ≡ half content = omega (arith, (g.met.D.Disk.laws c.args.disk.now honest).size, c.sectors-half.ensures) in
    let same : length piece ≡ length c.args.piece.now = omega (arith, c.read_piece.auto.piece) in
    subst (λ (n : ℕ). TellsFirst (passes header content) c.args.at (c.args.at + (n / 512 - 1)) None) same
    (first_further (λ place. is_found header (c.sectors-half.result / 2) c.args.at place piece) (passes header content) c.args.at (length piece / 512 - 1)
    (λ n low. let within : 512 * n + 1024 ≤ length piece = omega (arith, low) in found_passes content piece c.args.at n (c.in_ok-read_piece.ensures.bytes honest) within header _ middle)
    None c.in-None.ensures)
