use Rattle.std.proofs.Common.{◌≡◌, ℕ, ◌+◌, Bool, length, None, Some, sym, ◌∙◌, ap, arith}
use Rattle.std.specs.Prelude.{if◌then◌else◌}
use Rattle.resized_disk.specs.Sectors.{sector_at, is_open}
use Rattle.resized_disk.specs.Frames.{frame_sectors}
use Rattle.resized_disk.proofs.Places.{piece_sector}
use Rattle.resized_disk.proofs.frames.read_frame.Goals as goal

pub returns-then-is_open-clause-exact : goal.returns-then-is_open-clause-exact
returns-then-is_open-clause-exact g c honest =
    let content = (g.D.Disk.view c.args.disk.now).content in
    let bytes = c.read_piece.new.piece in
    let gate = c.args.gate in
    let size : length bytes ≡ 1024 = omega (arith, c.read_piece.auto.piece) in
    let read = c.in_ok-read_piece.ensures.bytes honest in
    let first : sector_at 0 bytes ≡ sector_at gate content = piece_sector content bytes gate 0 read (omega (arith, size)) ∙ ap (λ (n : ℕ). sector_at n content) (omega arith) in
    let second = c.sector_in-then-is_open.ensures.exact ∙ piece_sector content bytes gate 1 read (omega (arith, size)) in
    let opened = ap is_open (sym (c.sector_in.ensures.exact ∙ first)) ∙ sym c.is_open.ensures ∙ c.if-is_open.true in
    ap (λ (n : ℕ). Some n) (c.frame_sectors.ensures.exact ∙ ap frame_sectors second)
    ∙ sym (ap (λ (b : Bool). if b then Some (frame_sectors (sector_at (gate + 1) content)) else None) opened)

pub returns-else-is_open-clause-exact : goal.returns-else-is_open-clause-exact
returns-else-is_open-clause-exact g c honest =
    let content = (g.D.Disk.view c.args.disk.now).content in
    let bytes = c.read_piece.new.piece in
    let gate = c.args.gate in
    let size : length bytes ≡ 1024 = omega (arith, c.read_piece.auto.piece) in
    let read = c.in_ok-read_piece.ensures.bytes honest in
    let first : sector_at 0 bytes ≡ sector_at gate content = piece_sector content bytes gate 0 read (omega (arith, size)) ∙ ap (λ (n : ℕ). sector_at n content) (omega arith) in
    let shut = ap is_open (sym (c.sector_in.ensures.exact ∙ first)) ∙ sym c.is_open.ensures ∙ c.if-is_open.false in
    sym (ap (λ (b : Bool). if b then Some (frame_sectors (sector_at (gate + 1) content)) else None) shut)
