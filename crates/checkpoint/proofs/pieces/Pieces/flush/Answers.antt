use Rattle.std.proofs.Common.{◌≡◌, ℕ, ◌+◌, ◌*◌, ◌/◌, List, length, refl, subst, arith}
use Rattle.sector_disk.specs.Disk.{IsWrite}
use Rattle.checkpoint.proofs.Puts.{flush_failed, flush_done}
use Rattle.checkpoint.proofs.pieces.Pieces.flush.Given.{Over}
use Rattle.checkpoint.proofs.pieces.Pieces.flush.Goals as goal
use Rattle.checkpoint.proofs.pieces.Pieces.flush.Goals.{After-write}

-- what is written is the piece
abbrev piece_written : (g : Over) (c : After-write g) → (g.D.Disk.view c.args.disk.now).honest
    → IsWrite (g.D.Disk.view c.args.disk.now) (g.D.Disk.view c.write.new.self) (512 * c.args.self.now.at) c.args.self.now.piece.items c.write.result
piece_written g c honest =
    subst (λ (bytes : List ℕ). IsWrite (g.D.Disk.view c.args.disk.now) (g.D.Disk.view c.write.new.self) (512 * c.args.self.now.at) bytes c.write.result) c.deref.ensures.value (c.write.ensures.honest honest)

pub returns-in_err-write-clause-puts : goal.returns-in_err-write-clause-puts
returns-in_err-write-clause-puts g c =
    flush_failed g.D.Disk.view g.met.D.Disk.laws c.args.disk.now c.write.new.self c.args.self.now c.write.result c.requires.room c.args.self.now.behind c.write.ensures.same
    (piece_written g (goal.at.returns-in_err-write-clause-puts g c).After-write) c.from_residual.result c.from_residual.ensures.0

pub returns-clause-puts : goal.returns-clause-puts
returns-clause-puts g c =
    let whole : 512 * (c.args.self.now.at + c.len.result / 512) ≡ 512 * c.args.self.now.at + length c.args.self.now.piece.items = omega (arith, c.len.ensures, c.requires.whole) in
    flush_done g.D.Disk.view g.met.D.Disk.laws c.args.disk.now c.write.new.self c.args.self.now c.write.result c.requires.room c.args.self.now.behind c.write.ensures.same
    (piece_written g (goal.at.returns-clause-puts g c).After-write) _ _ c.in_ok-write.was refl refl whole c.clear.ensures.items
