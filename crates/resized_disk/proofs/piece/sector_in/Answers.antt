use Rattle.std.proofs.Common.{◌≡◌, ◌+◌, ◌-◌, ◌*◌, ℕ, take, drop, ap, arith}
use Rattle.resized_disk.proofs.piece.sector_in.Goals as goal

pub returns-clause-exact : goal.returns-clause-exact
returns-clause-exact c =
    let size : 512 * c.args.place + 512 - 512 * c.args.place ≡ 512 = omega arith in
    ap (λ (n : ℕ). take n (drop (512 * c.args.place) c.args.piece.now)) size
