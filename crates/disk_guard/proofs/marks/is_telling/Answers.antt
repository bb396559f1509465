use Rattle.std.proofs.Common.{◌≡◌, ℕ, false, take, drop, ◌-◌, ap, sym, ◌∙◌, not, ◌&&◌}
use Rattle.disk_guard.specs.Marks.{is_header, says_something}
use Rattle.std.proofs.lemmas.List.{take_rest}
use Rattle.disk_guard.proofs.marks.is_telling.Goals as goal

pub returns-then-not-is_header : goal.returns-then-not-is_header
returns-then-not-is_header c =
    let all : take 511 (drop 1 c.args.sector.now) ≡ drop 1 c.args.sector.now =
    ap (λ (n : ℕ). take (n - 1) (drop 1 c.args.sector.now)) (sym c.told-sector) ∙ take_rest c.args.sector.now 1 in
    let plain : is_header c.args.sector.now ≡ false = sym c.is_header.ensures ∙ c.if-not-is_header.true in
    c.says_something.ensures
    ∙ ap says_something all
    ∙ ap (λ header. not header && says_something (drop 1 c.args.sector.now)) (sym plain)
