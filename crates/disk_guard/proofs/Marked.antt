-- What stands in a sector, beside a write of others, and of bytes that stand in more.
use Rattle.std.proofs.Common.{◌≡◌, ℕ, ◌+◌, ◌-◌, ◌*◌, ◌<◌, ◌≤◌, List, length, take, drop, sym, ◌∙◌, ap, arith, length-drop}
use Rattle.std.proofs.lemmas.List.{take-take, drop-drop, drop-take}
use Rattle.sector_disk.specs.Disk.{MayDiffer}
use Rattle.disk_guard.specs.Marks.{StandFrom, StandsIn}

-- what lies in front of a place is in what is taken up to there
in_front : (xs : List ℕ) (from n at : ℕ) → from + n ≤ at → take n (drop from xs) ≡ take n (drop from (take at xs))
in_front xs from n at le =
    sym (drop-take from n xs) ∙ ap (λ (l : List ℕ). drop from l) (sym (take-take (from + n) at xs le)) ∙ drop-take from n (take at xs)

-- what lies behind a place is in what is left from there on
behind : (xs : List ℕ) (from at : ℕ) → at ≤ from → drop from xs ≡ drop (from - at) (drop at xs)
behind xs from at le =
    let e : at + (from - at) ≡ from = omega (arith, le) in
    ap (λ (k : ℕ). drop k xs) (sym e) ∙ sym (drop-drop (from - at) at xs)

pub stands_before : (old new : List ℕ) (sector at count : ℕ) (bytes : List ℕ) → sector < at → StandsIn old sector bytes
    → MayDiffer (512 * at) (512 * count) old new → StandsIn new sector bytes
stands_before old new sector at count bytes lt was differ =
    let le : 512 * sector + 512 ≤ 512 * at = omega (arith, lt) in
    in_front new (512 * sector) 512 (512 * at) le
    ∙ ap (λ (l : List ℕ). take 512 (drop (512 * sector) l)) differ.before
    ∙ sym (in_front old (512 * sector) 512 (512 * at) le)
    ∙ was

pub stands_behind : (old new : List ℕ) (sector at count : ℕ) (bytes : List ℕ) → at ≤ sector → count ≤ sector - at → StandsIn old sector bytes
    → MayDiffer (512 * at) (512 * count) old new → StandsIn new sector bytes
stands_behind old new sector at count bytes from enough was differ =
    let end : ℕ = 512 * at + 512 * count in
    let le : 512 * at + 512 * count ≤ 512 * sector = omega (arith, from, enough) in
    ap (λ (l : List ℕ). take 512 l) (behind new (512 * sector) (512 * at + 512 * count) le)
    ∙ ap (λ (l : List ℕ). take 512 (drop (512 * sector - (512 * at + 512 * count)) l)) differ.after
    ∙ ap (λ (l : List ℕ). take 512 l) (sym (behind old (512 * sector) (512 * at + 512 * count) le))
    ∙ was

-- the first sector of bytes that stand there
pub first_stands : (content : List ℕ) (at : ℕ) (bytes : List ℕ) → 512 ≤ length bytes → StandFrom content at bytes → StandsIn content at (take 512 bytes)
first_stands content at bytes enough stand =
    sym (take-take 512 (length bytes) (drop (512 * at) content) enough) ∙ ap (λ (l : List ℕ). take 512 l) stand

-- those behind it
pub rest_stands : (content : List ℕ) (at next : ℕ) (bytes : List ℕ) → 512 ≤ length bytes → next ≡ at + 1 → StandFrom content at bytes
    → StandFrom content next (drop 512 bytes)
rest_stands content at next bytes enough is stand =
    let n : ℕ = length bytes - 512 in
    let size : length (drop 512 bytes) ≡ length bytes - 512 = length-drop 512 bytes in
    let sum : 512 + (length bytes - 512) ≡ length bytes = omega (arith, enough) in
    let place : 512 * next ≡ 512 * at + 512 = omega (arith, is) in
    ap (λ (k : ℕ). take k (drop (512 * next) content)) size
    ∙ ap (λ (k : ℕ). take (length bytes - 512) (drop k content)) place
    ∙ ap (λ (l : List ℕ). take (length bytes - 512) l) (sym (drop-drop 512 (512 * at) content))
    ∙ sym (drop-take 512 (length bytes - 512) (drop (512 * at) content))
    ∙ ap (λ (k : ℕ). drop 512 (take k (drop (512 * at) content))) sum
    ∙ ap (λ (l : List ℕ). drop 512 l) stand
