-- Who stands in the claim of a disk.
use Rattle.std.specs.Prelude.{ℕ, ◌*◌, List, drop, replicate, Option, Some, None}
use Rattle.disk_claim.specs.Place.{claim_sector}
use Rattle.disk_claim.specs.Token.{token_in}

-- the bytes of the token in this sector of an image; nobody's where there is none
abbrev pub token_at : Option ℕ → List ℕ → List ℕ
token_at None image = replicate 16 0
token_at (Some sector) image = token_in (drop (512 * sector) image)

-- those of the token in the claim of an image of so many sectors
abbrev pub holder_in : ℕ → List ℕ → List ℕ
holder_in sectors image = token_at (claim_sector sectors) image
