-- HMAC (RFC 2104) with SHA-256, whose blocks have 64 bytes.
use Rattle.std.specs.Prelude.{ℕ, ◌-◌, List, ◌++◌, length, map, nat_lt, if◌then◌else◌, replicate, bit_xor}
use Rattle.sha2.specs.Sha256.{sha256}

-- a key that is longer than a block is hashed first
abbrev pub short_key : List ℕ → List ℕ
short_key key = if nat_lt 64 (length key) then sha256 key else key

-- the key with zeros behind it, up to the length of a block
unfoldable pub block_key : List ℕ → List ℕ
block_key key = short_key key ++ replicate (64 - length (short_key key)) 0

-- each byte of a block, exclusive-or this one
abbrev pub padded : ℕ → List ℕ → List ℕ
padded pad block = map (λ b. bit_xor b pad) block

-- H(K XOR opad, H(K XOR ipad, text))
unfoldable pub hmac_sha256 : List ℕ → List ℕ → List ℕ
hmac_sha256 key text = sha256 (padded 0x5c (block_key key) ++ sha256 (padded 0x36 (block_key key) ++ text))
