-- Lemmas: the sixteen bytes of two words.
use Rattle.std.proofs.Common.{◌≡◌, ℕ, ◌+◌, ◌*◌, ◌/◌, ◌%◌, ◌^◌, ◌<◌, ◌++◌, refl, arith}
use Rattle.std.specs.Int.{to_be_bytes, w64, w128}

module _ (h l : ℕ) (low : l < 2 ^ 64) where
  abbrev both : ℕ
  both = h * 2 ^ 64 + l

  byte_15 : both / 2 ^ 120 % 256 ≡ h / 2 ^ 56 % 256
  byte_15 = omega arith

  byte_14 : both / 2 ^ 112 % 256 ≡ h / 2 ^ 48 % 256
  byte_14 = omega arith

  byte_13 : both / 2 ^ 104 % 256 ≡ h / 2 ^ 40 % 256
  byte_13 = omega arith

  byte_12 : both / 2 ^ 96 % 256 ≡ h / 2 ^ 32 % 256
  byte_12 = omega arith

  byte_11 : both / 2 ^ 88 % 256 ≡ h / 2 ^ 24 % 256
  byte_11 = omega arith

  byte_10 : both / 2 ^ 80 % 256 ≡ h / 2 ^ 16 % 256
  byte_10 = omega arith

  byte_9 : both / 2 ^ 72 % 256 ≡ h / 2 ^ 8 % 256
  byte_9 = omega arith

  byte_8 : both / 2 ^ 64 % 256 ≡ h % 256
  byte_8 = omega arith

  byte_7 : both / 2 ^ 56 % 256 ≡ l / 2 ^ 56 % 256
  byte_7 = omega arith

  byte_6 : both / 2 ^ 48 % 256 ≡ l / 2 ^ 48 % 256
  byte_6 = omega arith

  byte_5 : both / 2 ^ 40 % 256 ≡ l / 2 ^ 40 % 256
  byte_5 = omega arith

  byte_4 : both / 2 ^ 32 % 256 ≡ l / 2 ^ 32 % 256
  byte_4 = omega arith

  byte_3 : both / 2 ^ 24 % 256 ≡ l / 2 ^ 24 % 256
  byte_3 = omega arith

  byte_2 : both / 2 ^ 16 % 256 ≡ l / 2 ^ 16 % 256
  byte_2 = omega arith

  byte_1 : both / 2 ^ 8 % 256 ≡ l / 2 ^ 8 % 256
  byte_1 = omega arith

  byte_0 : both % 256 ≡ l % 256
  byte_0 = omega arith

-- two words in sequence are those of the one number that they make
pub two_words : (h l : ℕ) → l < 2 ^ 64 → to_be_bytes w128 (h * 2 ^ 64 + l) ≡ to_be_bytes w64 h ++ to_be_bytes w64 l
two_words h l low =
    rw (byte_15 h l low, byte_14 h l low, byte_13 h l low, byte_12 h l low, byte_11 h l low, byte_10 h l low, byte_9 h l low, byte_8 h l low, byte_7 h l low, byte_6 h l low, byte_5 h l low, byte_4 h l low, byte_3 h l low, byte_2 h l low, byte_1 h l low, byte_0 h l low) refl
