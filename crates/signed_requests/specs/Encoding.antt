-- How bytes stand in what is signed: `UriEncode` and `Hex` of AWS's General Reference, Signature Version 4.
use Rattle.std.specs.Prelude.{ℕ, ◌+◌, ◌/◌, ◌%◌, ◌==◌, ◌&&◌, ◌||◌, nat_le, nat_lt, Bool, if◌then◌else◌, List, [], ◌∷◌}
use Rattle.std.specs.List.{flat_map}
use Rattle.std.specs.Str.{byte}

-- letters, digits, `-`, `.`, `_` and `~`
abbrev pub is_unreserved : ℕ → Bool
is_unreserved b =
    (nat_le 65 b && nat_le b 90) || (nat_le 97 b && nat_le b 122) || (nat_le 48 b && nat_le b 57)
    || (b == byte "-") || (b == byte ".") || (b == byte "_") || (b == byte "~")

abbrev pub upper_digit : ℕ → ℕ
upper_digit n = if nat_lt n 10 then 48 + n else 55 + n

abbrev pub lower_digit : ℕ → ℕ
lower_digit n = if nat_lt n 10 then 48 + n else 87 + n

-- each other byte is `%` and two hexadecimal digits, in upper case
abbrev pub encoded_byte : ℕ → List ℕ
encoded_byte b = if is_unreserved b then b ∷ [] else byte "%" ∷ upper_digit (b / 16) ∷ upper_digit (b % 16) ∷ []

abbrev pub uri_encode : List ℕ → List ℕ
uri_encode bytes = flat_map encoded_byte bytes

-- the parts of a path are encoded, and the slashes between them stay
abbrev pub path_byte : ℕ → List ℕ
path_byte b = if b == byte "/" then b ∷ [] else encoded_byte b

abbrev pub encode_parts : List ℕ → List ℕ
encode_parts path = flat_map path_byte path

-- two hexadecimal digits for each byte, in lower case
abbrev pub hex_byte : ℕ → List ℕ
hex_byte b = lower_digit (b / 16) ∷ lower_digit (b % 16) ∷ []

abbrev pub hex : List ℕ → List ℕ
hex bytes = flat_map hex_byte bytes
