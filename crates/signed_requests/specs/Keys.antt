-- The file of keys: a line `ACCESS_KEY SECRET RIGHT[,RIGHT..]` for each key. A line that is empty or begins with `#` has none.
use Rattle.std.specs.Prelude.{ℕ, ◌+◌, ◌==◌, ◌&&◌, ◌||◌, nat_le, nat_lt, Bool, true, not, is_some, Option, Some, None, option_and_then, option_map, Result, Ok, Err, if◌then◌else◌, List, [], ◌∷◌, ◌++◌, length, codes, bytes_eq}
use Rattle.std.specs.List.{slice_split, list_all}
use Rattle.std.specs.Str.{byte}
use Rattle.signed_requests.specs.declared.keys.Right.{Right}
use Rattle.signed_requests.specs.declared.keys.Right.TheVariants.{Invoke, Collect, Configure, Stop}
use Rattle.signed_requests.specs.declared.keys.Rights.{Rights}
use Rattle.signed_requests.specs.Rights.{no_rights, has_right, with_right}

pub record Entry : Type 0 where
  pub access : List ℕ
  pub secret : List ℕ
  pub rights : Rights

-- the key under a name
abbrev pub key_named : List ℕ → List Entry → Option Entry
key_named name [] = None
key_named name (e ∷ es) = if bytes_eq e.access name then Some e else key_named name es

-- 16 to 128 letters and digits
abbrev pub is_alphanumeric : ℕ → Bool
is_alphanumeric b = (nat_le 65 b && nat_le b 90) || (nat_le 97 b && nat_le b 122) || (nat_le 48 b && nat_le b 57)

abbrev pub has_size : List ℕ → Bool
has_size word = nat_le 16 (length word) && nat_le (length word) 128

abbrev pub is_access : List ℕ → Bool
is_access word = has_size word && list_all is_alphanumeric word

-- 16 to 128 bytes that can be seen
abbrev pub is_visible : ℕ → Bool
is_visible b = nat_le 0x21 b && nat_le b 0x7E

abbrev pub is_secret : List ℕ → Bool
is_secret word = has_size word && list_all is_visible word

-- rights by their names, none twice
abbrev pub right_named : List ℕ → Option Right
right_named word =
    if bytes_eq word (codes "invoke") then Some Invoke
    else if bytes_eq word (codes "collect") then Some Collect
    else if bytes_eq word (codes "configure") then Some Configure
    else if bytes_eq word (codes "stop") then Some Stop
    else None

abbrev pub added : Rights → Option Right → Option Rights
added rights None = None
added rights (Some right) = if has_right rights right then None else Some (with_right rights right)

abbrev pub rights_with : Rights → List (List ℕ) → Option Rights
rights_with rights [] = Some rights
rights_with rights (word ∷ words) = option_and_then (λ more. rights_with more words) (added rights (right_named word))

-- a key, by the words of its line
abbrev pub entry_of_words : List (List ℕ) → Option Entry
entry_of_words (access ∷ secret ∷ rights ∷ []) =
    if is_access access && is_secret secret
    then option_map (λ r. record { access = access; secret = secret; rights = r }) (rights_with no_rights (slice_split (λ b. b == byte ",") rights))
    else None
entry_of_words words = None

abbrev pub entry_in : List ℕ → Option Entry
entry_in line = entry_of_words (slice_split (λ b. b == byte " ") line)

-- the keys with that of one more line: at most 64, and no two of one name
abbrev pub more_keys : List Entry → Option Entry → Option (List Entry)
more_keys known None = None
more_keys known (Some e) =
    if nat_lt (length known) 64 && not (is_some (key_named e.access known)) then Some (known ++ e ∷ []) else None

abbrev pub has_no_key : List ℕ → Bool
has_no_key [] = true
has_no_key (b ∷ bs) = b == byte "#"

abbrev pub keys_with : List Entry → List ℕ → Option (List Entry)
keys_with known line = if has_no_key line then Some known else more_keys known (entry_in line)

-- the keys of the lines from this number on, or the number of the first that is bad
abbrev pub or_bad : ℕ → Option (List Entry) → Result (List Entry) ℕ
or_bad n None = Err n
or_bad n (Some known) = Ok known

infixl 10 ◌>>=◌
abbrev pub ◌>>=◌ : Result (List Entry) ℕ → (List Entry → Result (List Entry) ℕ) → Result (List Entry) ℕ
(Ok known) >>= f = f known
(Err n) >>= f = Err n

abbrev pub keys_from : ℕ → List Entry → List (List ℕ) → Result (List Entry) ℕ
keys_from n known [] = Ok known
keys_from n known (line ∷ lines) = or_bad n (keys_with known line) >>= λ more. keys_from (n + 1) more lines

unfoldable pub keys_in : List ℕ → Result (List Entry) ℕ
keys_in file = keys_from 1 [] (slice_split (λ b. b == byte "\n") file)
