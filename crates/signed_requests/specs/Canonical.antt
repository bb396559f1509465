-- The canonical request, as AWS's General Reference makes it of a request: "Create a canonical request".
use Rattle.std.specs.Prelude.{ℕ, ◌==◌, ◌&&◌, Bool, true, if◌then◌else◌, List, [], ◌∷◌, ◌++◌, map, codes}
use Rattle.std.specs.List.{flat_map, slice_split, before_first, after_first, join_with_byte}
use Rattle.std.specs.Str.{byte}
use Rattle.std.specs.declared.cmp.Ordering.{Ordering}
use Rattle.std.specs.Ordering.{ordering_then, nat_cmp, is_gt}
use Rattle.std.specs.Cmp.Lexicographic.{slice_cmp}
use Rattle.http_header.specs.HeaderMap.{Entries, get_all}
use Rattle.http_header.specs.FieldValue.{FieldValue}
use Rattle.http_header.specs.Token.{lowercase}
use Rattle.percent_encoding.specs.Percent.{percent_decode}
use Rattle.sha2.specs.Sha256.{sha256}
use Rattle.signed_requests.specs.Encoding.{uri_encode, encode_parts, hex}

-- a request: the target is a path and, behind its first `?`, a query, as the request line has them
pub record Request : Type 0 where
  pub method : List ℕ
  pub target : List ℕ
  pub headers : Entries FieldValue
  pub body : List ℕ

-- CanonicalURI: the path with each part encoded once more, and `/` where there is none
abbrev pub or_slash : List ℕ → List ℕ
or_slash [] = byte "/" ∷ []
or_slash (b ∷ bs) = b ∷ bs

unfoldable pub canonical_path : List ℕ → List ℕ
canonical_path target = encode_parts (or_slash (before_first (λ b. b == byte "?") target))

-- CanonicalQueryString: the pairs, encoded, in the order of their names and then of their values
abbrev pub Pair : Type 0
Pair = List ℕ × List ℕ

abbrev pub encoded_pair : List ℕ → Pair
encoded_pair text =
    (uri_encode (percent_decode (before_first (λ b. b == byte "=") text)), uri_encode (percent_decode (after_first (λ b. b == byte "=") text)))

abbrev pub pair_cmp : Pair → Pair → Ordering
pair_cmp p q = ordering_then (slice_cmp nat_cmp p.0 q.0) (slice_cmp nat_cmp p.1 q.1)

abbrev pub insert_pair : Pair → List Pair → List Pair
insert_pair p [] = p ∷ []
insert_pair p (q ∷ qs) = if is_gt (pair_cmp p q) then q ∷ insert_pair p qs else p ∷ q ∷ qs

abbrev pub in_order : List Pair → List Pair
in_order [] = []
in_order (p ∷ ps) = insert_pair p (in_order ps)

abbrev pub pair_text : Pair → List ℕ
pair_text p = p.0 ++ byte "=" ∷ p.1

-- a query that is empty has no pair
abbrev pub query_pairs : List ℕ → List Pair
query_pairs [] = []
query_pairs (b ∷ bs) = map encoded_pair (slice_split (λ b. b == byte "&") (b ∷ bs))

unfoldable pub canonical_query : List ℕ → List ℕ
canonical_query target =
    join_with_byte (byte "&") (map pair_text (in_order (query_pairs (after_first (λ b. b == byte "?") target))))

-- CanonicalHeaders: Trimall leaves no space in front or at the end, and one of each run
abbrev pub skip_spaces : List ℕ → List ℕ
skip_spaces [] = []
skip_spaces (b ∷ bs) = if b == byte " " then skip_spaces bs else b ∷ bs

abbrev pub ends_or_spaces : List ℕ → Bool
ends_or_spaces [] = true
ends_or_spaces (b ∷ bs) = b == byte " "

-- a space stays only before a byte that is none
abbrev pub single_spaced : List ℕ → List ℕ
single_spaced [] = []
single_spaced (b ∷ bs) = if (b == byte " ") && ends_or_spaces bs then single_spaced bs else b ∷ single_spaced bs

abbrev pub trim_all : List ℕ → List ℕ
trim_all value = single_spaced (skip_spaces value)

-- the values of one name are joined by commas, in their order
abbrev pub values_of : Entries FieldValue → List ℕ → List (List ℕ)
values_of headers name = map (λ (v : FieldValue). v.bytes) (get_all headers (lowercase name))

unfoldable pub canonical_header : Entries FieldValue → List ℕ → List ℕ
canonical_header headers name =
    ((name ++ codes ":") ++ join_with_byte (byte ",") (map trim_all (values_of headers name))) ++ codes "\n"

-- the parts, each on a line of its own; the names are those of SignedHeaders, which joins them by `;`
unfoldable pub canonical_request : Request → List ℕ → List ℕ
canonical_request r signed =
    r.method ++ codes "\n" ++ canonical_path r.target ++ codes "\n" ++ canonical_query r.target ++ codes "\n"
    ++ flat_map (canonical_header r.headers) (slice_split (λ b. b == byte ";") signed) ++ codes "\n"
    ++ signed ++ codes "\n" ++ hex (sha256 r.body)
