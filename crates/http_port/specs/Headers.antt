-- The headers of requests and responses: each name once, in small letters, with its values in order.
use Rattle.std.specs.Prelude.{ℕ, List, [], fold}
use Rattle.http_header.specs.FieldValue.{FieldValue, plain_value}
use Rattle.http_header.specs.HeaderMap.{Entries, append}
use Rattle.http_header.specs.Token.{lowercase}

abbrev pub Headers : Type 0
Headers = Entries FieldValue

-- a name and its value, behind these
abbrev pub with_header : Headers → List ℕ × List ℕ → Headers
with_header headers header = append headers (lowercase header.0) (plain_value header.1)

-- names and values, each behind those before it
abbrev pub with_headers : Headers → List (List ℕ × List ℕ) → Headers
with_headers headers more = fold with_header headers more

-- these names and values, in their order
abbrev pub headers_of : List (List ℕ × List ℕ) → Headers
headers_of pairs = with_headers [] pairs
