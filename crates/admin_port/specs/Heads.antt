-- Which requests the operator's port answers to, and which may have something done, by their headers.
use Rattle.std.specs.Prelude.{ℕ, ◌==◌, ◌&&◌, ◌||◌, List, [], ◌∷◌, length, take, drop, Bool, true, is_some, unwrap_or, option_map, codes, bytes_eq}
use Rattle.std.specs.Str.{byte}
use Rattle.http_header.specs.FieldValue.{FieldValue}
use Rattle.http_header.specs.HeaderMap.{get}
use Rattle.http_port.specs.Headers.{Headers}

-- a name in a host ends there, or a port follows
abbrev pub ends_name : List ℕ → Bool
ends_name [] = true
ends_name (b ∷ rest) = b == byte ":"

abbrev pub has_name : List ℕ → List ℕ → Bool
has_name host name = bytes_eq (take (length name) host) name && ends_name (drop (length name) host)

-- a host that is this machine, by one of its three names
abbrev pub is_here : List ℕ → Bool
is_here host = has_name host (codes "127.0.0.1") || has_name host (codes "localhost") || has_name host (codes "[::1]")

-- the host is this machine, or none is named
abbrev pub is_local : Headers → Bool
is_local headers = unwrap_or (option_map (λ (v : FieldValue). is_here v.bytes) (get headers (codes "host"))) true

-- it has the header that no form of a web page sends
abbrev pub has_act : Headers → Bool
has_act headers = is_some (get headers (codes "lambda-broker-act"))

abbrev pub may_act : Headers → Bool
may_act headers = is_local headers && has_act headers
