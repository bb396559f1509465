-- Which hosts a port does not answer to. A page may be served under a name that is made to lead to this machine afterwards: a
-- browser then takes what the port answers for the page's own.
use Rattle.std.specs.Prelude.{ℕ, ◌-◌, ◌==◌, Bool, false, ◌&&◌, ◌||◌, not, List, [], ◌∷◌, length, take, drop, codes, string_bytes, bytes_eq, Option, Some, None, option_map, if◌then◌else◌}
use Rattle.std.specs.List.{before_first, list_all, list_any}
use Rattle.std.specs.Char.{is_ascii_digit}
use Rattle.std.specs.Str.{str_eq_ignore_ascii_case}
use Rattle.std.specs.declared.net.ip_addr.IpAddr.{IpAddr}
use Rattle.std.specs.Net.Addr.{MatchIp, IsLoopbackV4, IsLoopbackV6}
use Rattle.http_port.specs.declared.hosts.Hosts.{Hosts}
use Rattle.http_port.specs.declared.hosts.Hosts.TheVariants.{All, Local}

abbrev pub is_colon : ℕ → Bool
is_colon b = b == 58

abbrev pub is_dot : ℕ → Bool
is_dot b = b == 46

-- a name without a dot at its end
abbrev pub without_last_dot : List ℕ → List ℕ
without_last_dot name = if bytes_eq (drop (length name - 1) name) (46 ∷ []) then take (length name - 1) name else name

-- the name in a host: what stands before its port, without a dot at its end. That of an IPv6 address has no dot
abbrev pub name_in : List ℕ → List ℕ
name_in host = without_last_dot (before_first is_colon host)

-- an IPv4 address: a browser looks up no name of digits and dots alone
abbrev pub is_numeric : List ℕ → Bool
is_numeric name = list_all (λ b. is_ascii_digit b || is_dot b) name

-- a name that each machine gives to itself
abbrev pub is_under_localhost : List ℕ → Bool
is_under_localhost name = str_eq_ignore_ascii_case (drop (length name - 10) name) (codes ".localhost")

-- the name that was given
abbrev pub is_given : Option (List ℕ) → List ℕ → Bool
is_given None name = false
is_given (Some given) name = str_eq_ignore_ascii_case name (name_in given)

-- a name that may be that of a page's site: it has a dot, and is none of this machine
abbrev pub is_foreign_name : Option (List ℕ) → List ℕ → Bool
is_foreign_name given name = list_any is_dot name && not (is_numeric name) && not (is_under_localhost name) && not (is_given given name)

-- an address of this machine, which no other reaches
abbrev pub IsLoopback : IpAddr → Type 0
IsLoopback reach = MatchIp reach IsLoopbackV4 IsLoopbackV6

-- the name that was given beside those of this machine, where a port judges hosts
abbrev pub judged_by : Hosts → Option (Option (List ℕ))
judged_by All = None
judged_by (Local given) = Some (option_map string_bytes given)

-- a host that a port does not answer to
abbrev pub is_foreign_host : Hosts → List ℕ → Bool
is_foreign_host All host = false
is_foreign_host (Local given) host = is_foreign_name (option_map string_bytes given) (name_in host)
