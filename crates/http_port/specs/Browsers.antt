-- Which requests a port refuses by their heads alone: those that a browser makes for a web page, those for another host, and those
-- whose bodies come in a coding that it does not read.
use Rattle.std.specs.Prelude.{ℕ, Bool, ◌&&◌, ◌||◌, not, List, codes, bytes_eq, Option, Some, None, is_some, if◌then◌else◌}
use Rattle.std.specs.List.{list_any}
use Rattle.std.specs.Str.{str_eq_ignore_ascii_case}
use Prim.Native.String.{String}
use Rattle.http_header.specs.HeaderMap.{get, get_all}
use Rattle.http_header.specs.FieldValue.{FieldValue}
use Rattle.http_port.specs.Answering.{Message, IsJson}
use Rattle.http_port.specs.Headers.{Headers}
use Rattle.http_port.specs.Hosts.{is_foreign_host}
use Rattle.http_port.specs.declared.hosts.Hosts.{Hosts}
use Rattle.http_port.specs.declared.forbidden.Forbidden.{Forbidden}
use Rattle.http_port.specs.declared.forbidden.Forbidden.TheVariants.{CrossOrigin, UnknownHost, TransferCoding}

-- one of the values under a name, which is given in small letters, passes a test
abbrev pub any_value : (List ℕ → Bool) → String → Headers → Bool
any_value test name headers = list_any (λ (v : FieldValue). test v.bytes) (get_all headers (codes name))

-- of `Sec-Fetch-Site`, by which a browser tells for whom it makes a request: neither for its user nor for a page of this port
abbrev pub is_other_site : List ℕ → Bool
is_other_site site = not (bytes_eq site (codes "none")) && not (bytes_eq site (codes "same-origin"))

-- a browser makes the request for a page. Whatever `Origin` says: no page of this port sends one
abbrev pub is_from_a_page : Headers → Bool
is_from_a_page headers = is_some (get headers (codes "origin")) || any_value is_other_site "sec-fetch-site" headers

-- of `Transfer-Encoding`: a coding that the port does not read, or more than one
abbrev pub is_other_coding : List ℕ → Bool
is_other_coding coding = not (str_eq_ignore_ascii_case coding (codes "chunked"))

-- why a request with these headers is refused, where it is
abbrev pub forbidden_of : Hosts → Headers → Option Forbidden
forbidden_of hosts headers =
    if is_from_a_page headers then Some CrossOrigin
    else if any_value (is_foreign_host hosts) "host" headers then Some UnknownHost
    else if any_value is_other_coding "transfer-encoding" headers then Some TransferCoding
    else None

-- what its client is told
abbrev pub forbidden_text : Forbidden → List ℕ
forbidden_text CrossOrigin = codes "{\"errorMessage\":\"requests of web pages are refused\",\"errorType\":\"CrossOrigin\"}"
forbidden_text UnknownHost = codes "{\"errorMessage\":\"this host is not served here, see serve --host\",\"errorType\":\"UnknownHost\"}"
forbidden_text TransferCoding = codes "{\"errorMessage\":\"no transfer coding but chunked is understood\",\"errorType\":\"TransferCoding\"}"

abbrev pub forbidden_status : Forbidden → ℕ
forbidden_status CrossOrigin = 403
forbidden_status UnknownHost = 403
forbidden_status TransferCoding = 501

abbrev pub IsForbidden : Forbidden → Message → Type 0
IsForbidden why told = IsJson (forbidden_status why) (forbidden_text why) told
