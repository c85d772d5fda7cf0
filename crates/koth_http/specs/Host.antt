-- Which host a request is for, and which hosts are answered.
use Rattle.std.specs.Prelude.{◌≡◌, ◌⊎◌, ℕ, ◌<◌, ◌-◌, ◌==◌, nat_lt, nat_le, Bool, true, not, ◌||◌, ◌&&◌, if◌then◌else◌, List, [], ◌∷◌, length, map, take, drop, get_or}
use Rattle.std.specs.{Prelude.{slice_range, Option, None, Some, unwrap_or, codes}, Char.is_ascii_digit, List.{after_first, before_first, list_all, list_any}, Net.Grammar.{IsIpv4Text, IsIpv6Text, IsSocketText}, Str.{byte, str_eq_ignore_ascii_case}}
use Rattle.std.specs.{declared.net.ipv4_addr.Ipv4Addr.Ipv4Addr, declared.net.ipv6_addr.Ipv6Addr.Ipv6Addr, declared.net.socket_addr.SocketAddr.SocketAddr}
use Rattle.{httparse.specs.{Grammar.RequestHead, Spans.name_and_value}, koth_http.specs.{Target.is_slash, declared.refusal.Refusal.Refusal}}

-- ---- which host a head names

-- a field `Host`, by its name and its value
abbrev pub is_host : List ℕ × List ℕ → Bool
is_host field = str_eq_ignore_ascii_case field.0 (codes "host")

-- the values of the fields `Host` among these
abbrev pub host_values : List (List ℕ × List ℕ) → List (List ℕ)
host_values [] = []
host_values (field ∷ fields) = if is_host field then field.1 ∷ host_values fields else host_values fields

-- the first of these, or the empty host if there is none
abbrev pub first_host : List (List ℕ) → List ℕ
first_host [] = []
first_host (host ∷ hosts) = host

abbrev pub hosts_of : RequestHead → List (List ℕ)
hosts_of head = host_values (map name_and_value head.fields)

-- a target that names its host
abbrev pub is_absolute : List ℕ → Bool
is_absolute target = nat_le 7 (length target) && str_eq_ignore_ascii_case (take 7 target) (codes "http://")

-- of such a target the host
abbrev pub authority_of : List ℕ → List ℕ
authority_of target = before_first is_slash (drop 7 target)

abbrev pub host_named : List ℕ → Option (List ℕ)
host_named target = if is_absolute target then Some (authority_of target) else None

-- what a target asks of its host: without a path the hill's page
abbrev pub path_or_root : List ℕ → List ℕ
path_or_root [] = codes "/"
path_or_root (b ∷ bs) = b ∷ bs

abbrev pub origin_of : List ℕ → List ℕ
origin_of target = if is_absolute target then path_or_root (drop (length (authority_of target)) (drop 7 target)) else target

-- the host that a request is for: that of its target counts before that of its fields
abbrev pub host_by : List ℕ → List ℕ → List ℕ
host_by target first = unwrap_or (host_named target) first

abbrev pub host_of : RequestHead → List ℕ
host_of head = host_by head.target (first_host (hosts_of head))

-- ---- which hosts are answered

-- a name without the dot that may end it
abbrev pub undotted : List ℕ → List ℕ
undotted name = if get_or name (length name - 1) 0 == byte "." then take (length name - 1) name else name

-- an IPv6 address in brackets
abbrev pub IsBracketed : List ℕ → Type 0
IsBracketed host = (get_or host 0 0 ≡ byte "[") × (get_or host (length host - 1) 0 ≡ byte "]")
    × ((a : Ipv6Addr) × IsIpv6Text (slice_range host 1 (length host - 1)) a)

-- an address, with a port or without; one of IPv4 may end with a dot, as a name may
abbrev pub IsAddress : List ℕ → Type 0
IsAddress host = ((a : SocketAddr) × IsSocketText host a) ⊎ (((a : Ipv4Addr) × IsIpv4Text (undotted host) a) ⊎ IsBracketed host)

abbrev pub is_colon : ℕ → Bool
is_colon b = b == byte ":"

-- what follows a host's name is no port, or one of digits
abbrev pub has_port : List ℕ → Bool
has_port host = list_all is_ascii_digit (after_first is_colon host)

-- a host without its port and a dot at its end has this name, upper and lower case being one, and no user before it
abbrev pub has_name : List ℕ → List ℕ → Bool
has_name host name = str_eq_ignore_ascii_case (undotted (before_first is_colon host)) name && has_port host && not (list_any (λ b. b == byte "@") host)

-- a host has one of these names
abbrev pub IsNamed : List (List ℕ) → List ℕ → Type 0
IsNamed names host = (at : ℕ) × (at < length names) × (has_name host (get_or names at []) ≡ true)

-- the host is this machine's: an address, `localhost`, or one of the names that were given
abbrev pub IsOwn : List (List ℕ) → List ℕ → Type 0
IsOwn names host = (has_name host (codes "localhost") ≡ true) ⊎ (IsAddress host ⊎ IsNamed names host)

-- what is said of a host: only one of this machine's is said to be one, and `localhost` is
pub record IsJudged (names : List (List ℕ)) (host : List ℕ) (own : Bool) : Type 0 where
  pub only : own ≡ true → IsOwn names host
  pub local : has_name host (codes "localhost") ≡ true → own ≡ true

-- ---- what follows

-- why a request of HTTP/1.MINOR with this number of fields `Host` gets no page, if its host is this machine's or isn't
abbrev pub host_fault : ℕ → ℕ → Bool → Option Refusal
host_fault minor count own =
    if nat_lt 1 count || (count == 0 && minor == 1) then Some Refusal.BadRequest else (if own then None else Some Refusal.Misdirected)
