-- The lines that a browser sends in place of commands.
use Rattle.std.specs.{Prelude.{ℕ, ◌||◌, ◌==◌, not, Bool, List, map, nat_eq, take, codes}, Char.{is_ascii_control, to_ascii_lowercase}, List.{list_all, starts_with}, Str.bytes_eq}

-- a method of HTTP and a blank
abbrev pub names_method : List ℕ → Bool
names_method line =
    starts_with nat_eq line (codes "GET ") || starts_with nat_eq line (codes "HEAD ") || starts_with nat_eq line (codes "POST ")
    || starts_with nat_eq line (codes "PUT ") || starts_with nat_eq line (codes "DELETE ") || starts_with nat_eq line (codes "CONNECT ")
    || starts_with nat_eq line (codes "OPTIONS ") || starts_with nat_eq line (codes "TRACE ") || starts_with nat_eq line (codes "PATCH ")

-- `Host:` in any letter case
abbrev pub names_host : List ℕ → Bool
names_host line = bytes_eq (map to_ascii_lowercase (take 5 line)) (map to_ascii_lowercase (codes "host:"))

-- a line begins as a request of HTTP does: its first eight bytes tell
abbrev pub is_request : List ℕ → Bool
is_request line = names_method (take 8 line) || names_host (take 8 line)

-- a byte that an author may send: no control byte but a tab or a carriage return
abbrev pub is_sent : ℕ → Bool
is_sent byte = not (is_ascii_control byte) || (byte == 9 || byte == 13)

-- No author sends such a line: it begins as a request of HTTP does, or has another control byte among its first 256
-- bytes, as a record of TLS has.
abbrev pub is_foreign : List ℕ → Bool
is_foreign line = is_request line || not (list_all is_sent (take 256 line))
