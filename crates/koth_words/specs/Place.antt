-- Where a hill elsewhere is: an address and a port.
use Rattle.std.specs.{Prelude.{ℕ, ◌+◌, ◌*◌, ◌-◌, ◌==◌, Bool, true, false, nat_lt, not, if◌then◌else◌, List, codes, fold}, Char.is_ascii_digit, Option.option_map_or}
use Rattle.{clap.specs.Words.{Row, Text, first_of}, koth_words.specs.declared.place.Part.{Part}}

-- a number with a digit more, and what a colon (byte 58) or another byte makes of it
abbrev pub with_digit : ℕ → ℕ → Part
with_digit port byte =
    if byte == 58 then Part.Colon else (
    if not (is_ascii_digit byte) then Part.NoPort else (
    if nat_lt (port * 10 + (byte - 48)) 65536 then Part.Port (port * 10 + (byte - 48)) else Part.NoPort))

-- what was read of an address and a port with one byte more
abbrev pub part_after : Part → ℕ → Part
part_after Part.Nothing byte = if byte == 58 then Part.Nothing else Part.Address
part_after Part.Address byte = if byte == 58 then Part.Colon else Part.Address
part_after Part.Colon byte = with_digit 0 byte
part_after (Part.Port port) byte = with_digit port byte
part_after Part.NoPort byte = if byte == 58 then Part.Colon else Part.NoPort

abbrev pub is_port : Part → Bool
is_port (Part.Port port) = nat_lt 0 port
is_port Part.Nothing = false
is_port Part.Address = false
is_port Part.Colon = false
is_port Part.NoPort = false

-- a number from 1 to 65,535 is after the last colon of a text, and an address before it
abbrev pub names_port : Text → Bool
names_port text = is_port (fold part_after Part.Nothing text)

-- the place that `--to` names has an address and a port, if it is given
abbrev pub writes_place : List Row → Bool
writes_place given = option_map_or names_port (first_of (codes "to") given) true
