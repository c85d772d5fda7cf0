-- Which part of a work is asked for: `K/N`.
use Rattle.std.specs.{Prelude.{ℕ, ◌+◌, ◌*◌, ◌-◌, ◌==◌, ◌&&◌, nat_le, nat_lt, not, if◌then◌else◌, List, Option, None, Some, codes, fold, option_and_then}, Char.is_ascii_digit}
use Rattle.{clap.specs.Words.{Row, Text, first_of}, koth_words.specs.{declared.fraction.Read.Read, declared.requests.Part.Part}}

-- a number with a digit more, if that is one of 32 bits
abbrev pub after_digit : ℕ → ℕ → Option ℕ
after_digit number byte =
    if not (is_ascii_digit byte) then None else (
    if nat_lt (number * 10 + (byte - 48)) 4294967296 then Some (number * 10 + (byte - 48)) else None)

abbrev pub with_number : Option ℕ → Read
with_number (Some number) = Read.Number number
with_number None = Read.NoPart

abbrev pub with_count : ℕ → Option ℕ → Read
with_count number (Some count) = Read.Both number count
with_count number None = Read.NoPart

-- what was read with one byte more, of which 47 is the slash
abbrev pub read_after : Read → ℕ → Read
read_after Read.Nothing byte = with_number (after_digit 0 byte)
read_after (Read.Number number) byte = if byte == 47 then Read.Slash number else with_number (after_digit number byte)
read_after (Read.Slash number) byte = with_count number (after_digit 0 byte)
read_after (Read.Both number count) byte = with_count number (after_digit count byte)
read_after Read.NoPart byte = Read.NoPart

-- the part of what was read: the number is from 1 to the count
abbrev pub part_of : Read → Option Part
part_of (Read.Both number count) = if nat_le 1 number && nat_le number count then Some (record { number = number; count = count }) else None
part_of Read.Nothing = None
part_of (Read.Number number) = None
part_of (Read.Slash number) = None
part_of Read.NoPart = None

-- the part that a text names: two numbers of 32 bits, with a slash between them
abbrev pub part_at : Text → Option Part
part_at text = part_of (fold read_after Read.Nothing text)

-- the part that `--part` names, if it names one
abbrev pub part_in : List Row → Option Part
part_in given = option_and_then part_at (first_of (codes "part") given)
