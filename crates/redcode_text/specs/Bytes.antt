-- What a byte may be in a line.
use Rattle.std.specs.{Prelude.{ℕ, Bool, true, false, ◌||◌, ◌&&◌, ◌==◌, nat_le, codes}, List.list_any}

abbrev pub is_digit : ℕ → Bool
is_digit b = nat_le 48 b && nat_le b 57

-- what a name begins with
abbrev pub is_letter : ℕ → Bool
is_letter b = nat_le 65 b && nat_le b 90 || (nat_le 97 b && nat_le b 122 || b == 95)

-- what a name goes on with
abbrev pub is_name_byte : ℕ → Bool
is_name_byte b = is_letter b || is_digit b

-- what a name goes on with, or without letters a number
abbrev pub goes_on : Bool → ℕ → Bool
goes_on true b = is_name_byte b
goes_on false b = is_digit b

-- the symbols of one byte
abbrev pub is_symbol : ℕ → Bool
is_symbol b = list_any (λ s. s == b) (codes ".,:&!<>+-*/%()#$@{}")

-- the symbols of two: && and ||, and an equals sign after !, <, = or >
abbrev pub are_symbol : ℕ → ℕ → Bool
are_symbol a b = a == 38 && b == 38 || (a == 124 && b == 124 || b == 61 && list_any (λ s. s == a) (codes "!<=>"))
