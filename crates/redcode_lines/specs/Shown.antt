-- What a terminal acts upon, and a text as a terminal may have it.
use Rattle.std.specs.{Prelude.{ℕ, zero, suc, ◌+◌, ◌-◌, ◌*◌, Bool, not, ◌&&◌, ◌||◌, ◌==◌, if◌then◌else◌, List, [], ◌∷◌}, Char.is_control, Int.is_in_range}

-- a mark or an override of the direction in which a text is written
abbrev pub is_direction : ℕ → Bool
is_direction c = is_in_range 0x200E 0x200F c || (is_in_range 0x202A 0x202E c || is_in_range 0x2066 0x2069 c)

-- a terminal acts upon the character of this number: a control character, or one of direction
abbrev pub is_acted_on : ℕ → Bool
is_acted_on c = is_control c || is_direction c

-- a byte that goes on with a character in UTF-8
abbrev pub goes_on : ℕ → Bool
goes_on b = is_in_range 0x80 0xBF b

-- two bytes that spell such a character
abbrev pub is_acted_on_two : ℕ → ℕ → Bool
is_acted_on_two a b = is_in_range 0xC0 0xDF a && (goes_on b && is_acted_on ((a - 0xC0) * 64 + (b - 0x80)))

-- three bytes that spell such a character
abbrev pub is_acted_on_three : ℕ → ℕ → ℕ → Bool
is_acted_on_three a b c =
    is_in_range 0xE0 0xEF a && (goes_on b && (goes_on c && is_acted_on ((a - 0xE0) * 4096 + (b - 0x80) * 64 + (c - 0x80))))

-- a byte that is such a character: a control byte other than the tab
abbrev pub is_acted_on_one : ℕ → Bool
is_acted_on_one a = (is_in_range 0 31 a || a == 127) && not (a == 9)

abbrev pub width_of_one : ℕ → ℕ
width_of_one a = if is_acted_on_one a then 1 else 0

-- the bytes of the character at the front that a terminal acts upon; 0 if it acts upon none there, or upon a tab
abbrev pub acted_width : List ℕ → ℕ
acted_width [] = 0
acted_width (a ∷ []) = width_of_one a
acted_width (a ∷ b ∷ []) = if is_acted_on_two a b then 2 else width_of_one a
acted_width (a ∷ b ∷ c ∷ bytes) = if is_acted_on_two a b then 2 else (if is_acted_on_three a b c then 3 else width_of_one a)

abbrev pub shown_byte : ℕ → ℕ → ℕ
shown_byte zero b = b
shown_byte (suc width) b = 63

-- the same from the byte on that is after `skipped` others
abbrev pub shown_behind : ℕ → List ℕ → List ℕ
shown_behind skipped [] = []
shown_behind (suc skipped) (b ∷ bytes) = shown_behind skipped bytes
shown_behind zero (b ∷ bytes) = shown_byte (acted_width (b ∷ bytes)) b ∷ shown_behind (acted_width (b ∷ bytes) - 1) bytes

-- a text with a question mark for each character that a terminal acts upon, but for the tab: as many columns as before
abbrev pub shown_text : List ℕ → List ℕ
shown_text bytes = shown_behind 0 bytes
