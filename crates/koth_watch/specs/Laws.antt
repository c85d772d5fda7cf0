-- What holds of every page of a round.
use Rattle.std.specs.{Prelude.{ℕ, ◌==◌, Bool, ◌&&◌, not, []}, Str.byte}
use Rattle.{war_types.specs.Warrior.{WarriorParts, warrior_parts}, koth_text.specs.Characters.is_page_byte}

-- a byte of the data: a byte of a page that begins no tag, so that no data end the element that they stand in
abbrev pub is_data_byte : ℕ → Bool
is_data_byte b = is_page_byte b && not (b == byte "<")

-- the same warrior without a name and an author
abbrev pub unnamed : WarriorParts → WarriorParts
unnamed w = warrior_parts w.code w.start [] []
