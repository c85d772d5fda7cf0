-- What the warriors of a hill are submitted as to another one.
use Rattle.std.specs.Prelude.{ℕ, List, ◌++◌, codes, map}
use Rattle.{war_types.specs.Warrior.WarriorParts, redcode_asm.specs.LoadText.load_text, koth_hill.specs.Kept.Kept}

-- the titles of a warrior, and its load text
abbrev pub source_of : ℕ → WarriorParts → List ℕ
source_of core w = codes ";name " ++ w.name ++ codes "\n;author " ++ w.author ++ codes "\n" ++ load_text core w

-- those of all on a hill, in the order of their entries
abbrev pub sources_of : Kept → List (List ℕ)
sources_of hill = map (λ m. source_of hill.settings.core m.warrior) hill.members
