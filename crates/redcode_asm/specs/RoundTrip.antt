-- What load text is for: the assembler reads it back.
use Rattle.std.specs.Prelude.{◌≡◌, ℕ, List, Ok}
use Rattle.{war_types.specs.{declared.settings.RawSettings.RawSettings, Settings.AreSettings, Warrior.{WarriorParts, Fits}}, redcode_asm.specs.Assembly.{assembly, warrior_with}}

-- under any settings of this core size that the warrior fits, the text assembles to its code and start
abbrev pub AssemblesTo : ℕ → List ℕ → WarriorParts → Type 0
AssemblesTo core text w = (s : RawSettings) → AreSettings s → s.core ≡ core → Fits s w → assembly s text ≡ Ok (warrior_with w.code w.start)
