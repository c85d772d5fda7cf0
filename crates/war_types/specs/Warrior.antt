-- What a warrior is, and which settings it fits.
use Rattle.std.specs.Prelude.{ℕ, ◌<◌, ◌≤◌, List, length, All}
use Rattle.war_types.specs.{declared.instr.Instr.Instr, declared.settings.RawSettings.RawSettings}

-- a warrior without its place in memory
pub record WarriorParts : Type 0 where
  pub code : List Instr
  pub start : ℕ
  pub name : List ℕ
  pub author : List ℕ

abbrev pub warrior_parts : List Instr → ℕ → List ℕ → List ℕ → WarriorParts
warrior_parts code start name author = record { code = code; start = start; name = name; author = author }

-- both numbers are addresses of a core of this size
pub record HasNumbersBelow (core : ℕ) (i : Instr) : Type 0 where
  pub a : i.a < core
  pub b : i.b < core

-- a warrior that may fight under these settings
pub record Fits (s : RawSettings) (w : WarriorParts) : Type 0 where
  pub start : w.start < length w.code
  pub length : length w.code ≤ s.length
  pub numbers : All (HasNumbersBelow s.core) w.code

-- what every warrior keeps, whatever its settings: it has an instruction, its start is one, and they are few
pub record IsWarrior (w : WarriorParts) : Type 0 where
  pub start : w.start < length w.code
  pub short : length w.code ≤ 200
