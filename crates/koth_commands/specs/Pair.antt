-- What sources assemble to.
use Rattle.std.specs.Prelude.{◌≡◌, ℕ, List, Ok, Err}
use Rattle.{war_types.specs.{Warrior.{WarriorParts, Fits}, declared.fault.AsmFault.AsmFault, declared.settings.RawSettings.RawSettings}, redcode_asm.specs.Assembly.assembly}

-- some source assembles to the warrior, which may fight under the settings
pub record IsWarriorOf (s : RawSettings) (warrior : WarriorParts) : Type 0 where
  pub source : List ℕ
  pub comes : assembly s source ≡ Ok warrior
  pub fits : Fits s warrior

-- some source is refused with this fault
pub record IsFaultOf (s : RawSettings) (fault : AsmFault) : Type 0 where
  pub source : List ℕ
  pub comes : assembly s source ≡ Err fault
