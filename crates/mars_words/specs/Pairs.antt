-- The pairs of fields that a modifier names (the 1994 draft standard, "Instruction Modifiers").
use Rattle.std.specs.Prelude.{List, [], ◌∷◌}
use Rattle.{war_types.specs.declared.instr.Modifier.Modifier, mars_words.specs.Numbers.Field}

-- a field of the A operand with a field of the B operand
pub record Pair : Type 0 where
  pub source : Field
  pub target : Field

abbrev pub pair : Field → Field → Pair
pair source target = record { source = source; target = target }

abbrev pub pairs : Modifier → List Pair
pairs Modifier.A = pair Field.A Field.A ∷ []
pairs Modifier.B = pair Field.B Field.B ∷ []
pairs Modifier.AB = pair Field.A Field.B ∷ []
pairs Modifier.BA = pair Field.B Field.A ∷ []
pairs Modifier.F = pair Field.A Field.A ∷ pair Field.B Field.B ∷ []
pairs Modifier.X = pair Field.A Field.B ∷ pair Field.B Field.A ∷ []
pairs Modifier.I = pair Field.A Field.A ∷ pair Field.B Field.B ∷ []
